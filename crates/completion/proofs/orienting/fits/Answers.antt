use Rattle.completion.proofs.Room.{fits_law}
use Rattle.completion.proofs.orienting.fits.Goals as goal

pub returns-then-has_room : goal.returns-then-has_room
returns-then-has_room c =
    let law = fits_law c.args.system.now c.args.rule.now c.has_room.ensures.limits in
    (λ yes. law.0 (c.is_shallow.ensures.shallow.0 yes, c.has_room.ensures.room.0 c.if-has_room.true), λ f. c.is_shallow.ensures.shallow.1 (law.1 f).0)

pub returns-else-has_room : goal.returns-else-has_room
returns-else-has_room c =
    let law = fits_law c.args.system.now c.args.rule.now c.has_room.ensures.limits in
    (λ yes. absurd (cc (yes, c.if-has_room.false)), λ f. c.has_room.ensures.room.1 (law.1 f).1)
