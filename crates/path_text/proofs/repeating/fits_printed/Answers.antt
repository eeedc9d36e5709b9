use Rattle.std.proofs.Common.{map, sym, ◌∙◌, arith}
use Rattle.path_text.proofs.FewPaths.{light_fits}
use Rattle.path_text.proofs.repeating.fits_printed.Goals as goal

pub returns-then-room : goal.returns-then-room
returns-then-room c =
    light_fits (map (λ p. p.now) c.args.paths.now) c.in-Some.room (sym c.room_behind_paths.ensures ∙ c.in-Some.is) (omega (arith, c.if-room.true))
