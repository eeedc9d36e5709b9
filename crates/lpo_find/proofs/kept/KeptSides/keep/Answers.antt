use Rattle.std.proofs.Common.{List, ℕ, subst}
use Rattle.lpo_find.specs.KeptSides.{Remembers}
use Rattle.lpo_find.proofs.kept.KeptSides.keep.Goals as goal

pub returns-in-Ok : goal.returns-in-Ok
returns-in-Ok c =
    subst (λ (vs : List ℕ). Remembers c.args.self.now.places.items c.args.number vs c.args.shared c.put.new.self.places.items) c.in-Ok.ensures.items c.put.ensures
