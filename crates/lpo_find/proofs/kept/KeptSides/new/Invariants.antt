use Rattle.lpo_find.specs.KeptSides.{AreAlwaysTrue}
use Rattle.lpo_find.proofs.kept.KeptSides.new.Given as goal

abbrev pub invariant-loop : goal.invariant-loop
invariant-loop l = AreAlwaysTrue l.places.items
