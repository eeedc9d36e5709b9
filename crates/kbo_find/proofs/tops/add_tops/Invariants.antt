use Rattle.std.proofs.Common.{map}
use Rattle.kbo_find.specs.KboPlaces.{asked_of}
use Rattle.kbo_find.proofs.TopSteps.{AreOfOne}
use Rattle.kbo_find.proofs.tops.add_tops.Given as goal

abbrev pub invariant-loop-other : goal.invariant-loop-other
invariant-loop-other l = AreOfOne l.symbols l.unary (map asked_of l.initial.tops.items) l.other-index (map asked_of l.tops.items)
