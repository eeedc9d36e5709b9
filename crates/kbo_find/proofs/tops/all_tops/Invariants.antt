use Rattle.std.proofs.Common.{map}
use Rattle.order_search.specs.OrderSpace.{arity_with_mark}
use Rattle.kbo_find.specs.KboPlaces.{asked_of}
use Rattle.kbo_find.proofs.TopSteps.{AreOfAll}
use Rattle.kbo_find.proofs.tops.all_tops.Given as goal

abbrev pub invariant-loop-unary : goal.invariant-loop-unary
invariant-loop-unary l = AreOfAll (arity_with_mark l.arities) l.symbols l.unary-index (map asked_of l.tops.items)
