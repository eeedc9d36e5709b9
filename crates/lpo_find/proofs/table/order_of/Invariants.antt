use Rattle.order_search.specs.OrderSpace.{arity_with_mark}
use Rattle.lpo_find.proofs.TableSteps.{AreSoFar}
use Rattle.lpo_find.proofs.table.order_of.Given as goal

abbrev pub invariant-loop-i : goal.invariant-loop-i
invariant-loop-i l = AreSoFar (arity_with_mark l.arities) l.symbols l.values l.i l.entries.items
