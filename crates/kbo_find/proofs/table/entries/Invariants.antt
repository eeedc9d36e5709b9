use Rattle.order_search.specs.OrderSpace.{arity_with_mark}
use Rattle.kbo_find.proofs.TableSteps.{AreSoFar}
use Rattle.kbo_find.proofs.table.entries.Given as goal

abbrev pub invariant-loop-i : goal.invariant-loop-i
invariant-loop-i l = AreSoFar (arity_with_mark l.arities) l.symbols l.values l.i l.entries.items
