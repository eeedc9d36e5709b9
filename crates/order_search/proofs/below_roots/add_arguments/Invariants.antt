use Rattle.std.proofs.Common.{drop}
use Rattle.trs_core.specs.View.{forest}
use Rattle.dp_core.specs.Symbols.{symbols_of_all}
use Rattle.order_search.proofs.Growing.{LeftOf}
use Rattle.order_search.proofs.below_roots.add_arguments.Given as goal

abbrev pub invariant-loop-arg : goal.invariant-loop-arg
invariant-loop-arg l = LeftOf l.fn.set.items l.set.items (symbols_of_all (forest l.arg-items)) (symbols_of_all (forest (drop l.arg-index l.arg-items)))
