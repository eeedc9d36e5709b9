use Rattle.std.proofs.Common.{drop}
use Rattle.dp_core.specs.Symbols.{symbols_below_roots}
use Rattle.order_search.proofs.Growing.{LeftOf}
use Rattle.order_search.proofs.below_roots.add_below_roots.Given as goal

abbrev pub invariant-loop-pair : goal.invariant-loop-pair
invariant-loop-pair l = LeftOf l.fn.set.items l.set.items (symbols_below_roots l.pairs) (symbols_below_roots (drop l.pair-index l.pairs))
