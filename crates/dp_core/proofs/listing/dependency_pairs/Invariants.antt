use Rattle.std.proofs.Common.{drop}
use Rattle.dp_core.specs.PlacedPairs.{placed_pairs, placed_pairs_from}
use Rattle.dp_core.proofs.PairWalk.{Whole}
use Rattle.dp_core.proofs.listing.dependency_pairs.Given as goal

abbrev pub invariant-loop-k : goal.invariant-loop-k
invariant-loop-k l = Whole (placed_pairs l.trs.rules) l.pairs.items (placed_pairs_from l.trs.rules l.k (drop l.k l.trs.rules))
