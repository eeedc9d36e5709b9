use Rattle.std.proofs.Common.{◌≡◌, ◌++◌, map, drop, Some, slice_get}
use Rattle.order_search.proofs.taking.take_pairs.Given as goal

abbrev pub invariant-loop-n : goal.invariant-loop-n
invariant-loop-n l = map (slice_get l.pairs) l.problem ≡ map (λ x. Some x) l.taken.items ++ map (slice_get l.pairs) (drop l.n-index l.problem)
