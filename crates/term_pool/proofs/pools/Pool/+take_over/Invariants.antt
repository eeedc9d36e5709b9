use Rattle.std.proofs.Common.{map}
use Rattle.term_pool.specs.Pooled.{tree_at}
use Rattle.term_pool.specs.Crossing.{AreKnownIds}
use Rattle.term_pool.proofs.TakenArguments.{AreTaken}
use Rattle.term_pool.proofs.pools.Pool.+take_over.Given as goal

abbrev pub decreases-take_over : goal.decreases-take_over
decreases-take_over l = l.id

abbrev pub invariant-loop-arg : goal.invariant-loop-arg
invariant-loop-arg l = record {
  taken : AreTaken (map (tree_at l.from) l.arg-items) l.fn.self l.self l.ids.items l.arg-index;
  known : AreKnownIds l.from l.self l.known;
}
