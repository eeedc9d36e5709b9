use Rattle.std.proofs.Common.{◌↔◌, drop, map}
use Rattle.trs_defs.specs.Tree.{trees}
use Rattle.term_pool.specs.Pooled.{tree_at}
use Rattle.term_pool.specs.Redex.{HasRedex, SomeHasRedex}
use Rattle.term_pool.specs.Known.{IsKnown}
use Rattle.term_pool.proofs.pools.Pool.+has_redex.Given as goal

abbrev pub decreases-has_redex : goal.decreases-has_redex
decreases-has_redex l = l.id

abbrev pub invariant-loop-arg : goal.invariant-loop-arg
invariant-loop-arg l = record {
  same : SomeHasRedex l.by_root.rules (trees (map (tree_at l.self) (drop l.arg-index l.arg-items))) ↔ HasRedex l.by_root.rules (tree_at l.self l.id);
  known : IsKnown l.by_root.rules l.self l.known;
}
