use Rattle.std.proofs.Common.{◌≡◌, ◌+◌, ◌-◌, ◌<◌, ◌^◌, map, drop, min, max}
use Rattle.trs_defs.specs.Tree.{trees}
use Rattle.trs_defs.specs.Size.{size_of, size_of_all, depth_of, depth_of_all}
use Rattle.term_pool.specs.Pooled.{tree_at}
use Rattle.term_pool.specs.Nodes.{node_tree}
use Rattle.term_pool.proofs.pools.Pool.measure_of.Given as goal

abbrev pub invariant-loop-arg : goal.invariant-loop-arg
invariant-loop-arg l = record {
  count : l.size < 2 ^ 32;
  size : min (l.size + size_of_all (trees (map (tree_at l.self) (drop l.arg-index l.arg-items)))) (2 ^ 32 - 1) ≡ min (size_of (node_tree l.self l.node)) (2 ^ 32 - 1);
  depth : min (1 + max l.deepest (depth_of_all (trees (map (tree_at l.self) (drop l.arg-index l.arg-items))))) (2 ^ 32 - 1) ≡ min (depth_of (node_tree l.self l.node)) (2 ^ 32 - 1);
}
