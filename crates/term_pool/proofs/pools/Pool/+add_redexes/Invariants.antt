use Rattle.std.proofs.Common.{◌≡◌, ◌+◌, ◌≤◌, List, ◌++◌, map, drop, length}
use Rattle.trs_defs.specs.Path.{PlacedRule}
use Rattle.trs_defs.specs.Tree.{trees}
use Rattle.term_pool.specs.Pooled.{tree_at}
use Rattle.term_pool.specs.Redexes.{AreRedexes, AreRedexesOfAll, AreNarrow, Grows, below}
use Rattle.term_pool.specs.Known.{IsKnown}
use Rattle.term_pool.proofs.pools.Pool.+add_redexes.Given as goal

abbrev pub invariant-loop-i : goal.invariant-loop-i
invariant-loop-i l = record {
  rest : (rest : List PlacedRule)
      → AreRedexesOfAll l.by_root.rules (l.i + 1) (trees (map (tree_at l.self) (drop l.i l.arg-items))) rest
      → Grows l.fn.place.items (AreRedexes l.by_root.rules (tree_at l.self l.id)) l.fn.found.items (l.found.items ++ map (below l.fn.place.items) rest);
  narrow : AreNarrow (trees (map (tree_at l.self) (drop l.i l.arg-items)));
  few : length l.arg-items ≤ 255;
  same : l.place.items ≡ l.fn.place.items;
  known : IsKnown l.by_root.rules l.self l.known;
}

abbrev pub decreases-add_redexes : goal.decreases-add_redexes
decreases-add_redexes l = l.id
