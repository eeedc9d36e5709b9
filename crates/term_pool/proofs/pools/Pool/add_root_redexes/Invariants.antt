use Rattle.std.proofs.Common.{◌++◌, List, drop, map}
use Rattle.trs_defs.specs.Path.{PlacedRule}
use Rattle.term_pool.specs.Pooled.{tree_at}
use Rattle.term_pool.specs.Redexes.{AreRootRedexes, Grows, below}
use Rattle.term_pool.specs.Known.{IsKnown}
use Rattle.term_pool.proofs.RedexWalk.{AreMatches}
use Rattle.term_pool.proofs.pools.Pool.add_root_redexes.Given as goal

abbrev pub invariant-loop-k : goal.invariant-loop-k
invariant-loop-k l = record {
  rest : (rest : List PlacedRule) → AreMatches l.rules (tree_at l.self l.id) (drop l.k-index l.k-items) rest
      → Grows l.place (AreRootRedexes l.rules 0 (tree_at l.self l.id)) l.fn.found.items (l.found.items ++ map (below l.place) rest);
  known : IsKnown l.by_root.rules l.self l.known;
}
