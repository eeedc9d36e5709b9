use Rattle.std.proofs.Common.{◌<◌, ◌≤◌, ◌+◌, IfSome, length, take, drop}
use Rattle.trs_defs.specs.Tree.{Tree}
use Rattle.trs_defs.specs.Size.{size_of}
use Rattle.trs_defs.specs.Path.{Follows}
use Rattle.term_pool.specs.Pooled.{Extends, tree_at}
use Rattle.term_pool.proofs.PathLemmas.{StaysBy}
use Rattle.term_pool.proofs.pools.Pool.follow.Given as goal

abbrev pub invariant-loop-k : goal.invariant-loop-k
invariant-loop-k l = record {
  there : l.current < length l.self;
  kept : Extends l.fn.self l.self;
  few : length l.self ≤ length l.fn.self + 1048576;
  small : length l.fn.self < length l.self → size_of (tree_at l.self l.current) ≤ 65536;
  made : Follows l.trs.rules (take l.k l.path) (tree_at l.fn.self l.id) (tree_at l.self l.current);
  idle : IfSome l.idle (λ s. StaysBy l.trs s.now (tree_at l.self l.current));
  only : (v : Tree) → Follows l.trs.rules l.path (tree_at l.fn.self l.id) v → Follows l.trs.rules (drop l.k l.path) (tree_at l.self l.current) v;
}
