use Rattle.std.proofs.Common.{◌<◌, ◌≤◌, ◌+◌, ◌-◌, All, length}
use Rattle.term_pool.specs.Pooled.{Extends, tree_at}
use Rattle.term_pool.specs.ListedIds.{listed_at}
use Rattle.path_lists.specs.Adding.{most_ids}
use Rattle.path_lists.specs.KnownEnds.{AreKnownEnds}
use Rattle.path_lists.proofs.PathLaws.{IsLookedAt}
use Rattle.path_lists.proofs.paths.paths_from.Given as goal

abbrev pub decreases-loop-next : goal.decreases-loop-next
decreases-loop-next l = 256 - l.next

abbrev pub invariant-loop-next : goal.invariant-loop-next
invariant-loop-next l = record {
  looked : IsLookedAt l.trs.rules (tree_at l.fn.pool l.start) l.next (listed_at l.pool l.paths.items);
  below : All (λ e. e.0 < length l.pool) l.paths.items;
  kept : Extends l.fn.pool l.pool;
  room : most_ids l.pool l.paths.items ≤ length l.fn.pool + 1048576;
  next : l.next ≤ length l.paths.items;
  short : length l.paths.items ≤ 256;
  ends : AreKnownEnds l.trs.rules l.pool l.ends;
}
