use Rattle.std.proofs.Common.{◌≤◌, ◌+◌, ◌-◌, ◌*◌, take, length}
use Rattle.term_pool.specs.Pooled.{Extends, tree_at}
use Rattle.term_pool.specs.Reach.{AreCandidates}
use Rattle.term_pool.specs.Reached.{IsReached}
use Rattle.term_pool.specs.Known.{IsKnown}
use Rattle.term_pool.specs.ListedIds.{listed_at}
use Rattle.term_pool.specs.Reaching.{most_ids, ListsMore}
use Rattle.term_pool.proofs.FollowLaws.{AllFollow}
use Rattle.term_pool.proofs.ListingLaws.{start_of}
use Rattle.term_pool.proofs.pools.Pool.search.Given as goal

abbrev pub decreases-loop-next : goal.decreases-loop-next
decreases-loop-next l = l.bounds.limit - l.next

abbrev pub invariant-loop-next : goal.invariant-loop-next
invariant-loop-next l = record {
  lists : ListsMore l.bounds.limit (AreCandidates l.by_root.rules l.depth l.size (take l.next (listed_at l.self l.reached.list.items))) (start_of (tree_at l.fn.self l.id)) (listed_at l.self l.reached.list.items);
  reached : IsReached l.self l.reached;
  kept : Extends l.fn.self l.self;
  known : IsKnown l.by_root.rules l.self l.known;
  room : most_ids l.bounds.limit l.size l.self l.reached ≤ length l.fn.self + l.count * l.size;
  follow : AllFollow l.by_root.rules (tree_at l.fn.self l.id) (listed_at l.self l.reached.list.items);
  next : l.next ≤ length l.reached.list.items;
  short : length l.reached.list.items ≤ l.bounds.limit;
}
