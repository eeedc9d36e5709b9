use Rattle.std.proofs.Common.{◌-◌, ◌≤◌, length, map}
use Rattle.assign_search.specs.Rest.{AreEmpty}
use Rattle.assign_search.proofs.grouping.no_groups.Given as goal

abbrev pub invariant-loop-alloc : goal.invariant-loop-alloc
invariant-loop-alloc l = record {
  short : length l.groups.items ≤ l.count;
  empty : AreEmpty (length l.groups.items) (map (λ a. a.items) l.groups.items);
}

abbrev pub decreases-loop-alloc : goal.decreases-loop-alloc
decreases-loop-alloc l = l.count - length l.groups.items
