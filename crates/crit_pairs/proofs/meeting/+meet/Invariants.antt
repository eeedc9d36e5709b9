use Rattle.std.proofs.Common.{◌≡◌, ◌+◌, ◌*◌, length, drop, true}
use Rattle.crit_pairs.proofs.Bindings.{FollowFromWhole, SaysAsWhole}
use Rattle.crit_pairs.proofs.meeting.+meet.Given as goal

abbrev pub decreases-meet : goal.decreases-meet
decreases-meet l = 3 * l.levels + 2

abbrev pub decreases-meet_variable : goal.decreases-meet_variable
decreases-meet_variable l = 3 * l.levels + 1

abbrev pub decreases-meet_bound : goal.decreases-meet_bound
decreases-meet_bound l = 3 * l.levels

abbrev pub invariant-meet-loop-i : goal.invariant-meet-loop-i
invariant-meet-loop-i l = record {
  same_length : length l.x-items ≡ length l.gs-inside.items.items;
  follow : FollowFromWhole l.fn.bindings.list.items l.x-items l.gs-inside.items.items l.bindings.list.items (drop l.i l.x-items) (drop l.i l.gs-inside.items.items);
  says : l.is_clear ≡ true → SaysAsWhole l.fn.bindings.list.items l.x-items l.gs-inside.items.items l.bindings.list.items (drop l.i l.x-items) (drop l.i l.gs-inside.items.items);
}
