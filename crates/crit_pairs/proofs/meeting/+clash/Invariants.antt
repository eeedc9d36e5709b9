use Rattle.std.proofs.Common.{◌≡◌, length}
use Rattle.crit_pairs.proofs.meeting.+clash.Given as goal

abbrev pub invariant-loop-i : goal.invariant-loop-i
invariant-loop-i l = length l.x-items ≡ length l.gs-inside.items.items
