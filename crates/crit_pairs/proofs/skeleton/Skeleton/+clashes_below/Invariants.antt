use Rattle.std.proofs.Common.{◌≡◌, length}
use Rattle.crit_pairs.proofs.skeleton.Skeleton.+clashes_below.Given as goal

abbrev pub invariant-loop-i : goal.invariant-loop-i
invariant-loop-i l = length l.x-items ≡ length l.gs-inside.items.items

abbrev pub invariant-loop-k : goal.invariant-loop-k
invariant-loop-k l = length l.y-items ≡ length l.gs-inside.items.items
