use Rattle.std.proofs.Common.{ℕ, ◌-◌, ◌^◌, ◌≤◌, ◌<◌, IsTrue}
use Rattle.std.specs.Ordering.{nat_cmp}
use Rattle.std.specs.BTreeSet.{contains}
use Rattle.trs_caps.proofs.naming.fresh.Given as goal

abbrev pub invariant-loop-w : goal.invariant-loop-w
invariant-loop-w l = (l.fn.next ≤ l.w) × ((v : ℕ) → l.fn.next ≤ v → v < l.w → IsTrue (contains nat_cmp l.own v))

abbrev pub decreases-loop-w : goal.decreases-loop-w
decreases-loop-w l = 2 ^ 32 - l.w
