use Rattle.std.proofs.Common.{◌≡◌, ℕ, Bool, take}
use Rattle.std.specs.Ordering.{nat_cmp}
use Rattle.std.specs.BTreeSet.{contains}
use Rattle.trs_core.specs.View.{forest}
use Rattle.trs_caps.specs.Numbered.{AreNumbered}
use Rattle.trs_caps.specs.View.{holed_all}
use Rattle.trs_caps.proofs.naming.+number.Given as goal

abbrev pub invariant-loop-part : goal.invariant-loop-part
invariant-loop-part l = (is_own : ℕ → Bool) → ((v : ℕ) → contains nat_cmp l.own v ≡ is_own v)
    → AreNumbered is_own l.fn.next (holed_all (take l.part-index l.part-items)) (forest l.args.items) l.next
