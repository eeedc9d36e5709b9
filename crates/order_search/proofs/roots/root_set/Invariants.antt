use Rattle.std.proofs.Common.{◌↔◌, ◌⊎◌, ℕ, IsTrue, drop}
use Rattle.std.specs.Ordering.{nat_cmp}
use Rattle.std.specs.BTreeSet.{contains}
use Rattle.trs_defs.specs.Member.{In}
use Rattle.dp_core.specs.SubtermConditions.{roots_of}
use Rattle.order_search.proofs.roots.root_set.Given as goal

abbrev pub invariant-loop-pair : goal.invariant-loop-pair
invariant-loop-pair l = (f : ℕ) → In f (roots_of l.pairs) ↔ (IsTrue (contains nat_cmp l.set f) ⊎ In f (roots_of (drop l.pair-index l.pairs)))
