use Rattle.std.proofs.Common.{ℕ, ◌≡◌, ◌-◌, ◌<◌, ◌≤◌, List, Some, length, slice_get}
use Rattle.trs_defs.specs.Member.{In}
use Rattle.pair_theory.specs.DependencyPair.{DependencyPair}
use Rattle.usable_rules.specs.Worklist.{AreMarked, IsLed, IsUsableIfDefined}
use Rattle.usable_rules.proofs.closing.close.Given as goal

abbrev pub invariant-loop-i : goal.invariant-loop-i
invariant-loop-i l = record {
  marked : AreMarked l.flags.items l.found.items;
  flags : length l.flags.items ≡ length l.fn.flags.items;
  kept : (g : ℕ) → In g l.fn.found.items → In g l.found.items;
  within : l.i ≤ length l.found.items;
  done : (m f g : ℕ) → m < l.i → slice_get l.found.items m ≡ Some f → IsLed l.by_root.rules f g → g < length l.fn.flags.items → In g l.found.items;
  only : (pairs : List DependencyPair) → ((g : ℕ) → In g l.fn.found.items → IsUsableIfDefined l.by_root.rules pairs g) →
      (g : ℕ) → In g l.found.items → IsUsableIfDefined l.by_root.rules pairs g;
}

abbrev pub decreases-loop-i : goal.decreases-loop-i
decreases-loop-i l = length l.flags.items - l.i
