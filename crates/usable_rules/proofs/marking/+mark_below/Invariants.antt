use Rattle.std.proofs.Common.{ℕ, ◌≡◌, ◌<◌, ◌⊎◌, drop, length}
use Rattle.trs_defs.specs.Member.{In}
use Rattle.trs_defs.specs.Size.{size_of}
use Rattle.trs_core.specs.View.{tree, forest}
use Rattle.usable_rules.specs.Worklist.{AreMarked, IsCalled, IsCalledInAny, Extends}
use Rattle.usable_rules.proofs.marking.+mark_below.Given as goal

abbrev pub decreases-mark_below : goal.decreases-mark_below
decreases-mark_below l = size_of (tree l.t.now)

abbrev pub invariant-loop-arg : goal.invariant-loop-arg
invariant-loop-arg l = record {
  marked : AreMarked l.flags.items l.found.items;
  flags : length l.flags.items ≡ length l.fn.flags.items;
  grown : Extends l.found.items l.fn.found.items;
  all : (g : ℕ) → IsCalled (tree l.t) g → g < length l.fn.flags.items → In g l.found.items ⊎ IsCalledInAny (forest (drop l.arg-index l.arg-items)) g;
  only : (g : ℕ) → In g l.found.items → In g l.fn.found.items ⊎ IsCalled (tree l.t) g;
}
