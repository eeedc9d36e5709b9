use Rattle.std.proofs.Common.{ℕ, ◌≡◌, ◌<◌, ◌⊎◌, drop, length}
use Rattle.trs_defs.specs.Member.{In}
use Rattle.trs_core.specs.View.{forest}
use Rattle.usable_rules.specs.Worklist.{AreMarked, IsCalledInAny}
use Rattle.usable_rules.proofs.closing.mark_arguments.Given as goal

abbrev pub invariant-loop-arg : goal.invariant-loop-arg
invariant-loop-arg l = record {
  marked : AreMarked l.flags.items l.found.items;
  flags : length l.flags.items ≡ length l.fn.flags.items;
  kept : (g : ℕ) → In g l.fn.found.items → In g l.found.items;
  all : (g : ℕ) → IsCalledInAny (forest l.arg-items) g → g < length l.fn.flags.items → In g l.found.items ⊎ IsCalledInAny (forest (drop l.arg-index l.arg-items)) g;
  only : (g : ℕ) → In g l.found.items → In g l.fn.found.items ⊎ IsCalledInAny (forest l.arg-items) g;
}
