use Rattle.std.proofs.Common.{ℕ, ◌≡◌, ◌⊎◌, All, take, length}
use Rattle.trs_defs.specs.Member.{In}
use Rattle.usable_rules.specs.Worklist.{AreMarked, Extends, IsLed}
use Rattle.usable_rules.proofs.Found.{IsVisited}
use Rattle.usable_rules.proofs.closing.visit.Given as goal

abbrev pub invariant-loop-k : goal.invariant-loop-k
invariant-loop-k l = record {
  marked : AreMarked l.flags.items l.found.items;
  flags : length l.flags.items ≡ length l.fn.flags.items;
  grown : Extends l.found.items l.fn.found.items;
  all : All (IsVisited l.by_root.rules l.found.items (length l.fn.flags.items)) (take l.k-index l.k-items);
  only : (g : ℕ) → In g l.found.items → In g l.fn.found.items ⊎ IsLed l.by_root.rules l.f g;
}
