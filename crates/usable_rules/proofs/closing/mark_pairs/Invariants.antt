use Rattle.std.proofs.Common.{ℕ, ◌≡◌, ◌<◌, ◌⊎◌, List, drop, length}
use Rattle.trs_defs.specs.Member.{In}
use Rattle.pair_theory.specs.DependencyPair.{DependencyPair}
use Rattle.dp_core.specs.Numbered.{ArePairsOf}
use Rattle.usable_rules.specs.Worklist.{AreMarked, IsLedByPairs}
use Rattle.usable_rules.proofs.closing.mark_pairs.Given as goal

abbrev pub invariant-loop-n : goal.invariant-loop-n
invariant-loop-n l = record {
  marked : AreMarked l.flags.items l.found.items;
  flags : length l.flags.items ≡ length l.fn.flags.items;
  kept : (g : ℕ) → In g l.fn.found.items → In g l.found.items;
  all : (taken : List DependencyPair) → ArePairsOf l.pairs l.problem taken → (g : ℕ) → IsLedByPairs taken g → g < length l.fn.flags.items
      → In g l.found.items ⊎ IsLedByPairs (drop l.n-index taken) g;
  only : (taken : List DependencyPair) → ArePairsOf l.pairs l.problem taken → (g : ℕ) → In g l.found.items
      → In g l.fn.found.items ⊎ IsLedByPairs taken g;
}
