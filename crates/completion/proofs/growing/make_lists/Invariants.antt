use Rattle.std.proofs.Common.{◌≡◌, ℕ, ◌+◌, ◌-◌, length}
use Rattle.completion.specs.Growing.{numbers_at}
use Rattle.completion.proofs.growing.make_lists.Given as goal

abbrev pub invariant-loop-alloc : goal.invariant-loop-alloc
invariant-loop-alloc l = (g : ℕ) → numbers_at l.by_root.items g ≡ numbers_at l.fn.by_root.items g

abbrev pub decreases-loop-alloc : goal.decreases-loop-alloc
decreases-loop-alloc l = l.f + 1 - length l.by_root.items
