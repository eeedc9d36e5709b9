use Rattle.std.proofs.Common.{ℕ, ◌≡◌, ◌<◌, Some, slice_get}
use Rattle.path_lists.specs.Adding.{Entry}
use Rattle.label_find.specs.Closing.{ClosesFrom}
use Rattle.label_find.proofs.closing.closing_from.Given as goal

abbrev pub invariant-loop-right : goal.invariant-loop-right
invariant-loop-right l = (k : ℕ) (f : Entry) → k < l.right-index → slice_get l.rights k ≡ Some f → ClosesFrom l.ranks l.numbers.0 l.numbers.1 l.pool l.left f → ⊥
