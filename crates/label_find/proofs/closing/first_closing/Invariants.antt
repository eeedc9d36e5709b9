use Rattle.std.proofs.Common.{ℕ, ◌≡◌, ◌<◌, Some, slice_get}
use Rattle.join_find.specs.First.{Some_in}
use Rattle.path_lists.specs.Adding.{Entry}
use Rattle.label_find.specs.Closing.{ClosesFrom}
use Rattle.label_find.proofs.closing.first_closing.Given as goal

abbrev pub invariant-loop-left : goal.invariant-loop-left
invariant-loop-left l = (k : ℕ) (e : Entry) → k < l.left-index → slice_get l.lefts k ≡ Some e → Some_in (ClosesFrom l.ranks l.numbers.0 l.numbers.1 l.pool e) l.rights → ⊥
