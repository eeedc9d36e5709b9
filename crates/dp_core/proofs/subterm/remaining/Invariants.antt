use Rattle.std.proofs.Common.{◌≡◌, ◌++◌, drop}
use Rattle.dp_core.specs.SubtermConditions.{unflagged}
use Rattle.dp_core.proofs.subterm.remaining.Given as goal

abbrev pub invariant-loop-i : goal.invariant-loop-i
invariant-loop-i l = unflagged l.problem l.removed ≡ l.left.items ++ unflagged (drop l.i l.problem) (drop l.i l.removed)
