use Rattle.std.proofs.Common.{◌≡◌, ◌++◌, drop}
use Rattle.path_text.proofs.pieces.shift_position.Given as goal

abbrev pub invariant-loop-place : goal.invariant-loop-place
invariant-loop-place l = l.whole ++ drop l.place-index l.place-items ≡ l.by ++ l.place-items
