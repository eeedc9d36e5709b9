use Rattle.std.proofs.Common.{◌≡◌, take}
use Rattle.dp_core.proofs.sides.copy_args.Given as goal

abbrev pub invariant-loop-arg : goal.invariant-loop-arg
invariant-loop-arg l = l.copies.items ≡ take l.arg-index l.arg-items
