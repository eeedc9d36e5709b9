use Rattle.std.proofs.Common.{◌≡◌, length}
use Rattle.loop_find.proofs.instances.+may_match.Given as goal

abbrev pub invariant-loop-i : goal.invariant-loop-i
invariant-loop-i l = length l.p-items ≡ length l.ts-inside.items.items
