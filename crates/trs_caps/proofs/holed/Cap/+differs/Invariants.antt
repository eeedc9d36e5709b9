use Rattle.std.proofs.Common.{◌≡◌, length}
use Rattle.trs_caps.proofs.holed.Cap.+differs.Given as goal

abbrev pub invariant-loop-i : goal.invariant-loop-i
invariant-loop-i l = length l.c-items ≡ length l.ts-inside.items.items
