use Rattle.std.proofs.Common.{◌≡◌, length}
use Rattle.loop_find.proofs.clashing.+clash.Given as goal

abbrev pub invariant-loop-i : goal.invariant-loop-i
invariant-loop-i l = record {
  same_length : length l.x-items ≡ length l.gs-inside.items.items;
}
