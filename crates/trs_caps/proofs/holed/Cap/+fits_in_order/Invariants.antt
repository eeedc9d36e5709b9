use Rattle.std.proofs.Common.{◌≡◌, length, drop}
use Rattle.trs_caps.proofs.OrderedParts.{LeftFits}
use Rattle.trs_caps.proofs.holed.Cap.+fits_in_order.Given as goal

abbrev pub invariant-loop-i : goal.invariant-loop-i
invariant-loop-i l = record {
  same_length : length l.c-items ≡ length l.ts-inside.items.items;
  left : LeftFits l.c-items l.ts-inside.items.items l.fn.next (drop l.i l.c-items) (drop l.i l.ts-inside.items.items) l.next;
}
