use Rattle.std.proofs.Common.{◌≡◌, length, drop}
use Rattle.trs_caps.specs.PartLists.{parts_at}
use Rattle.trs_caps.proofs.AddedParts.{SameFits}
use Rattle.trs_caps.proofs.meeting.+walk.Given as goal

abbrev pub invariant-loop-i : goal.invariant-loop-i
invariant-loop-i l = record {
  same_length : length l.c-items ≡ length l.ts-inside.items.items;
  same_fits : SameFits (parts_at l.fn.parts) l.c-items l.ts-inside.items.items (parts_at l.parts) (drop l.i l.c-items) (drop l.i l.ts-inside.items.items);
}
