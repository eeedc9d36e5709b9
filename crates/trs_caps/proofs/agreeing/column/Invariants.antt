use Rattle.std.proofs.Common.{take}
use Rattle.trs_caps.specs.Columns.{LeavesHoles, column_of}
use Rattle.trs_caps.specs.PartLists.{caps_of}
use Rattle.trs_caps.proofs.agreeing.column.Given as goal

abbrev pub invariant-loop-cap : goal.invariant-loop-cap
invariant-loop-cap l = LeavesHoles (column_of l.i (caps_of (take l.cap-index l.caps))) (caps_of l.there.items)
