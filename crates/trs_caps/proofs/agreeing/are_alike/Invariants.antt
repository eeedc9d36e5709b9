use Rattle.std.proofs.Common.{take}
use Rattle.trs_caps.specs.Columns.{AllAlike}
use Rattle.trs_caps.specs.PartLists.{caps_of}
use Rattle.trs_caps.specs.View.{holed}
use Rattle.trs_caps.proofs.agreeing.are_alike.Given as goal

abbrev pub invariant-loop-cap : goal.invariant-loop-cap
invariant-loop-cap l = AllAlike (holed l.first) (caps_of (take l.cap-index l.caps))
