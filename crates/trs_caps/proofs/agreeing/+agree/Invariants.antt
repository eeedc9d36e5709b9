use Rattle.trs_caps.specs.PartLists.{caps_of}
use Rattle.trs_caps.specs.Columns.{total}
use Rattle.trs_caps.proofs.Rows.{ColumnsHave}
use Rattle.trs_caps.proofs.agreeing.+agree.Given as goal

abbrev pub invariant-loop-i : goal.invariant-loop-i
invariant-loop-i l = ColumnsHave (caps_of l.caps) l.i

abbrev pub decreases-agree : goal.decreases-agree
decreases-agree l = total (caps_of l.caps.now)
