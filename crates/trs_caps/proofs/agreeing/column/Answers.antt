use Rattle.trs_caps.specs.Columns.{no_more}
use Rattle.trs_caps.specs.PartLists.{caps_of}
use Rattle.trs_caps.proofs.Rows.{next_left_out, next_taken}
use Rattle.trs_caps.proofs.agreeing.column.Goals.{in-Some+in_ok-push, in_default}
use Rattle.trs_caps.proofs.agreeing.column.Goals as goal

pub loop-cap-init : goal.loop-cap-init
loop-cap-init c = rw c.new-there.ensures.items no_more

pub loop-cap-preserved : goal.loop-cap-preserved
loop-cap-preserved c = elim c.match-part.branch [
  | in-Some+in_ok-push w ↦ rw w.there-is (next_taken c.args.caps.now c.loop-cap.cap-index c.args.i c.cap-item.result w.in-Some.part c.loop-cap.there.items w.push.new.self.items c.loop-cap-test.true c.cap-item.is w.in-Some.ensures.some w.in_ok-push.ensures.items c.loop-cap.invariant)
  | in_default w ↦ rw w.there-is (next_left_out c.args.caps.now c.loop-cap.cap-index c.args.i c.cap-item.result (caps_of c.loop-cap.there.items) c.loop-cap-test.true c.cap-item.is w.in_default.ensures.none c.loop-cap.invariant)
]
