use Rattle.trs_core.specs.declared.linear.TheConstants.{WINDOW}
use Rattle.trs_core.proofs.Linearity.{met_again}
use Rattle.trs_core.proofs.linear.mark.Goals as goal

pub returns-then-marks-place-clause-marks : goal.returns-then-marks-place-clause-marks
returns-then-marks-place-clause-marks c =
    met_again WINDOW c.args.from c.args.x c.args.marks.now c.args.marks.now c.if-x-from.false c.if-place-ge-WINDOW.false c.if-marks-place.true
