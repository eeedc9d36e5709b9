use Rattle.trs_core.specs.View.{tree}
use Rattle.trs_core.specs.declared.linear.TheConstants.{WINDOW}
use Rattle.trs_core.proofs.Linearity.{walk_decides}
use Rattle.trs_core.proofs.linear.occur_once.Goals as goal

pub returns-clause-once : goal.returns-clause-once
returns-clause-once c =
    walk_decides WINDOW c.args.from (tree c.args.t.now) c.no_marks-marks.result c.mark_variables.new.marks c.no_marks-marks.ensures.none
    c.mark_variables.result c.mark_variables.ensures.marks
