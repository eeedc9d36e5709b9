use Rattle.trs_core.specs.declared.linear.TheConstants.{WINDOW}
use Rattle.trs_core.proofs.Linearity.{none_met}
use Rattle.trs_core.proofs.linear.no_marks.Goals as goal

pub returns-clause-none : goal.returns-clause-none
returns-clause-none c = none_met WINDOW
