use Rattle.cert_step.proofs.Leaving.{leaving}
use Rattle.cert_step.proofs.label_step.apply_label.Goals as goal

pub returns : goal.returns
returns c = leaving _ _ c.labelled_check.result c.no_problem.result c.labelled_check.ensures.answers c.no_problem.ensures
