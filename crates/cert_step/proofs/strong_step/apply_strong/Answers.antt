use Rattle.cert_step.proofs.Leaving.{leaving}
use Rattle.cert_step.proofs.strong_step.apply_strong.Goals as goal

pub returns : goal.returns
returns c = leaving _ _ c.strongly_closed_check.result c.no_problem.result c.strongly_closed_check.ensures.answers c.no_problem.ensures
