use Rattle.cert_step.proofs.Leaving.{leaving}
use Rattle.cert_step.proofs.newman_step.apply_newman.Goals as goal

pub returns : goal.returns
returns c = leaving _ _ c.newman_check.result c.one_problem.result c.newman_check.ensures.answers c.one_problem.ensures
