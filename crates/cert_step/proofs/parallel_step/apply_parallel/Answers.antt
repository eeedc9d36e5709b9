use Rattle.cert_step.proofs.Leaving.{leaving}
use Rattle.cert_step.proofs.parallel_step.apply_parallel.Goals as goal

pub returns : goal.returns
returns c = leaving _ _ c.parallel_closed_check.result c.no_problem.result c.parallel_closed_check.ensures.answers c.no_problem.ensures
