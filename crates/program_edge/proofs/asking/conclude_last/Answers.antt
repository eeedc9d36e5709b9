use Rattle.std.proofs.Common.{rules}
use Rattle.program_edge.specs.Conclusions.{no_system}
use Rattle.program_edge.proofs.asking.conclude_last.Goals as goal

pub returns-in-Ok : goal.returns-in-Ok
returns-in-Ok c = c.conclude_about-conclusion.ensures c.args.problem.now c.in-Ok.ensures.found

pub returns-in-Err : goal.returns-in-Err
returns-in-Err c = no_system c.in-Err.fault c.in-Err.ensures.refused (search rules)
