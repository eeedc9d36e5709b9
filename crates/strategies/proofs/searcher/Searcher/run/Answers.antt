use Rattle.cert_step.specs.ProofProblem.{problem_of}
use Rattle.strategies.proofs.TrueRows.{true_run}
use Rattle.strategies.proofs.searcher.Searcher.run.Goals as goal

pub new-outcome-requires : goal.new-outcome-requires
new-outcome-requires g c =
    true_run c.system-trs.result.now c.args.limits.now.budget (problem_of c.args.problem.now) (problem_of c.in_ok-problem-in-Ended.problem) c.args.strategy
    c.in-Ended.findings c.in_ok-problem-in-Ended.ensures c.requires.kind (rw c.in-Ended.is at c.in_ok-searched.ensures.answer)
