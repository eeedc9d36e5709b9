use Rattle.std.proofs.Common.{sym, subst}
use Rattle.cert_step.specs.ProofProblem.{problem_of}
use Rattle.cert_step.specs.ProofStep as step
use Rattle.strategies.specs.declared.strategy.Strategy.TheVariants as strategy
use Rattle.strategies.specs.Conditions.{Finds, dp_is_found}
use Rattle.cert_step.specs.Applies.{DoesApply}
use Rattle.strategies.proofs.Applying.{dp_applies, found_always}
use Rattle.strategies.proofs.dp.search_dp.Goals as goal

pub leaving-requires-clause-applies : goal.leaving-requires-clause-applies
leaving-requires-clause-applies c =
    subst (λ s. DoesApply s (problem_of c.args.problem.now) step.dp) (sym c.requires.prepared)
    (subst (λ p. DoesApply c.args.trs.now p step.dp) (sym c.requires.problem) (dp_applies c.args.trs.now))

pub returns-clause-answer : goal.returns-clause-answer
returns-clause-answer c =
    found_always c.args.prepared.now c.args.trs.now strategy.Dp (problem_of c.args.problem.now) step.dp c.leaving.result c.requires.prepared
    (λ budget. subst (λ p. Finds c.args.trs.now budget strategy.Dp p step.dp) (sym c.requires.problem) dp_is_found) c.leaving.ensures.is_true
