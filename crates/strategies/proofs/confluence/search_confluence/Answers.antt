use Rattle.std.proofs.Common.{sym, subst}
use Rattle.cert_step.specs.ProofProblem.{problem_of}
use Rattle.cert_step.specs.ProofStep as step
use Rattle.strategies.specs.declared.strategy.Strategy.TheVariants as strategy
use Rattle.cert_step.specs.Applies.{DoesApply}
use Rattle.strategies.proofs.Applying.{confluence_applies, confluence_found, found_always}
use Rattle.strategies.proofs.confluence.search_confluence.Goals as goal

pub leaving-requires-clause-applies : goal.leaving-requires-clause-applies
leaving-requires-clause-applies c =
    subst (λ s. DoesApply s (problem_of c.args.problem.now) step.confluence) (sym c.requires.prepared)
    (confluence_applies c.args.trs.now (problem_of c.args.problem.now) c.requires.problem)

pub returns-clause-answer : goal.returns-clause-answer
returns-clause-answer c =
    found_always c.args.prepared.now c.args.trs.now strategy.Confluence (problem_of c.args.problem.now) step.confluence c.leaving.result
    c.requires.prepared (λ budget. confluence_found c.args.trs.now budget (problem_of c.args.problem.now) c.requires.problem) c.leaving.ensures.is_true
