use Rattle.std.proofs.Common.{◌∙◌, [], refl}
use Rattle.pair_theory.specs.DependencyPair.{dependency_pairs}
use Rattle.usable_rules.specs.UsableConditions.{usable_conditions}
use Rattle.cert_step.specs.OnPairs.{problem_if_any}
use Rattle.cert_step.specs.PolyKind.{poly_comparing}
use Rattle.cert_step.specs.ProofProblem.{dp}
use Rattle.cert_step.specs.ProofStep.{usable_poly}
use Rattle.cert_step.proofs.Dispatch.{right_problem}
use Rattle.cert_step.proofs.KnownSteps.{usable_met, known_usable}
use Rattle.cert_step.proofs.Leaving.{leaving_by}
use Rattle.cert_step.proofs.known.left_by_usable.Goals as goal

pub returns-clause-answers : goal.returns-clause-answers
returns-clause-answers c =
    let system = c.args.trs.now in
    let all = dependency_pairs system.rules in
    let numbers = c.args.numbers.now in
    let comparing = poly_comparing c.args.table.now in
    let met = usable_met system numbers c.args.table.now c.requires.applies in
    let left = rw (c.get.ensures ∙ c.in_ok-pairs.ensures.pairs) at c.removal_check-left.ensures.answers in
    right_problem system (dp numbers) (usable_poly c.args.table.now) _ c.remaining.result refl refl
    (leaving_by (usable_conditions comparing system.rules all numbers) (λ left. left.items) problem_if_any c.removal_check-left.result c.remaining.result
    (known_usable comparing system.rules all numbers c.removal_check-left.result (λ pairs are. left [] [] pairs refl refl are) met.0 met.1) c.remaining.ensures)
