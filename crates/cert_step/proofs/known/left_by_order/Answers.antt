use Rattle.std.proofs.Common.{◌∙◌, refl}
use Rattle.pair_theory.specs.DependencyPair.{dependency_pairs}
use Rattle.dp_graph.specs.dp_core.PairConditions.{pair_conditions}
use Rattle.cert_step.specs.OnPairs.{problem_if_any}
use Rattle.cert_step.specs.ProofProblem.{dp}
use Rattle.cert_step.specs.ProofStep.{order_step, comparing_of}
use Rattle.cert_step.proofs.AnyOrders.{order_answers}
use Rattle.cert_step.proofs.Dispatch.{right_problem}
use Rattle.cert_step.proofs.KnownSteps.{is_for, order_met, known_pairs}
use Rattle.cert_step.proofs.Leaving.{leaving_by}
use Rattle.cert_step.proofs.known.left_by_order.Goals as goal

pub returns-clause-answers : goal.returns-clause-answers
returns-clause-answers c =
    let system = c.args.trs.now in
    let all = dependency_pairs system.rules in
    let numbers = c.args.numbers.now in
    let order = c.args.order.now in
    let met = order_met system numbers order c.requires.applies in
    let left = rw (c.get.ensures ∙ c.in_ok-pairs.ensures.pairs) at c.not_strict-left.ensures in
    right_problem system (dp numbers) (order_step order) _ c.remaining.result refl (is_for system (dp numbers) (order_step order) c.requires.applies)
    (order_answers order system numbers c.remaining.result
    (leaving_by (pair_conditions (comparing_of order) system.rules all numbers) (λ left. left.items) problem_if_any c.not_strict-left.result c.remaining.result
    (known_pairs (comparing_of order) system.rules all numbers c.not_strict-left.result left met.0 met.1) c.remaining.ensures))
