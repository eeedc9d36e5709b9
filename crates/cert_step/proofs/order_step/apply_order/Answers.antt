use Rattle.std.proofs.Common.{◌∙◌}
use Rattle.pair_theory.specs.DependencyPair.{dependency_pairs}
use Rattle.dp_graph.specs.dp_core.PairConditions.{pair_conditions}
use Rattle.cert_step.specs.OnPairs.{problem_if_any}
use Rattle.cert_step.specs.ProofStep.{comparing_of}
use Rattle.cert_step.proofs.AnyOrders.{order_answers}
use Rattle.cert_step.proofs.Leaving.{leaving_by}
use Rattle.cert_step.proofs.order_step.apply_order.Goals as goal

pub returns-clause-answers : goal.returns-clause-answers
returns-clause-answers c =
    let rules = c.args.trs.now.rules in
    order_answers c.args.order.now c.args.trs.now c.args.numbers.now c.remaining.result
    (leaving_by (pair_conditions (comparing_of c.args.order.now) rules (dependency_pairs rules) c.args.numbers.now) (λ left. left.items) problem_if_any
    c.pairs_left-left.result c.remaining.result (rw (c.get.ensures ∙ c.in_ok-pairs.ensures.pairs) at c.pairs_left-left.ensures) c.remaining.ensures)
