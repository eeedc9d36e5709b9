use Rattle.trs_core.specs.View.{tree}
use Rattle.kbo_order.proofs.Sums.{weight_of_sum}
use Rattle.kbo_order.proofs.comparing.measure.Goals as goal

pub returns-clause-weight : goal.returns-clause-weight
returns-clause-weight g c = weight_of_sum (g.W.Weighting.weights c.args.order.now) (tree c.args.t.now) c.add_weight.result c.add_weight.ensures.weight
