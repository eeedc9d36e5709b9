use Rattle.trs_core.specs.View.{tree}
use Rattle.dp_core.proofs.LeastLacking.{sides_asked}
use Rattle.dp_core.proofs.entries.lacking_in_rule.Goals as goal

pub returns : goal.returns
returns g c =
    sides_asked (g.O.ReductionPair.has c.args.order.now) (tree c.rule.inside.left) (tree c.rule.inside.right) c.args.rule.now c.args.least c.least_lacking-left.result c.least_lacking.result
    c.rule.view_is c.least_lacking-left.ensures c.least_lacking.ensures
