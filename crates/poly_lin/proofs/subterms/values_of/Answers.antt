use Rattle.std.proofs.Common.{◌∙◌}
use Rattle.poly_lin.proofs.Numbering.{values_of_arguments, one_more_value}
use Rattle.poly_lin.proofs.subterms.values_of.Goals as goal

pub value_over-value-requires : goal.value_over-value-requires
value_over-value-requires g c =
    values_of_arguments (g.T.Coefficients.coefficient c.args.table.now) c.args.nodes.now c.loop-node.node-index c.node-item.result c.deref.result.now c.requires
    c.loop-node-test.true c.node-item.is (c.deref.ensures.value ∙ c.loop-node.invariant)

pub loop-node-preserved : goal.loop-node-preserved
loop-node-preserved g c =
    c.in_ok-push.ensures.items
    ∙ one_more_value (g.T.Coefficients.coefficient c.args.table.now) c.args.nodes.now c.loop-node.node-index c.node-item.result c.loop-node.values.items c.value_over-value.result
    c.loop-node-test.true c.node-item.is c.loop-node.invariant c.value_over-value.ensures
