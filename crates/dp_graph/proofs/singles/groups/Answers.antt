use Rattle.dp_graph.proofs.SingleItems.{one_more_group}
use Rattle.dp_graph.proofs.singles.groups.Goals as goal

pub loop-item-preserved : goal.loop-item-preserved
loop-item-preserved c =
    one_more_group c.args.items.now c.loop-item.item-index c.item-item.result c.loop-item.groups.items c.add_group.new.groups.items c.loop-item-test.true c.item-item.is c.loop-item.invariant c.in_ok-add_group.ensures
