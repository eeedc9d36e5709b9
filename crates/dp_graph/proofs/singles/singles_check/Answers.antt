use Rattle.std.proofs.lemmas.Result.{err_from_is_err_and}
use Rattle.dp_graph.proofs.SingleItems.{single_seen, single_leads_to_itself, all_singles_seen}
use Rattle.dp_graph.proofs.singles.singles_check.Goals as goal

pub returns-in_err-single_check : goal.returns-in_err-single_check
returns-in_err-single_check c =
    let p = err_from_is_err_and c.from_residual.result c.from_residual.ensures.1 in
    rw (p.1, p.2) (single_leads_to_itself c.args.graph.now c.args.items.now c.loop-item.item-index c.item-item.result c.loop-item-test.true c.item-item.is c.in_err-single_check.field-0.0
    c.in_err-single_check.ensures c.loop-item.invariant)

pub loop-item-preserved : goal.loop-item-preserved
loop-item-preserved c =
    single_seen c.args.graph.now c.args.items.now c.loop-item.item-index c.item-item.result c.loop-item-test.true c.item-item.is c.in_ok-single_check.ensures c.loop-item.invariant

pub returns : goal.returns
returns c = all_singles_seen c.args.graph.now c.args.items.now c.loop-item.item-index c.loop-item-test.false c.loop-item.invariant
