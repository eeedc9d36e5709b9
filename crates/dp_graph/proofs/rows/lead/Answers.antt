use Rattle.dp_graph.specs.GraphConditions.{lists_of}
use Rattle.dp_graph.proofs.RowLaws.{leads_from_none, leads_at_root, leads_to_no_root}
use Rattle.dp_graph.proofs.rows.lead.Goals as goal

pub returns-in_default-clause-leads : goal.returns-in_default-clause-leads
returns-in_default-clause-leads c = leads_from_none c.args.graph.now c.args.by_root.now c.args.m c.args.i (lists_of c.args.rows.now.items) c.in_default.ensures.node

pub returns-in_ok-lead_to-in-Some-get-clause-leads : goal.returns-in_ok-lead_to-in-Some-get-clause-leads
returns-in_ok-lead_to-in-Some-get-clause-leads c =
    leads_at_root c.args.graph.now c.args.by_root.now c.args.m c.args.i c.in-Some.node.now c.in-Some.ensures.node c.in-Some-get.rules.now (lists_of c.args.rows.now.items) (lists_of c.lead_to.new.rows.items) c.in-Some-get.ensures.value
    (rw c.deref.ensures.value at c.in_ok-lead_to-in-Some-get.ensures)

pub returns-in-None-clause-leads : goal.returns-in-None-clause-leads
returns-in-None-clause-leads c =
    leads_to_no_root c.args.graph.now c.args.by_root.now c.args.m c.args.i c.in-Some.node.now c.in-Some.ensures.node (lists_of c.args.rows.now.items) c.in-None.ensures.value
