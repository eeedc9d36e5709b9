use Rattle.std.proofs.Common.{arith, length, ap, ◌∙◌}
use Rattle.dp_graph.proofs.ListPlaces.{length_more}
use Rattle.dp_graph.proofs.RowLaws.{right_added}
use Rattle.dp_graph.proofs.rows.Rights.add.Goals as goal

pub lead-requires : goal.lead-requires
lead-requires c =
    let a = ap length c.in_ok-push.ensures.items in
    let b = length_more c.args.self.now.rows.items c.new.result in
    let d = c.len-place.ensures in
    let e = c.args.self.now.rows.ok.0 in
    omega (arith, a, b, d, e)

pub returns : goal.returns
returns c =
    right_added c.args.graph.now c.args.by_root.now c.args.m c.len-place.result c.args.self.now (record { rows = c.lead.new.rows; places = c.insert.new.self }) c.new.result c.push.new.self.items
    (c.len-place.ensures ∙ c.args.self.now.rows.ok.0) c.new.ensures.items c.in_ok-push.ensures.items c.in_ok-lead.ensures.leads c.in_ok-insert.ensures.updates.0
