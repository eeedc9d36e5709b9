use Rattle.std.proofs.Common.{inl, inr, refl, arith}
use Rattle.dp_graph.proofs.RowLaws.{alike_first, right_longer}
use Rattle.dp_graph.proofs.rows.Rights.lead.Goals as goal

pub returns-in_default-clause-leads : goal.returns-in_default-clause-leads
returns-in_default-clause-leads c = inl (c.in_default.ensures.node, refl)

pub put_behind-requires : goal.put_behind-requires
put_behind-requires c =
    let h = right_longer c.args.graph.now c.args.by_root.now c.in-Some.node.now.first c.in_ok-place.place c.args.self.now c.place.new.self c.in_ok-place.ensures in
    omega (arith, h, c.requires)

pub returns-clause-leads : goal.returns-clause-leads
returns-clause-leads c = inr (record {
  first = c.in-Some.node.now.first;
  alike = alike_first c.args.graph.now c.args.m c.in-Some.node.now c.in-Some.ensures.node;
  place = c.in_ok-place.place;
  mid = c.place.new.self;
  places = c.in_ok-place.ensures;
  puts = c.in_ok-put_behind.ensures;
  same = refl;
})
