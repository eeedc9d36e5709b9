use Rattle.std.proofs.Common.{refl, subst, ◌∙◌}
use Rattle.dp_graph.specs.SameLefts.{IsNotedOr}
use Rattle.dp_graph.proofs.nodes.Nodes.add.Goals as goal

pub returns : goal.returns
returns c = record {
  node = record { rule = c.args.rule; from = c.args.from; to = c.args.end.now.symbol; row = c.row_number-row.result; first = c.in_ok-first.first };
  nodes = c.in_ok-push.ensures.items;
  is = record { rule_is = refl; from_is = refl; to_is = refl; row_is = c.row_number-row.ensures };
  caps = refl;
  first = subst (λ n. IsNotedOr c.args.self.now.seen.items c.row_number-row.result n c.in_ok-first.first) (c.len.ensures ∙ c.args.self.now.nodes.ok.0) c.in_ok-first.ensures.number;
  notes = c.in_ok-first.ensures.notes;
}
