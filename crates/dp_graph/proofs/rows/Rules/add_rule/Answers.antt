use Rattle.std.proofs.Common.{◌∙◌, ◌++◌, ◌∷◌, [], ap}
use Rattle.dp_graph.proofs.RowLaws.{rule_put}
use Rattle.dp_graph.proofs.rows.Rules.add_rule.Goals as goal

pub returns : goal.returns
returns c =
    rule_put c.args.node.now c.args.n c.args.j c.len-place.result c.args.self.now (record { rows = c.push-2.new.self; places = c.insert.new.self; by_root = c.push_at.new.by_root }) c.push.new.self (c.len-place.ensures ∙ c.args.self.now.rows.ok.0)
    (c.in_ok-push.ensures.items ∙ (ap (λ z. z ++ c.in_ok-first.first ∷ []) c.new-row.ensures.items ∙ ap (λ z. z ∷ []) c.in_ok-first.ensures)) c.in_ok-push-2.ensures.items c.in_ok-insert.ensures.updates.0 c.in_ok-push_at.ensures.here c.in_ok-push_at.ensures.others
