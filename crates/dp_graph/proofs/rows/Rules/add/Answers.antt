use Rattle.std.proofs.Common.{refl, sym}
use Rattle.dp_graph.proofs.RowLaws.{no_pair_added, pair_added, rule_added}
use Rattle.dp_graph.proofs.rows.Rules.add.Goals as goal

pub returns-in_default : goal.returns-in_default
returns-in_default c = no_pair_added c.args.graph.now c.args.n c.args.j c.args.self.now c.in_default.ensures.node

pub put_behind-requires : goal.put_behind-requires
put_behind-requires c = c.requires c.in-Some.node.now.rule c.in-Some-get.place.now (sym c.in-Some-get.ensures.value)

pub returns-in_ok-put_behind-in-Some-get : goal.returns-in_ok-put_behind-in-Some-get
returns-in_ok-put_behind-in-Some-get c =
    pair_added c.args.graph.now c.args.n c.args.j c.in-Some.node.now c.args.self.now (record { rows = c.put_behind.new.lists; places = c.args.self.now.places; by_root = c.args.self.now.by_root }) c.in-Some.ensures.node
    c.in-Some-get.place.now c.in-Some-get.ensures.value (c.requires c.in-Some.node.now.rule c.in-Some-get.place.now (sym c.in-Some-get.ensures.value)) c.in_ok-put_behind-in-Some-get.ensures refl refl

pub returns-in_ok-add_rule-in-None : goal.returns-in_ok-add_rule-in-None
returns-in_ok-add_rule-in-None c = rule_added c.args.graph.now c.args.n c.args.j c.in-Some.node.now c.args.self.now c.add_rule.new.self c.in-Some.ensures.node c.in_ok-add_rule-in-None.ensures
