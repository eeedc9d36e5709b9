use Rattle.dp_graph.proofs.EarlierLaws.{no_edge_from_none, none_at_root, first_at_root}
use Rattle.dp_graph.proofs.earlier.Earlier.led_to.Goals as goal

pub returns-in_default : goal.returns-in_default
returns-in_default c = λ members is. no_edge_from_none c.args.graph.now c.node.ensures.valid c.node.ensures.symbols c.args.from members c.in_default.ensures.node

pub returns-in-Some-get : goal.returns-in-Some-get
returns-in-Some-get c =
    first_at_root c.args.graph.now c.args.self.now c.args.from c.in-Some.node.now c.in-Some-get.pairs.now c.first_of.result (rw c.in-Some.node-is c.in-Some.ensures.node) c.in-Some-get.ensures.value
    (rw c.deref.ensures.value at c.first_of.ensures)

pub returns-in-None : goal.returns-in-None
returns-in-None c = λ members is. none_at_root c.args.graph.now c.args.self.now members c.args.from c.in-Some.node.now c.in-Some.ensures.node c.in-None.ensures.value is
