use Rattle.dp_graph.proofs.EarlierLaws.{no_pair_added, seen_added, first_added}
use Rattle.dp_graph.proofs.NodeLists.{of_rule}
use Rattle.dp_graph.proofs.earlier.Earlier.add.Goals as goal

pub returns-in_default : goal.returns-in_default
returns-in_default c = λ members is. no_pair_added c.args.graph.now c.node.ensures.valid c.node.ensures.symbols members c.args.n c.args.self.now c.in_default.ensures.node is

pub returns-then-is_set : goal.returns-then-is_set
returns-then-is_set c = λ members is.
    let (q, there, node) = c.in-Some.ensures.node in
    seen_added c.args.graph.now c.node.ensures.valid c.node.ensures.symbols members c.args.n c.in-Some.node.now.rule q c.args.self.now there (of_rule c.args.graph.now.rules q c.in-Some.node.now node) is
    (rw c.deref.ensures.value at (c.is_set.ensures.0 c.if-is_set.true))

pub returns : goal.returns
returns c = λ members is.
    let (q, there, node) = c.in-Some.ensures.node in
    first_added c.args.graph.now c.node.ensures.valid c.node.ensures.symbols members c.args.n c.in-Some.node.now.rule q c.args.self.now there (of_rule c.args.graph.now.rules q c.in-Some.node.now node) is
    (record { by_root = c.push_at.new.by_root; rules = c.set.new.row }) c.in_ok-set.ensures (rw node.from at c.in_ok-push_at.ensures.here) (rw node.from at c.in_ok-push_at.ensures.others)
