use Rattle.std.proofs.Common.{arith}
use Rattle.dp_graph.specs.GraphConditions.{lists_of}
use Rattle.dp_graph.proofs.ListPlaces.{lists_length}
use Rattle.dp_graph.proofs.WaitingLaws.{edge_added, no_edge_added}
use Rattle.dp_graph.proofs.waiting.add_edge.Goals as goal

pub returns-in_ok-put_behind : goal.returns-in_ok-put_behind
returns-in_ok-put_behind c =
    let n = lists_length c.args.blockers.now.items in
    let lt = c.requires in
    edge_added (lists_of c.args.blockers.now.items) (lists_of c.put_behind.new.lists.items) c.args.from c.args.to (omega (arith, n, lt)) c.if-from-to.true c.in_ok-put_behind.ensures

pub returns-else-from-to : goal.returns-else-from-to
returns-else-from-to c = no_edge_added (lists_of c.args.blockers.now.items) c.args.from c.args.to c.if-from-to.false
