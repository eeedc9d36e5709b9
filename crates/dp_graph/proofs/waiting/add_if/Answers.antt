use Rattle.dp_graph.proofs.WaitingLaws.{if_added, not_added}
use Rattle.dp_graph.proofs.waiting.add_if.Goals as goal

pub returns-in_ok-insert : goal.returns-in_ok-insert
returns-in_ok-insert c = if_added c.args.yes c.args.v c.args.set.now c.insert.new.self c.if-yes.true c.in_ok-insert.ensures.updates.0

pub returns-else-yes : goal.returns-else-yes
returns-else-yes c = not_added c.args.yes c.args.v c.args.set.now c.if-yes.false
