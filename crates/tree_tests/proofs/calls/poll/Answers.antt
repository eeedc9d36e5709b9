use Rattle.tree_tests.proofs.Holding.{poll_keeps}
use Rattle.tree_tests.proofs.calls.poll.Goals as goal

pub returns : goal.returns
returns c = poll_keeps c.args.tree.now c.poll-polled.new.self c.args.ticket c.poll-polled.result c.poll-polled.ensures
