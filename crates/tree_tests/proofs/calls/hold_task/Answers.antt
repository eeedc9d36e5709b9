use Rattle.tree_tests.proofs.Holding.{answered, pushed}
use Rattle.tree_tests.proofs.calls.hold_task.Goals as goal

pub returns : goal.returns
returns c =
    pushed c.args.tree.now c.args.held.now.items c.push.new.held.items c.args.task.now.ticket c.in_ok-outcome.outcome c.push.result c.requires.held
    (answered c.args.tree.now c.args.task.now c.in_ok-outcome.outcome c.system-trs.ensures c.limits-limits.ensures c.requires.task c.in_ok-outcome.ensures)
    c.push.ensures.ok c.push.ensures.err
