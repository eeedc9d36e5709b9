use Rattle.tree_tests.proofs.calls.is_running.Goals as goal

pub returns : goal.returns
returns c held = (c.requires c.args.ticket (c.is_held.ensures held).0 (c.is_held.ensures held).1).runs
