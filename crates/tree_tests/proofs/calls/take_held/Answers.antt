use Rattle.tree_tests.proofs.Holding.{taken_held}
use Rattle.tree_tests.proofs.calls.take_held.Goals as goal

pub returns-clause-taken : goal.returns-clause-taken
returns-clause-taken c = taken_held c.args.tree.now c.args.held.now.items c.args.ticket c.take.result c.requires c.take.ensures.taken
