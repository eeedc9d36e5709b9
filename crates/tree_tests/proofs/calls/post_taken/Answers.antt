use Rattle.tree_tests.proofs.Holding.{left_held}
use Rattle.tree_tests.proofs.calls.post_taken.Goals as goal

pub returns-in-None : goal.returns-in-None
returns-in-None c held all = left_held c.args.tree.now held c.args.ticket all
