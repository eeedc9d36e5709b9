use Rattle.worker_pool.specs.tree_core.tree_definitions.History.{aborted}
use Rattle.tree_tests.proofs.Holding.{ended_held}
use Rattle.tree_tests.proofs.calls.end_by_abort.Goals as goal

pub returns : goal.returns
returns c held all = ended_held c.args.tree.now c.abort-aborted.new.self held c.args.ticket aborted all c.abort-aborted.ensures
