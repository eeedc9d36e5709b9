use Rattle.worker_pool.specs.tree_core.tree_definitions.Replies.{event_of_found}
use Rattle.tree_tests.proofs.Holding.{posted_keeps}
use Rattle.tree_tests.proofs.calls.post_outcome.Goals as goal

pub returns : goal.returns
returns c =
    posted_keeps c.args.tree.now c.post-posted.new.self c.args.ticket (event_of_found c.args.outcome.found) c.post-posted.result c.post-posted.ensures.post
    c.post-posted.ensures.memory
