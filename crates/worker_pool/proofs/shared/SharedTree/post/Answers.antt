use Rattle.tree_core.specs.tree_definitions.Replies.{event_of_found}
use Rattle.worker_pool.proofs.Sharing.{runs_whole, task_of, post_adds, post_ends}
use Rattle.worker_pool.proofs.shared.SharedTree.post.Goals as goal

pub post-requires-clause-running : goal.post-requires-clause-running
post-requires-clause-running c = runs_whole c.args.self.now.tree c.args.seat c.args.ticket c.tickets_have_one_seat.ensures c.requires.task.runs

pub post-requires-clause-outcome : goal.post-requires-clause-outcome
post-requires-clause-outcome c = task_of c.args.self.now.tree c.args.seat c.args.ticket c.args.outcome c.requires.task c.requires.system c.requires.budget

pub returns-in-Ok-clause-adds : goal.returns-in-Ok-clause-adds
returns-in-Ok-clause-adds c =
    post_adds c.args.self.now.tree c.post.new.self c.args.seat c.args.ticket (event_of_found c.args.outcome.found) c.in-Ok.field-0
    c.tickets_have_one_seat.ensures c.requires.task.runs c.in-Ok.ensures.post

pub returns-in-Ok-clause-ended : goal.returns-in-Ok-clause-ended
returns-in-Ok-clause-ended c =
    post_ends c.args.self.now.tree c.post.new.self c.args.seat c.args.ticket (event_of_found c.args.outcome.found) c.in-Ok.field-0
    c.tickets_have_one_seat.ensures c.requires.task.runs c.in-Ok.ensures.post
