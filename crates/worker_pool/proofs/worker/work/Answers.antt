use Rattle.std.proofs.Common.{◌≡◌, Ok}
use Rattle.tree_core.specs.tree_definitions.declared.answers.Claimed.TheVariants as claimed
use Rattle.worker_pool.proofs.Sharing.{opens_later, searcher_runs}
use Rattle.worker_pool.proofs.worker.work.Goals as goal

pub run_task-seat-requires-clause-runnable : goal.run_task-seat-requires-clause-runnable
run_task-seat-requires-clause-runnable g c κs within =
    let opens = opens_later c.args.worker.question c.args.worker.tables.now c.args.worker.limits.budget c.args.worker.seat.seen c.loop.seat.seen c.requires c.loop.invariant.after.seen in
    let runs = c.claim-next.ensures.runnable c.args.worker.question c.args.worker.tables.now c.args.worker.limits.budget opens in
    let is : c.claim-next.result.1 ≡ Ok (claimed.Task c.in-Ok-Task.task) = cc (c.in-Ok-Task.is, c.in-Ok-Task.field-0-is, c.in-Ok-Task.task-is) in
    searcher_runs c.claim-next.result.1 c.in-Ok-Task.task c.args.worker.tables.now c.loop.searcher is runs c.loop.invariant.searcher
