use Rattle.std.proofs.Common.{◌<◌, ◌∙◌, ℕ, List, sym, subst}
use Rattle.tree_core.specs.cert_step.ProofProblem.{problem_of}
use Rattle.tree_core.specs.tree_definitions.History.{Runs}
use Rattle.turn_lock.specs.declared.signed.Signed.{Signed}
use Rattle.worker_pool.specs.declared.entry.Entry.{Entry}
use Rattle.worker_pool.specs.Shared.{HasEnded, tree_entries}
use Rattle.worker_pool.proofs.Turning.{ticket_kept, still_same, still_has, none_rose}
use Rattle.worker_pool.proofs.worker.run_task.Goals as goal

pub returns-then-stops-gt0-clause-ended : goal.returns-then-stops-gt0-clause-ended
returns-then-stops-gt0-clause-ended g c =
    subst (λ (t : ℕ). HasEnded t c.leave-seat.result.0.mine) (ticket_kept c.new-watch.result c.run-ran.new.stop c.run-ran.ensures.continues.kept ∙ c.new-watch.ensures.ticket)
    (c.leave-seat.ensures.ended (subst (λ (n : ℕ). 0 < n) c.leave-seat.ensures.stops c.if-stops-gt0.true))

pub abort-requires-clause-runs : goal.abort-requires-clause-runs
abort-requires-clause-runs g c =
    let leave = c.leave-seat.ensures in
    let same = still_same c.new-watch.result c.run-ran.new.stop c.args.seat c.leave-seat.result.0 c.leave-seat.result.1 c.run-ran.ensures.continues.kept
    c.new-watch.ensures.first leave.after leave.same leave.stops c.if-stops-gt0.false in
    subst (λ (es : List (Signed Entry)). Runs c.args.task.now.ticket (tree_entries es)) (sym same.1) c.requires.task.runs

pub post-requires-clause-task : goal.post-requires-clause-task
post-requires-clause-task g c =
    let leave = c.leave-seat.ensures in
    let same = still_same c.new-watch.result c.run-ran.new.stop c.args.seat c.leave-seat.result.0 c.leave-seat.result.1 c.run-ran.ensures.continues.kept
    c.new-watch.ensures.first leave.after leave.same leave.stops c.if-stops-gt0.false in
    let task = c.args.task.now in
    let outcome = c.in-Ok-Ended.outcome in
    still_has c.args.seat c.leave-seat.result.0 task.ticket (problem_of task.problem) outcome.problem task.strategy outcome.strategy same
    (rw c.in-Ok-Ended.field-0-is at c.in-Ok-Ended.ensures.problem) (rw c.in-Ok-Ended.field-0-is at c.in-Ok-Ended.ensures.strategy) c.requires.task

pub unreachable-requires : goal.unreachable-requires
unreachable-requires g c =
    none_rose c.new-watch.result.stops c.run-ran.new.stop.stops c.leave-seat.result.1 (rw c.in-Ok-Stopped.field-0-is at c.in-Ok-Stopped.ensures.stopped)
    c.leave-seat.ensures.stops c.if-stops-gt0.false
