use Rattle.std.proofs.Common.{◌≡◌}
use Rattle.turn_lock.specs.Seats.{After}
use Rattle.worker_pool.proofs.worker.work.Given as goal

abbrev pub invariant-loop : goal.invariant-loop
invariant-loop g l = record {
  after : After l.fn.worker.seat l.seat;
  searcher : l.searcher ≡ l.fn.worker.tables.now;
}
