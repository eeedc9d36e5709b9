use Rattle.worker_pool.proofs.Turning.{watched_runs, watched_over}
use Rattle.worker_pool.proofs.watch.WatchStop.stopped.Goals as goal

pub poll-seat-requires-clause-runs : goal.poll-seat-requires-clause-runs
poll-seat-requires-clause-runs g c =
    let w = c.self.inside in
    watched_runs w.lock.now w.first.value w.ticket w.stops w.seat c.in-Some-take.seat c.self.invariant c.in-Some-take.ensures.value
    c.if-self-gt0-2.false

pub invariant_of-self-in-Cancelled : goal.invariant_of-self-in-Cancelled
invariant_of-self-in-Cancelled g c =
    let w = c.self.inside in
    watched_over w.lock.now w.first.value w.ticket w.stops w.seat c.in-Some-take.seat c.self.invariant c.in-Some-take.ensures.value c.poll-seat.result.0
    c.poll-seat.ensures.after (c.poll-seat.ensures.ended c.in-Cancelled.is)
