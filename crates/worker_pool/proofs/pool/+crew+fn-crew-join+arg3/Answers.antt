use denote.Param.Send.{param_send, arg_send, struct_send, recorded_send, shr_send}
use Rattle.std.proofs.alloc.Global.TheSendSync as heap
use Rattle.turn_lock.proofs.Turns.{same_of, split_join_has}
use Rattle.worker_pool.proofs.Crossing.{worker_send, seat_send}
use Rattle.worker_pool.proofs.pool.+crew+fn-crew-join+arg3.Goals as goal

pub join-done-requires-send-F : goal.join-done-requires-send-F
join-done-requires-send-F g t c κs within = search (worker_send, heap.the_sync, param_send, arg_send, struct_send, recorded_send, shr_send) depth 20 fits 20000

pub join-done-requires-send-A : goal.join-done-requires-send-A
join-done-requires-send-A g t c κs within = search (seat_send, param_send, arg_send) depth 20 fits 20000

pub returns-clause-has : goal.returns-clause-has
returns-clause-has g t c = λ x. split_join_has c.args.worker.seat c.split-old.result.0 c.split-old.result.1 c.join-done.result.0 c.join-done.result.1 c.join.result x
    c.split-old.ensures.old c.split-old.ensures.new (same_of c.split-old.result.1 c.join-done.result.0 c.join-done.ensures.first) c.join-done.ensures.second.1 c.join-done.ensures.second.2 c.join.ensures.seat
