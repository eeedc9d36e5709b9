use Rattle.std.proofs.Common.{◌∙◌, ap, sym, subst}
use Rattle.turn_lock.specs.Rules.{AddsOne}
use Rattle.turn_lock.specs.declared.sitting.Sitting.{Sitting}
use Rattle.turn_lock.proofs.Turns.{turn_after}
use Rattle.worker_pool.specs.Shared.{history_of}
use Rattle.worker_pool.specs.declared.entry.Entry.{Entry}
use Rattle.worker_pool.specs.declared.shared.SharedTree.{SharedTree}
use Rattle.worker_pool.proofs.Turning.{held_runs, adds_at, ended_at}
use Rattle.worker_pool.proofs.seated.poll.Goals as goal

pub poll-polled-requires : goal.poll-polled-requires
poll-polled-requires g c =
    held_runs c.number-number.result c.args.seat.number c.args.ticket c.take-held.result.value c.value_mut.result.now c.args.seat.mine
    (c.number-number.ensures ∙ ap (λ (s : Sitting Entry). s.number) c.take-held.ensures.seat) c.take-held.ensures.own c.value_mut.ensures.value c.requires.runs

pub give-requires-clause-adds : goal.give-requires-clause-adds
give-requires-clause-adds g c =
    adds_at c.number-number.result c.take-held.result.grip.number (history_of c.value_mut.result.now.tree) c.take-held.result.grip.seen
    (history_of c.poll-polled.new.self.tree) c.number-number.ensures
    (ap (λ (s : SharedTree). history_of s.tree) c.value_mut.ensures.value ∙ sym (ap (λ (s : Sitting Entry). s.seen) c.take-held.ensures.seat))
    c.poll-polled.ensures.adds

pub returns-clause-after : goal.returns-clause-after
returns-clause-after g c =
    turn_after c.args.seat c.take-held.result.grip c.give.result (history_of c.take-held.result.value.tree) (history_of c.poll-polled.new.self.tree) _
    c.number-number.result c.take-held.ensures.seat c.take-held.ensures.begins
    (subst (λ (s : SharedTree). AddsOne c.number-number.result (history_of s.tree) (history_of c.poll-polled.new.self.tree)) c.value_mut.ensures.value c.poll-polled.ensures.adds)
    c.give.ensures

pub returns-clause-ended : goal.returns-clause-ended
returns-clause-ended g c = λ over.
    ended_at c.number-number.result c.take-held.result.grip.number c.args.ticket c.give.result.mine (history_of c.poll-polled.new.self.tree)
    c.number-number.ensures (ap (λ (s : Sitting Entry). s.mine) c.give.ensures) (c.poll-polled.ensures.ended over)
