use Rattle.std.proofs.Common.{◌∙◌, ap, sym, subst}
use Rattle.turn_lock.specs.Rules.{AddsOne}
use Rattle.turn_lock.specs.declared.sitting.Sitting.{Sitting}
use Rattle.turn_lock.proofs.Turns.{turn_after}
use Rattle.worker_pool.specs.Shared.{history_of}
use Rattle.worker_pool.specs.declared.entry.Entry.{Entry}
use Rattle.worker_pool.specs.declared.shared.SharedTree.{SharedTree}
use Rattle.worker_pool.proofs.Turning.{adds_at, had_at, runnable_at}
use Rattle.worker_pool.proofs.seated.claim.Goals as goal

pub give-requires-clause-adds : goal.give-requires-clause-adds
give-requires-clause-adds g c =
    adds_at c.number-number.result c.take-held.result.grip.number (history_of c.value_mut.result.now.tree) c.take-held.result.grip.seen
    (history_of c.claim-claimed.new.self.tree) c.number-number.ensures
    (ap (λ (s : SharedTree). history_of s.tree) c.value_mut.ensures.value ∙ sym (ap (λ (s : Sitting Entry). s.seen) c.take-held.ensures.seat))
    c.claim-claimed.ensures.adds

pub returns-clause-after : goal.returns-clause-after
returns-clause-after g c =
    turn_after c.args.seat c.take-held.result.grip c.give.result (history_of c.take-held.result.value.tree) (history_of c.claim-claimed.new.self.tree) _
    c.number-number.result c.take-held.ensures.seat c.take-held.ensures.begins
    (subst (λ (s : SharedTree). AddsOne c.number-number.result (history_of s.tree) (history_of c.claim-claimed.new.self.tree)) c.value_mut.ensures.value c.claim-claimed.ensures.adds)
    c.give.ensures

pub returns-clause-task : goal.returns-clause-task
returns-clause-task g c =
    had_at c.claim-claimed.result c.number-number.result c.take-held.result.grip.number (history_of c.claim-claimed.new.self.tree) c.give.result
    c.number-number.ensures (ap (λ (s : Sitting Entry). s.number) c.give.ensures) (ap (λ (s : Sitting Entry). s.mine) c.give.ensures) c.claim-claimed.ensures.task

pub returns-clause-runnable : goal.returns-clause-runnable
returns-clause-runnable g c = λ question system budget.
    runnable_at c.claim-claimed.result c.take-held.result.value c.value_mut.result.now c.args.seat.seen question system budget c.take-held.ensures.begins
    c.value_mut.ensures.value c.claim-claimed.ensures.runnable
