use Rattle.std.proofs.Common.{subst}
use Rattle.turn_lock.specs.Rules.{AddsOne}
use Rattle.turn_lock.proofs.Turns.{turn_after}
use Rattle.worker_pool.specs.Shared.{history_of}
use Rattle.worker_pool.specs.declared.shared.SharedTree.{SharedTree}
use Rattle.worker_pool.proofs.seated.abort.Goals as goal

pub returns-clause-after : goal.returns-clause-after
returns-clause-after g c =
    turn_after c.args.seat c.take-held.result.grip c.give.result (history_of c.take-held.result.value.tree) (history_of c.abort.new.self.tree) _
    c.number-number.result c.take-held.ensures.seat c.take-held.ensures.begins
    (subst (λ (s : SharedTree). AddsOne c.number-number.result (history_of s.tree) (history_of c.abort.new.self.tree)) c.value_mut.ensures.value c.abort.ensures.adds)
    c.give.ensures
