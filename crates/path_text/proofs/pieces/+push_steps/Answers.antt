use Rattle.std.proofs.Common.{ap, ◌∙◌}
use Rattle.path_text.proofs.PieceSteps.{steps_appended, shared_appended, piece_appended}
use Rattle.path_text.proofs.pieces.+push_steps.Goals as goal
use Rattle.path_text.proofs.pieces.+push_steps.Goals.{in-Steps+in_ok-push_shifted-in-Steps, in-Shared+in_ok-place-in-Shared+in_ok-push_steps-in-Shared+in-Heap-1, in-Shared+in_ok-place-in-Shared+in_ok-push_steps-in-Shared+in-Inline-1}

pub loop-piece-preserved : goal.loop-piece-preserved
loop-piece-preserved t c =
    let old = c.loop-piece.steps.items in
    let by = c.args.by.now in
    let piece = c.piece-item.result in
    piece_appended c.args.pieces.now piece by c.loop-piece.piece-index old _ c.loop-piece-test.true c.piece-item.is c.loop-piece.invariant c.match-piece.steps.items
    (elim c.match-piece.branch [
      | in-Steps+in_ok-push_shifted-in-Steps w ↦
          ap (λ v. v.items) w.steps-is
          ∙ steps_appended old w.push_shifted.new.steps.items by piece w.in-Steps.more w.deref.result.now w.in-Steps.is w.deref.ensures.value w.in_ok-push_shifted-in-Steps.ensures
      | in-Shared+in_ok-place-in-Shared+in_ok-push_steps-in-Shared+in-Heap-1 w ↦
          ap (λ v. v.items) w.steps-is
          ∙ shared_appended old w.push_steps.new.steps.items by piece w.in-Shared.place w.in_ok-place-in-Shared.place w.in-Shared.shared w.deref-in-Shared-2.result.now w.in-Shared.is
          w.in_ok-place-in-Shared.ensures (w.deref-in-Shared-2.ensures.value ∙ ap (λ v. v.items) w.deref-in-Shared.ensures) w.in_ok-push_steps-in-Shared.ensures
      | in-Shared+in_ok-place-in-Shared+in_ok-push_steps-in-Shared+in-Inline-1 w ↦
          ap (λ v. v.items) w.steps-is
          ∙ shared_appended old w.push_steps.new.steps.items by piece w.in-Shared.place w.in_ok-place-in-Shared.place w.in-Shared.shared w.deref-in-Shared-2.result.now w.in-Shared.is
          w.in_ok-place-in-Shared.ensures (w.deref-in-Shared-2.ensures.value ∙ ap (λ v. v.items) w.deref-in-Shared.ensures) w.in_ok-push_steps-in-Shared.ensures
    ])
