use Rattle.std.proofs.Common.{◌++◌, ap, ◌∙◌}
use Rattle.path_text.specs.declared.pieces.Piece.TheVariants.{Shared}
use Rattle.path_text.proofs.PieceSteps.{steps_of_shared, shared_appended, next_piece}
use Rattle.path_text.proofs.pieces.Pieces.append_piece.Goals as goal

pub returns-in_ok-push-in-Shared : goal.returns-in_ok-push-in-Shared
returns-in_ok-push-in-Shared c =
    let inside = c.self.inside in
    let place = c.place.inside.places.items in
    let shared = c.in_ok-clone-in-Shared.field-0 in
    shared_appended c.args.self.now _ c.args.by.now c.args.piece.now c.in-Shared.place place c.in-Shared.shared shared.value.items c.in-Shared.is
    (c.place.view_is ∙ c.in_ok-place-in-Shared.ensures) (ap (λ v. v.items) c.in_ok-clone-in-Shared.ensures.cases)
    (next_piece inside.pieces.items c.push_last.new.pieces.items c.push.new.self.items inside.last.items c.push_last.new.last.items c.args.self.now (Shared place shared) c.self.view_is
    c.in_ok-push_last-in-Shared.ensures.moved c.in_ok-push_last-in-Shared.ensures.empty c.in_ok-push-in-Shared.ensures.items
    ∙ ap (λ l. c.args.self.now ++ l) (steps_of_shared place shared))
