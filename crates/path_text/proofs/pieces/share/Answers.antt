use Rattle.std.proofs.Common.{ℕ, List, [], Vec, ap₂, ◌∙◌}
use Rattle.std.specs.Global.{Global}
use Rattle.rewrite_core.specs.ShiftedPath.{shifted_path}
use Rattle.path_text.specs.declared.pieces.Piece.{Piece}
use Rattle.path_text.specs.declared.pieces.Piece.TheVariants.{Shared}
use Rattle.path_text.specs.Pieces.{steps_of_pieces}
use Rattle.path_text.proofs.PieceSteps.{steps_of_shared, one_more_piece}
use Rattle.path_text.proofs.SharedAgain.{shifted_none}
use Rattle.path_text.proofs.pieces.share.Goals as goal

pub returns : goal.returns
returns c =
    let place = c.new.result in
    let shared = c.in_ok-new.field-0 in
    one_more_piece [] c.push-2.new.self.items (Shared place shared) (rw c.in_ok-whole.ensures.items at c.in_ok-push.ensures.items)
    ∙ steps_of_shared place shared
    ∙ ap₂ (λ (p : List ℕ) (v : Vec Piece Global). shifted_path p (steps_of_pieces v.items)) c.new.ensures c.in_ok-new.ensures.ok
    ∙ shifted_none (steps_of_pieces c.args.pieces.items)
