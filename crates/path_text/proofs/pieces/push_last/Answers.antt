use Rattle.std.proofs.Common.{◌++◌, List, ap, ◌∙◌}
use Rattle.trs_defs.specs.Path.{PlacedRule}
use Rattle.path_text.specs.declared.pieces.Piece.TheVariants.{Steps}
use Rattle.path_text.specs.Pieces.{steps_of_pieces}
use Rattle.path_text.proofs.PieceSteps.{steps_of_steps, one_more_piece}
use Rattle.path_text.proofs.pieces.push_last.Goals as goal

pub returns-clause-moved : goal.returns-clause-moved
returns-clause-moved c =
    let old = c.args.pieces.now.items in
    let steps = c.replace-steps.result in
    one_more_piece old c.push.new.self.items (Steps steps) c.in_ok-push.ensures.items
    ∙ ap (λ (l : List PlacedRule). steps_of_pieces old ++ l) (steps_of_steps steps ∙ ap (λ v. v.items) c.replace-steps.ensures.value)
