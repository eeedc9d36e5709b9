-- Pieces of defined paths, as the code has them.
use Rattle.std.specs.Prelude.{List, map}
use Rattle.trs_defs.specs.Path.{PlacedRule}
use Rattle.rewrite_core.specs.ShiftedPath.{shifted_path}
use Rattle.path_text.specs.Paths.{all_steps}
use Rattle.path_text.specs.declared.pieces.Piece.{Piece, fold-Piece}
use Rattle.path_text.specs.declared.pieces.Piece.TheOpen.{Piece-F}
use Rattle.path_text.specs.declared.pieces.KeptPath.{KeptPath}

-- the steps of a piece, whose shared pieces are seen as their steps
abbrev pub steps_of_layer : Piece-F (List PlacedRule) → List PlacedRule
steps_of_layer (Piece-F.Steps steps) = steps.items
steps_of_layer (Piece-F.Shared by shared) = shifted_path by (all_steps shared.value.items)

abbrev pub steps_of_piece : Piece → List PlacedRule
steps_of_piece = fold-Piece (List PlacedRule) steps_of_layer

-- the steps of pieces, in order
abbrev pub steps_of_pieces : List Piece → List PlacedRule
steps_of_pieces pieces = all_steps (map steps_of_piece pieces)

-- the steps of a path that is kept
abbrev pub steps_of_path : KeptPath → List PlacedRule
steps_of_path (KeptPath.Steps steps) = steps.items
steps_of_path (KeptPath.Pieces pieces) = steps_of_pieces pieces.items
