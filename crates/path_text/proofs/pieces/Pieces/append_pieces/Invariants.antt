use Rattle.std.proofs.Common.{◌≡◌, ◌++◌, drop}
use Rattle.rewrite_core.specs.ShiftedPath.{shifted_path}
use Rattle.path_text.specs.Pieces.{steps_of_pieces}
use Rattle.path_text.proofs.pieces.Pieces.append_pieces.Given as goal

abbrev pub invariant-loop-piece : goal.invariant-loop-piece
invariant-loop-piece l =
    l.self ++ shifted_path l.by (steps_of_pieces (drop l.piece-index l.pieces)) ≡ l.initial.self ++ shifted_path l.by (steps_of_pieces l.pieces)
