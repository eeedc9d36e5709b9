-- The lines that speak of the words and of the list.
use Rattle.std.specs.Prelude.{ℕ, List, [], ◌∷◌, ◌++◌, codes}
use Rattle.program_edge.specs.Numbers.{fields_text}

abbrev pub usage_line : List ℕ
usage_line = codes "usage: trsbatch <action> <list> [--workers N] [--budget B]\n"

-- the line of a list that is refused at a line of it
abbrev pub list_refused_line : ℕ → List ℕ
list_refused_line line = codes "list refused" ++ (fields_text (line ∷ []) ++ 10 ∷ [])
