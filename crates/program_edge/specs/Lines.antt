-- The lines that name a fault.
use Rattle.std.specs.Prelude.{ℕ, List, [], ◌∷◌, ◌++◌, codes}
use Rattle.ari_text.specs.declared.fault.AriFault.{AriFault}
use Rattle.ari_text.specs.Least.{number_of_fault}
use Rattle.ari_text.specs.FaultParts.{text_number_of, shown_place}
use Rattle.program_edge.specs.Numbers.{fields_text, listed}

-- the number of a fault of a problem text, that of a text fault, and its place, if it has one
abbrev pub problem_fields : AriFault → List ℕ
problem_fields f = number_of_fault f ∷ (listed (text_number_of f) ++ listed (shown_place f))

abbrev pub refused_line : AriFault → List ℕ
refused_line f = codes "problem refused" ++ (fields_text (problem_fields f) ++ 10 ∷ [])

abbrev pub read_fault_line : List ℕ → List ℕ
read_fault_line name = codes "read fault " ++ (name ++ 10 ∷ [])

abbrev pub too_long_line : List ℕ → List ℕ
too_long_line name = codes "too long " ++ (name ++ 10 ∷ [])
