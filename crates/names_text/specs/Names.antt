-- Names by number.
use Rattle.std.specs.Prelude.{ℕ, suc, ◌&&◌, Bool, not, true, List, [], ◌∷◌, Option, Some, None, option_map, if◌then◌else◌}
use Rattle.std.specs.List.{list_any}
use Rattle.std.specs.Str.{bytes_eq}

-- the number of a name among others, counted from 0
abbrev pub number_among : List (List ℕ) → List ℕ → Option ℕ
number_among [] name = None
number_among (n ∷ ns) name = if bytes_eq name n then Some 0 else option_map suc (number_among ns name)

-- no name stands twice
abbrev pub are_distinct : List (List ℕ) → Bool
are_distinct [] = true
are_distinct (n ∷ ns) = not (list_any (bytes_eq n) ns) && are_distinct ns
