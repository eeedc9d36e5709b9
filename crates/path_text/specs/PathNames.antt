-- The names of paths that occur more than once, in printed texts of version 2.
use Rattle.std.specs.Prelude.{ℕ, suc, ◌+◌, ◌==◌, ◌&&◌, nat_lt, Bool, true, false, List, [], ◌∷◌, ◌++◌, filter, is_some, Option, Some, None, option_map, codes, decimal, if◌then◌else◌}
use Rattle.std.specs.Str.{bytes_eq}
use Rattle.trs_defs.specs.Path.{PlacedRule}
use Rattle.path_text.specs.Sharing.{paths_weight}

-- the same steps at the same places
abbrev pub is_same_path : List PlacedRule → List PlacedRule → Bool
is_same_path [] [] = true
is_same_path [] (t ∷ q) = false
is_same_path (s ∷ p) [] = false
is_same_path (s ∷ p) (t ∷ q) = bytes_eq s.place t.place && (s.rule == t.rule) && is_same_path p q

-- the number of a path among others, counted from 0
abbrev pub path_number : List (List PlacedRule) → List PlacedRule → Option ℕ
path_number [] p = None
path_number (q ∷ qs) p = if is_same_path p q then Some 0 else option_map suc (path_number qs p)

abbrev pub occurrences : List PlacedRule → List (List PlacedRule) → ℕ
occurrences p [] = 0
occurrences p (q ∷ qs) = if is_same_path p q then suc (occurrences p qs) else occurrences p qs

-- no step, or among the known ones
abbrev pub is_known : List (List PlacedRule) → List PlacedRule → Bool
is_known known [] = true
is_known known (s ∷ p) = is_some (path_number known (s ∷ p))

-- The paths of at least one step, each once, in the order of their first occurrences, behind those already known.
abbrev pub distinct_behind : List (List PlacedRule) → List (List PlacedRule) → List (List PlacedRule)
distinct_behind known [] = known
distinct_behind known (p ∷ ps) =
    if is_known known p then distinct_behind known ps else distinct_behind (known ++ p ∷ []) ps

-- those that occur more than once
abbrev pub repeated_paths : List (List PlacedRule) → List (List PlacedRule)
repeated_paths ps = filter (λ p. nat_lt 1 (occurrences p ps)) (distinct_behind [] ps)

-- p0, p1, ..
abbrev pub path_name : ℕ → List ℕ
path_name k = codes "p" ++ decimal k

-- what all paths of a printed text of version 2 weigh: those that have names once more
abbrev pub printed_weight : List (List PlacedRule) → ℕ
printed_weight ps = paths_weight (repeated_paths ps) + paths_weight ps
