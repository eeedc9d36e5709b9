-- The paths that occur more than once: they have steps, and their numbers are in range where those of all paths are.
use Rattle.std.proofs.Common.{◌≤◌, ◌<◌, nat_lt, Bool, true, false, cond, List, [], ◌∷◌, ◌++◌, length, arith}
use Rattle.std.specs.Prelude.{filter}
use Rattle.std.specs.List.{AllByRecursion}
use Rattle.trs_defs.specs.Path.{PlacedRule}
use Rattle.text_reading.proofs.Tables.{all_append}
use Rattle.path_text.specs.Sharing.{path_weight, paths_weight}
use Rattle.path_text.specs.PathNames.{occurrences, is_known, distinct_behind, repeated_paths}
use Rattle.path_text.specs.Ranges.{IsPlacedInRange}
use Rattle.path_text.proofs.SeenPaths.{AreFull, distinct_full}

abbrev Steps : Type 0
Steps = List PlacedRule

kept : (P : Steps → Type 0) (f : Steps → Bool) (ps : List Steps) → AllByRecursion P ps → AllByRecursion P (filter f ps)
kept P f [] h = tt
kept P f (p ∷ ps) h = by_test (f p) (kept P f ps h.1)
  where
    by_test : (b : Bool) → AllByRecursion P (filter f ps) → AllByRecursion P (cond b (p ∷ filter f ps) (filter f ps))
    by_test true k = (h.0, k)
    by_test false k = k

distinct_kept : (P : Steps → Type 0) (known ps : List Steps) → AllByRecursion P known → AllByRecursion P ps → AllByRecursion P (distinct_behind known ps)
distinct_kept P known [] h k = h
distinct_kept P known (p ∷ ps) h k =
    by_test (is_known known p) (distinct_kept P known ps h k.1) (distinct_kept P (known ++ p ∷ []) ps (all_append P known (p ∷ []) h (k.0, tt)) k.1)
  where
    by_test : (b : Bool) → AllByRecursion P (distinct_behind known ps) → AllByRecursion P (distinct_behind (known ++ p ∷ []) ps)
        → AllByRecursion P (cond b (distinct_behind known ps) (distinct_behind (known ++ p ∷ []) ps))
    by_test true e f = e
    by_test false e f = f

pub repeated_in_range : (ps : List Steps) → AllByRecursion (AllByRecursion IsPlacedInRange) ps → AllByRecursion (AllByRecursion IsPlacedInRange) (repeated_paths ps)
repeated_in_range ps h =
    kept (AllByRecursion IsPlacedInRange) (λ p. nat_lt 1 (occurrences p ps)) (distinct_behind [] ps) (distinct_kept (AllByRecursion IsPlacedInRange) [] ps tt h)

pub repeated_full : (ps : List Steps) → AreFull (repeated_paths ps)
repeated_full ps = kept (λ p. 0 < length p) (λ p. nat_lt 1 (occurrences p ps)) (distinct_behind [] ps) (distinct_full [] ps tt)

full_weighs : (p : Steps) → 0 < length p → 1 ≤ path_weight p
full_weighs [] lt = absurd (omega (arith, lt))
full_weighs (s ∷ p) lt = omega arith

-- each path of at least one step weighs at least 1
pub no_more_than_weight : (ps : List Steps) → AreFull ps → length ps ≤ paths_weight ps
no_more_than_weight [] h = omega arith
no_more_than_weight (p ∷ ps) h = let one = full_weighs p h.0 in let more = no_more_than_weight ps h.1 in omega (arith, one, more)
