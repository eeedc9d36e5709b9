-- Few paths, and light ones: those that occur more than once weigh no more than all of them.
use Rattle.std.proofs.Common.{◌≡◌, ℕ, suc, ◌+◌, ◌≤◌, ◌<◌, nat_lt, nat_le, Bool, true, false, cond, List, [], ◌∷◌, ◌++◌, length, Some, refl, sym, arith}
use Rattle.std.specs.Prelude.{filter}
use Rattle.std.proofs.lemmas.Bool.{le-leb}
use Rattle.trs_defs.specs.Path.{PlacedRule}
use Rattle.path_text.specs.Sharing.{path_weight, paths_weight}
use Rattle.path_text.specs.Parts.{room_left}
use Rattle.path_text.specs.PathNames.{is_same_path, occurrences, is_known, distinct_behind, repeated_paths, printed_weight}
use Rattle.path_text.proofs.Weighing.{room_enough}

abbrev Steps : Type 0
Steps = List PlacedRule

-- of less than two paths none occurs more than once
pub few_repeat : (ps : List Steps) → length ps < 2 → repeated_paths ps ≡ []
few_repeat [] lt = refl
few_repeat ([] ∷ []) lt = refl
few_repeat ((s ∷ p) ∷ []) lt = by_test (is_same_path (s ∷ p) (s ∷ p))
  where
    by_test : (b : Bool) → cond (nat_lt 1 (cond b (suc 0) 0)) ((s ∷ p) ∷ []) [] ≡ []
    by_test true = refl
    by_test false = refl
few_repeat (p ∷ q ∷ ps) lt = absurd (omega (arith, lt))

-- ---- weights

weight_append : (ps qs : List Steps) → paths_weight (ps ++ qs) ≡ paths_weight ps + paths_weight qs
weight_append [] qs = omega arith
weight_append (p ∷ ps) qs = let e = weight_append ps qs in omega (arith, e)

weight_kept : (f : Steps → Bool) (ps : List Steps) → paths_weight (filter f ps) ≤ paths_weight ps
weight_kept f [] = omega arith
weight_kept f (p ∷ ps) = by_test (f p) (weight_kept f ps)
  where
    by_test : (b : Bool) → paths_weight (filter f ps) ≤ paths_weight ps → paths_weight (cond b (p ∷ filter f ps) (filter f ps)) ≤ path_weight p + paths_weight ps
    by_test true h = omega (arith, h)
    by_test false h = omega (arith, h)

weight_distinct : (known ps : List Steps) → paths_weight (distinct_behind known ps) ≤ paths_weight known + paths_weight ps
weight_distinct known [] = omega arith
weight_distinct known (p ∷ ps) = by_test (is_known known p) (weight_distinct known ps) (weight_distinct (known ++ p ∷ []) ps)
  where
    by_test : (b : Bool) → paths_weight (distinct_behind known ps) ≤ paths_weight known + paths_weight ps
        → paths_weight (distinct_behind (known ++ p ∷ []) ps) ≤ paths_weight (known ++ p ∷ []) + paths_weight ps
        → paths_weight (cond b (distinct_behind known ps) (distinct_behind (known ++ p ∷ []) ps)) ≤ paths_weight known + (path_weight p + paths_weight ps)
    by_test true h k = omega (arith, h)
    by_test false h k = let e = weight_append known (p ∷ []) in omega (arith, e, k)

repeated_weight : (ps : List Steps) → paths_weight (repeated_paths ps) ≤ paths_weight ps
repeated_weight ps =
    let h = weight_kept (λ p. nat_lt 1 (occurrences p ps)) (distinct_behind [] ps) in
    let k = weight_distinct [] ps in
    omega (arith, h, k)

-- paths of at most half the weight that there may be
pub light_fits : (ps : List Steps) (room : ℕ) → room_left 8388608 (paths_weight ps) ≡ Some room → 4194304 ≤ room → true ≡ nat_le (printed_weight ps) 8388608
light_fits ps room e le =
    let (within, is) = room_enough 8388608 (paths_weight ps) room e in
    let more = repeated_weight ps in
    sym (le-leb (printed_weight ps) 8388608 (omega (arith, within, is, le, more)))
