-- Steps of counting and printing underscores.
use Rattle.std.proofs.Common.{◌≡◌, ℕ, suc, ◌+◌, ◌≤◌, max, List, [], ◌∷◌, ◌++◌, drop, replicate, Some, slice_get, ap, ◌∙◌, append_assoc, arith}
use Rattle.std.proofs.lemmas.List.{replicate-append-replicate}
use Rattle.names_text.specs.VariableNames.{leading_underscores, underscores}
use Rattle.trs_defs.proofs.ListItems.{next_item}

-- one more underscore
pub underscore_step : (out : List ℕ) (i : ℕ) → (out ++ replicate i 95) ++ 95 ∷ [] ≡ out ++ replicate (i + 1) 95
underscore_step out i = append_assoc out (replicate i 95) (95 ∷ []) ∙ ap (λ (t : List ℕ). out ++ t) (replicate-append-replicate i 1 95)

pub underscores_pos : (ns : List (List ℕ)) → 1 ≤ underscores ns
underscores_pos [] = omega arith
underscores_pos (n ∷ ns) = omega (arith, underscores_pos ns)

-- one more name is counted
pub underscores_step : (names : List (List ℕ)) (f : ℕ) (name : List ℕ) (most : ℕ) → slice_get names f ≡ Some name
    → max most (underscores (drop f names)) ≡ underscores names
    → max (max most (leading_underscores name + 1)) (underscores (drop (f + 1) names)) ≡ underscores names
underscores_step names f name most e h =
    let here : max most (max (suc (leading_underscores name)) (underscores (drop (f + 1) names))) ≡ underscores names = rw (next_item names f name e) at h in
    omega (arith, here)
