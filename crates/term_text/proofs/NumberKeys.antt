-- Variables that a set holds in order.
use Rattle.std.proofs.Common.{◌≡◌, ℕ, suc, ◌||◌, Bool, true, false, cond, List, [], ◌∷◌, ◌++◌, length, Option, Some, None, option_map, unwrap_or, nat_eq, refl, ap, ap₂, ◌∙◌}
use Rattle.std.specs.List.{list_any, position}
use Rattle.std.proofs.lemmas.Cmp.{nat_eq_equiv}
use Rattle.trs_defs.specs.Tree.{var}
use Rattle.trs_defs.specs.Variable.{is_listed, with_variables}
use Rattle.trs_core.proofs.FirstPlaces.{position_next}
use Rattle.term_text.specs.Renumbered.{number_among}

listed_any : (v : ℕ) (ks : List ℕ) → list_any (nat_eq v) ks ≡ is_listed v ks
listed_any v [] = refl
listed_any v (k ∷ ks) = ap₂ (λ a b. a || b) (nat_eq_equiv.symm v k) (listed_any v ks)

-- the variables after one is inserted
pub keys_inserted : (v : ℕ) (ks more : List ℕ) → more ≡ cond (list_any (nat_eq v) ks) ks (ks ++ v ∷ []) → more ≡ with_variables ks (var v)
keys_inserted v ks more e = e ∙ ap (λ b. cond b ks (ks ++ v ∷ [])) (listed_any v ks)

place_behind : (b : Bool) (o : Option ℕ) (l : ℕ) → unwrap_or (cond b (Some 0) (option_map suc o)) (suc l) ≡ cond b 0 (suc (unwrap_or o l))
place_behind true o l = refl
place_behind false None l = refl
place_behind false (Some i) l = refl

-- the number of a variable is its place among the keys
pub number_at : (v : ℕ) (ks : List ℕ) → unwrap_or (position (λ k. nat_eq v k) ks) (length ks) ≡ number_among ks v
number_at v [] = refl
number_at v (k ∷ ks) =
    ap (λ (o : Option ℕ). unwrap_or o (suc (length ks))) (position_next (λ j. nat_eq v j) k ks)
    ∙ place_behind (nat_eq v k) (position (λ j. nat_eq v j) ks) (length ks)
    ∙ ap₂ (λ b n. cond b 0 (suc n)) (nat_eq_equiv.symm v k) (number_at v ks)
