-- The loop that copies the names of symbols.
use Rattle.std.proofs.Common.{◌≡◌, ℕ, ◌+◌, ◌≤◌, List, [], ◌∷◌, ◌++◌, length, drop, Some, slice_get, map, Vec, Global, sym, ap, ap₂, subst, ◌∙◌, append_assoc, drop-cons, add-one}
use Rattle.std.proofs.lemmas.List.{append-nil, drop_all, map-append}
use Rattle.std.proofs.lemmas.Option.{slice_get_within, get_or_from_slice_get}

pub next_name : (xs names : List (List ℕ)) (f : ℕ) (name : List ℕ) → slice_get names f ≡ Some name → xs ++ drop f names ≡ names → (xs ++ name ∷ []) ++ drop (f + 1) names ≡ names
next_name xs names f name at h =
    let split : drop f names ≡ name ∷ drop (f + 1) names =
    drop-cons names f name (slice_get_within names f name at)
    ∙ ap₂ (λ (y : List ℕ) ys. y ∷ ys) (get_or_from_slice_get names f name name at) (ap (λ n. drop n names) (sym (add-one f)))
    in
    let whole : xs ++ (name ∷ drop (f + 1) names) ≡ names = (let T : List (List ℕ) → Type 0 = λ ys. xs ++ ys ≡ names in subst T split h) in
    append_assoc xs (name ∷ []) (drop (f + 1) names) ∙ whole

-- one more name is copied
pub copied_name : (vs ws : List (Vec ℕ Global)) (v : Vec ℕ Global) (names : List (List ℕ)) (f : ℕ) (name : List ℕ) → ws ≡ vs ++ v ∷ [] → v.items ≡ name → slice_get names f ≡ Some name
    → map (λ n. n.items) vs ++ drop f names ≡ names → map (λ n. n.items) ws ++ drop (f + 1) names ≡ names
copied_name vs ws v names f name pushed copied at h =
    ap (λ (us : List (Vec ℕ Global)). map (λ n. n.items) us ++ drop (f + 1) names) pushed
    ∙ ap (λ (ns : List (List ℕ)). ns ++ drop (f + 1) names) (map-append (λ n. n.items) vs (v ∷ []))
    ∙ next_name (map (λ n. n.items) vs) names f v.items (at ∙ ap Some (sym copied)) h

pub all_named : (xs names : List (List ℕ)) (f : ℕ) → length names ≤ f → xs ++ drop f names ≡ names → xs ≡ names
all_named xs names f past h =
    let whole : xs ++ [] ≡ names = (let T : List (List ℕ) → Type 0 = λ ys. xs ++ ys ≡ names in subst T (drop_all f names past) h) in
    sym (append-nil xs) ∙ whole
