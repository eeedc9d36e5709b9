-- The places of symbols, as they are noted one by one.
use Rattle.std.specs.Prelude.{◌≡◌, ◌<◌, ◌≤◌, ◌⊎◌, ℕ, ◌+◌, All, Bool, true, false, ◌==◌, if◌then◌else◌, List, [], ◌∷◌, ◌++◌, length, take, get_or, Option, Some, None, option_map}
use Rattle.std.proofs.Common.{zero, suc, inl, inr, refl, sym, ap, subst, arith, ◌∙◌, set, replicate}
use Rattle.std.proofs.lemmas.List.{take_more, length-take-le, length-set, length-replicate, take_all, get_or-set_same, get_or-set_other}
use Rattle.dp_core.specs.pair_order.Entries.{place_among}
use Rattle.order_search.specs.Placed.{ArePlaced}
use Rattle.order_search.proofs.Tests.{self_test, other_test}

-- the first of two, or else the second
abbrev first_of : Option ℕ → Option ℕ → Option ℕ
first_of None o = o
first_of (Some k) o = Some k

abbrev place_if : Bool → ℕ → Option ℕ
place_if b k = if b then Some k else None

later : (o : Option ℕ) (b : Bool) (k : ℕ) → option_map suc (first_of o (place_if b k)) ≡ first_of (option_map suc o) (place_if b (suc k))
later None true k = refl
later None false k = refl
later (Some j) b k = refl

behind_one : (b : Bool) (o p q : Option ℕ) → option_map suc o ≡ first_of (option_map suc p) q
    → (if b then Some 0 else option_map suc o) ≡ first_of (if b then Some 0 else option_map suc p) q
behind_one true o p q e = refl
behind_one false o p q e = e

-- a symbol behind others stands there where it is none of them
place_behind : (xs : List ℕ) (g f : ℕ) → place_among (xs ++ g ∷ []) f ≡ first_of (place_among xs f) (place_if (g == f) (length xs))
place_behind [] g f = refl
place_behind (x ∷ xs) g f =
    behind_one (x == f) (place_among (xs ++ g ∷ []) f) (place_among xs f) _
    (ap (option_map suc) (place_behind xs g f) ∙ later (place_among xs f) (g == f) (length xs))

first_alone : (o : Option ℕ) (b : Bool) (k : ℕ) → b ≡ false → first_of o (place_if b k) ≡ o
first_alone None true k e = absurd cc
first_alone None false k e = refl
first_alone (Some j) b k e = refl

module _ (xs : List ℕ) (g : ℕ) (places : List (Option ℕ)) (placed : ArePlaced xs places) where
  other_there : (f : ℕ) → (f ≡ g → ⊥) → get_or places f None ≡ place_among (xs ++ g ∷ []) f
  other_there f n = placed f ∙ sym (place_behind xs g f ∙ first_alone (place_among xs f) (g == f) (length xs) (other_test g f n))

  same_or_other : (f : ℕ) → (f ≡ g) ⊎ (f ≡ g → ⊥)
  same_or_other f = decide f g
    where
      decide : (m n : ℕ) → (m ≡ n) ⊎ (m ≡ n → ⊥)
      decide zero zero = inl refl
      decide zero (suc n) = inr (λ e. absurd (omega (arith, e)))
      decide (suc m) zero = inr (λ e. absurd (omega (arith, e)))
      decide (suc m) (suc n) = elim (decide m n) [ inl e ↦ inl (ap suc e) | inr h ↦ inr (λ e. h (omega (arith, e))) ]

  noted_again : (k : ℕ) → get_or places g None ≡ Some k → ArePlaced (xs ++ g ∷ []) places
  noted_again k there f = elim (same_or_other f) [
    | inl e ↦ subst (λ h. get_or places h None ≡ place_among (xs ++ g ∷ []) h) (sym e)
        (there ∙ sym (place_behind xs g g ∙ ap (λ o. first_of o (place_if (g == g) (length xs))) (sym (placed g) ∙ there)))
    | inr n ↦ other_there f n
  ]

  noted : g < length places → get_or places g None ≡ None → ArePlaced (xs ++ g ∷ []) (set places g (Some (length xs)))
  noted below none f = elim (same_or_other f) [
    | inl e ↦ subst (λ h. get_or (set places g (Some (length xs))) h None ≡ place_among (xs ++ g ∷ []) h) (sym e)
        (get_or-set_same places g (Some (length xs)) None below
        ∙ sym (place_behind xs g g ∙ (ap (λ o. first_of o (place_if (g == g) (length xs))) (sym (placed g) ∙ none)
        ∙ ap (λ b. place_if b (length xs)) (self_test g))))
    | inr n ↦ get_or-set_other places g f (Some (length xs)) None n ∙ other_there f n
  ]

pub none_placed : (n : ℕ) → ArePlaced [] (replicate n None)
none_placed zero f = refl
none_placed (suc n) zero = refl
none_placed (suc n) (suc f) = none_placed n f

-- the first symbols have their places
pub record ArePlacedSoFar (symbols : List ℕ) (i : ℕ) (places : List (Option ℕ)) : Type 0 where
  pub within : All (λ f. f < length places) symbols
  pub placed : ArePlaced (take i symbols) places

module _ (symbols : List ℕ) (i : ℕ) (places : List (Option ℕ)) (below : i < length symbols) (before : ArePlacedSoFar symbols i places) where
  so_many : length (take i symbols) ≡ i
  so_many = length-take-le i symbols (omega (arith, below))

  one_more : (now : List (Option ℕ)) → ArePlaced (take i symbols ++ get_or symbols i 0 ∷ []) now → ArePlaced (take (i + 1) symbols) now
  one_more now placed = subst (λ (l : List ℕ). ArePlaced l now) (sym (take_more symbols i 0 below)) placed

  pub one_placed : (g : ℕ) → g ≡ get_or symbols i 0 → g < length places → get_or places g None ≡ None → ArePlacedSoFar symbols (i + 1) (set places g (Some i))
  one_placed g is within none = record {
    within = subst (λ (n : ℕ). All (λ f. f < n) symbols) (sym (length-set places g (Some i))) before.within;
    placed = one_more (set places g (Some i))
        (subst (λ h. ArePlaced (take i symbols ++ h ∷ []) (set places g (Some i))) is
        (subst (λ (k : ℕ). ArePlaced (take i symbols ++ g ∷ []) (set places g (Some k))) so_many
        (noted (take i symbols) g places before.placed within none)));
  }

  pub one_again : (g k : ℕ) → g ≡ get_or symbols i 0 → get_or places g None ≡ Some k → ArePlacedSoFar symbols (i + 1) places
  one_again g k is there = record {
    within = before.within;
    placed = one_more places (subst (λ h. ArePlaced (take i symbols ++ h ∷ []) places) is (noted_again (take i symbols) g places before.placed k there));
  }

pub all_placed : (symbols : List ℕ) (i : ℕ) (places : List (Option ℕ)) → length symbols ≤ i → ArePlacedSoFar symbols i places → ArePlaced symbols places
all_placed symbols i places past before = subst (λ (l : List ℕ). ArePlaced l places) (take_all i symbols past) before.placed

module _ (symbols : List ℕ) (i : ℕ) (places now : List (Option ℕ)) (below : i < length symbols) (before : ArePlacedSoFar symbols i places) (g : ℕ) (is : g ≡ get_or symbols i 0) where
  -- a place is noted where there was none
  pub one_noted : ((k : ℕ) → get_or places g None ≡ Some k → now ≡ places) → (get_or places g None ≡ None → now ≡ set places g (Some i)) → ArePlacedSoFar symbols (i + 1) now
  one_noted there put = by_case (get_or places g None) refl
    where
      within : g < length places
      within = subst (λ (h : ℕ). h < length places) (sym is) (before.within i 0 below)

      by_case : (o : Option ℕ) → get_or places g None ≡ o → ArePlacedSoFar symbols (i + 1) now
      by_case None e = subst (ArePlacedSoFar symbols (i + 1)) (sym (put e)) (one_placed symbols i places below before g is within e)
      by_case (Some k) e = subst (ArePlacedSoFar symbols (i + 1)) (sym (there k e)) (one_again symbols i places below before g k is e)

pub none_so_far : (symbols : List ℕ) (n : ℕ) (places : List (Option ℕ)) → places ≡ replicate n None → All (λ f. f < n) symbols → ArePlacedSoFar symbols 0 places
none_so_far symbols n places are within = record {
  within = subst (λ (m : ℕ). All (λ f. f < m) symbols) (sym (ap length are ∙ length-replicate n None)) within;
  placed = subst (ArePlaced []) (sym are) (none_placed n);
}
