-- The end of a list of rules is what a search reaches to.
use Rattle.std.specs.Prelude.{◌≡◌, ◌<◌, ◌⊎◌, ℕ, ◌+◌, ◌^◌, max, true, ◌==◌, List, [], ◌∷◌, ◌++◌, length, All, get_or, IsTrue, refl}
use Rattle.std.proofs.Common.{zero, suc, inl, inr, sym, ap, arith, ◌∙◌, drop}
use Rattle.std.proofs.lemmas.Bool.{or_cases, or_left, or_right}
use Rattle.std.proofs.lemmas.List.{drop_more}
use native.Mathlib.Decide.{dec_lt}
use Rattle.trs_defs.specs.Variable.{is_listed}
use Rattle.assign_search.specs.Puzzle.{Puzzle}
use Rattle.assign_search.specs.Rest.{reach}
use Rattle.assign_search.proofs.Reaching.{reach_le, reach_in}
use Rattle.label_find.specs.LabelLawful.{equal_itself}
use Rattle.label_find.specs.Lists.{end_of}
use Rattle.label_find.proofs.Numbers.{equal_test}

listed_below : (ks : List ℕ) (s : ℕ) → is_listed s ks ≡ true → s < end_of ks
listed_below [] s t = absurd cc
listed_below (k ∷ ks) s t = elim (or_cases (k == s) (is_listed s ks) t) [
  | inl e ↦ (let same = equal_test k s e in omega (arith, same))
  | inr more ↦ (let h = listed_below ks s more in omega (arith, h))
]

last_listed : (ks : List ℕ) → (end_of ks ≡ 0) ⊎ ((k : ℕ) × (is_listed k ks ≡ true) × (end_of ks ≡ k + 1))
last_listed [] = inl refl
last_listed (k ∷ ks) = elim (last_listed ks) [
  | inl none ↦ inr (k, or_left (k == k) (is_listed k ks) (equal_itself k), omega (arith, none))
  | inr (j, listed, is) ↦ elim (dec_lt k j) [
    | yes less ↦ inr (j, or_right (k == j) (is_listed j ks) listed, omega (arith, less, is))
    | no greater ↦ inr (k, or_left (k == k) (is_listed k ks) (equal_itself k), omega (arith, greater, is))
  ]
]

-- where a constraint uses just the slots of these rules
pub reach_of_listed : (z : Puzzle) (c : ℕ) (ks : List ℕ) → ((s : ℕ) → z.uses c s ≡ is_listed s ks) → ((k : ℕ) → IsTrue (is_listed k ks) → k < z.slots) → end_of ks ≡ reach z c
unfolding reach
reach_of_listed z c ks uses below =
    let within = reach_le (z.uses c) z.slots (end_of ks) (λ s l t. listed_below ks s (sym (uses s) ∙ t)) in
    elim (last_listed ks) [
      | inl none ↦ omega (arith, within, none)
      | inr (k, listed, is) ↦ (let past = reach_in (z.uses c) z.slots k (below k listed) (uses k ∙ listed) in omega (arith, within, past, is))
    ]

item_listed : (ks : List ℕ) (i d : ℕ) → i < length ks → is_listed (get_or ks i d) ks ≡ true
item_listed [] i d within = absurd (omega (arith, within))
item_listed (k ∷ ks) zero d within = or_left (k == k) (is_listed k ks) (equal_itself k)
item_listed (k ∷ ks) (suc i) d within = or_right (k == get_or ks i d) (is_listed (get_or ks i d) ks) (item_listed ks i d (omega (arith, within)))

pub ends_fit : (ks : List ℕ) → ((k : ℕ) → IsTrue (is_listed k ks) → k + 1 < 2 ^ 32) → All (λ k. k + 1 < 2 ^ 32) ks
ends_fit ks few = λ i d within. few (get_or ks i d) (item_listed ks i d within)

-- the end of two lists
end_of_both : (xs ys : List ℕ) → end_of (xs ++ ys) ≡ max (end_of xs) (end_of ys)
end_of_both [] ys = omega arith
end_of_both (x ∷ xs) ys = let rest = end_of_both xs ys in omega (arith, rest)

-- the end of a peak's rules and of those of its sides
pub end_of_peak : (inner outer : ℕ) (lefts rights : List ℕ) (left right a b end : ℕ) → left ≡ end_of lefts → right ≡ end_of rights → a ≡ max left right → b ≡ max a (inner + 1) → end ≡ max b (outer + 1)
    → end ≡ end_of (inner ∷ outer ∷ (lefts ++ rights))
end_of_peak inner outer lefts rights left right a b end left_is right_is a_is b_is end_is = let both = end_of_both lefts rights in omega (arith, both, left_is, right_is, a_is, b_is, end_is)

-- what is left of the rules
pub end_more : (ks : List ℕ) (i k end new : ℕ) → i < length ks → k ≡ get_or ks i 0 → new ≡ max end (k + 1) → max end (end_of (drop i ks)) ≡ end_of ks → max new (end_of (drop (i + 1) ks)) ≡ end_of ks
end_more ks i k end new within is grown before =
    let opened : end_of (drop i ks) ≡ max (k + 1) (end_of (drop (i + 1) ks)) = ap end_of (drop_more ks i 0 within) ∙ ap (λ (n : ℕ). max (n + 1) (end_of (drop (i + 1) ks))) (sym is) in
    omega (arith, opened, grown, before)
