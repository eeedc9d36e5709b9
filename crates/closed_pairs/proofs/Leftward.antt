-- Paths whose positions each stand left of the next one are parallel steps, written from the left.
use Rattle.std.specs.Prelude.{◌≡◌, ◌≢◌, ◌↔◌, ◌<◌, ℕ, ◌+◌, List, [], ◌∷◌, drop, take, length, slice_get, Some, IsTrue}
use Rattle.std.proofs.Common.{◌≤◌, ◌-◌, inl, inr, get_or, ltb, refl, sym, subst, arith}
use Rattle.std.proofs.lemmas.Bool.{ltb-true, lt-ltb}
use Rattle.std.proofs.lemmas.List.{take_all}
use Rattle.trs_defs.specs.Path.{PlacedRule}
use Rattle.trs_defs.proofs.ListItems.{next_item}
use Rattle.confluence_theory.specs.ParallelPositions.{AreParallel, IsParallelToAll, ArePairwiseParallel}
use Rattle.closed_pairs.specs.LeftOf.{IsLeftOf}
use Rattle.closed_pairs.specs.ParallelClosed.{StandsBefore, DoAscend, IsParallel}

-- ---- two positions

pub left_before : (p q : List ℕ) → IsLeftOf p q → StandsBefore p q
left_before [] q h = absurd h
left_before (a ∷ p) [] h = absurd h
left_before (a ∷ p) (b ∷ q) (inl lt) = inl lt
left_before (a ∷ p) (b ∷ q) (inr (e, h)) = inr (e, left_before p q h)

pub left_parallel : (p q : List ℕ) → IsLeftOf p q → AreParallel p q
left_parallel [] q h = absurd h
left_parallel (a ∷ p) [] h = absurd h
left_parallel (a ∷ p) (b ∷ q) (inl lt) = inl (λ e. omega (arith, lt, e))
left_parallel (a ∷ p) (b ∷ q) (inr (e, h)) = inr (left_parallel p q h)

left_of : (p q : List ℕ) → AreParallel p q → StandsBefore p q → IsLeftOf p q
left_of [] q h k = absurd h
left_of (a ∷ p) [] h k = absurd h
left_of (a ∷ p) (b ∷ q) h (inl lt) = inl lt
left_of (a ∷ p) (b ∷ q) (inl differ) (inr (e, k)) = absurd (differ e)
left_of (a ∷ p) (b ∷ q) (inr h) (inr (e, k)) = inr (e, left_of p q h k)

left_through : (p q r : List ℕ) → IsLeftOf p q → IsLeftOf q r → IsLeftOf p r
left_through [] q r h k = absurd h
left_through (a ∷ p) [] r h k = absurd h
left_through (a ∷ p) (b ∷ q) [] h k = absurd k
left_through (a ∷ p) (b ∷ q) (c ∷ r) (inl h) (inl k) = inl (omega (arith, h, k))
left_through (a ∷ p) (b ∷ q) (c ∷ r) (inl h) (inr (e, k)) = inl (omega (arith, h, e))
left_through (a ∷ p) (b ∷ q) (c ∷ r) (inr (e, h)) (inl k) = inl (omega (arith, e, k))
left_through (a ∷ p) (b ∷ q) (c ∷ r) (inr (e, h)) (inr (d, k)) = inr (omega (arith, e, d), left_through p q r h k)

-- ---- paths

-- each position of the path is left of the next one
abbrev pub GoesRight : List PlacedRule → Type 0
GoesRight [] = Unit {0}
GoesRight (s ∷ []) = Unit {0}
GoesRight (s ∷ t ∷ path) = IsLeftOf s.place t.place × GoesRight (t ∷ path)

-- what stands left of the first position of such a path is parallel to all of them
parallel_to_all : (p : List ℕ) (t : PlacedRule) (path : List PlacedRule) → IsLeftOf p t.place → GoesRight (t ∷ path) → IsParallelToAll p (t ∷ path)
parallel_to_all p t [] h k = (left_parallel p t.place h, tt)
parallel_to_all p t (u ∷ path) h k =
    (left_parallel p t.place h, parallel_to_all p u path (left_through p t.place u.place h k.0) k.1)

pairwise_parallel : (path : List PlacedRule) → GoesRight path → ArePairwiseParallel path
pairwise_parallel [] h = tt
pairwise_parallel (s ∷ []) h = (tt, tt)
pairwise_parallel (s ∷ t ∷ path) h = (parallel_to_all s.place t path h.0 h.1, pairwise_parallel (t ∷ path) h.1)

ascends : (path : List PlacedRule) → GoesRight path → DoAscend path
ascends [] h = tt
ascends (s ∷ []) h = tt
ascends (s ∷ t ∷ path) h = (left_before s.place t.place h.0, ascends (t ∷ path) h.1)

goes_right : (path : List PlacedRule) → ArePairwiseParallel path → DoAscend path → GoesRight path
goes_right [] h k = tt
goes_right (s ∷ []) h k = tt
goes_right (s ∷ t ∷ path) h k = (left_of s.place t.place h.0.0 k.0, goes_right (t ∷ path) h.1 k.1)

-- ---- two positions, place by place

not_left_of_root : (p : List ℕ) → IsLeftOf p [] → ⊥
not_left_of_root [] h = h
not_left_of_root (a ∷ p) h = h

later : (a : ℕ) (p q : List ℕ) → IsLeftOf (a ∷ p) (a ∷ q) → IsLeftOf p q
later a p q (inl lt) = absurd (omega (arith, lt))
later a p q (inr (e, h)) = h

here : (a b : ℕ) (p q : List ℕ) → a ≢ b → IsLeftOf (a ∷ p) (b ∷ q) → a < b
here a b p q differ (inl lt) = lt
here a b p q differ (inr (e, h)) = absurd (differ e)

-- the positions agree before place number i
module _ (p q : List ℕ) (i : ℕ) (agree : (IsLeftOf (drop i p) (drop i q)) ↔ (IsLeftOf p q)) where
  pub left_ends : drop i p ≡ [] → IsLeftOf p q → ⊥
  left_ends e h = rw e at (agree.1 h)

  pub right_ends : drop i q ≡ [] → IsLeftOf p q → ⊥
  right_ends e h = not_left_of_root (drop i p) (rw e at (agree.1 h))

  differ_here : (a b : ℕ) → slice_get p i ≡ Some a → slice_get q i ≡ Some b → a ≢ b → (a < b) ↔ (IsLeftOf p q)
  differ_here a b e d differ =
      let both = rw (next_item p i a e, next_item q i b d) at agree in
      (λ lt. both.0 (inl lt), λ h. here a b (drop (i + 1) p) (drop (i + 1) q) differ (both.1 h))

  pub differ_by_test : (a b : ℕ) → slice_get p i ≡ Some a → slice_get q i ≡ Some b → a ≢ b → (IsTrue (ltb a b)) ↔ (IsLeftOf p q)
  differ_by_test a b e d differ =
      let both = differ_here a b e d differ in
      (λ h. both.0 (ltb-true a b h), λ h. lt-ltb a b (both.1 h))

  pub agree_here : (a : ℕ) → slice_get p i ≡ Some a → slice_get q i ≡ Some a → (IsLeftOf (drop (i + 1) p) (drop (i + 1) q)) ↔ (IsLeftOf p q)
  agree_here a e d =
      let both = rw (next_item p i a e, next_item q i a d) at agree in
      (λ h. both.0 (inr (refl, h)), λ h. later a (drop (i + 1) p) (drop (i + 1) q) (both.1 h))

-- ---- paths, step by step

pub at_start : (path : List PlacedRule) (s : PlacedRule) → 1 ≤ length path → s ≡ get_or path 0 s
    → (GoesRight (s ∷ take (length path - 1) (drop 1 path))) ↔ (GoesRight path)
at_start [] s some e = absurd (omega (arith, some))
at_start (t ∷ path) s some e =
    let same : s ≡ t = e in
    let all : take (length (t ∷ path) - 1) path ≡ path = take_all (length (t ∷ path) - 1) path (omega arith) in
    rw all (subst (λ x. (GoesRight (x ∷ path)) ↔ (GoesRight (t ∷ path))) (sym same) (λ h. h, λ h. h))

-- the steps of the path up to this one each stand left of the next one
module _ (path rest : List PlacedRule) (s t : PlacedRule) (i : ℕ) (so_far : (GoesRight (s ∷ drop i rest)) ↔ (GoesRight path)) where
  pub at_end : drop i rest ≡ [] → IsParallel path
  at_end none =
      let both = rw none at so_far in
      let all = both.0 tt in
      (pairwise_parallel path all, ascends path all)

  pub goes_on_right : slice_get rest i ≡ Some t → IsLeftOf s.place t.place → (GoesRight (t ∷ drop (i + 1) rest)) ↔ (GoesRight path)
  goes_on_right e h =
      let both = rw (next_item rest i t e) at so_far in
      (λ k. both.0 (h, k), λ k. (both.1 k).1)

  pub no_parallel_step : slice_get rest i ≡ Some t → (IsLeftOf s.place t.place → ⊥) → IsParallel path → ⊥
  no_parallel_step e none h =
      let both = rw (next_item rest i t e) at so_far in
      none (both.1 (goes_right path h.0 h.1)).0
