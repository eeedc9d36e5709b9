-- The parallel step from one term to another is the only one, and where its steps stand.
use Rattle.std.specs.Prelude.{◌≡◌, ◌≢◌, ◌<◌, ◌≤◌, ◌⊎◌, ℕ, ◌+◌, List, [], ◌∷◌, ◌++◌, map, refl}
use Rattle.std.proofs.Common.{ap, sym, subst, ◌∙◌, arith, inl, inr}
use Rattle.std.proofs.Math.Decide.{ℕ_discrete}
use native.Mathlib.Decide.{dec_lt}
use Rattle.trs_defs.specs.Member.{In, in_first, in_rest}
use Rattle.trs_defs.specs.Tree.{Tree, Trees, app, nil, cons, count}
use Rattle.trs_defs.specs.System.{RewriteRule}
use Rattle.trs_defs.specs.Path.{PlacedRule}
use Rattle.trs_defs.proofs.Members.{in_either, no_in, of_map}
use Rattle.term_pool.specs.Redexes.{below}
use Rattle.confluence_theory.specs.ParallelPositions.{IsParallelToAll, ArePairwiseParallel}
use Rattle.closed_pairs.specs.LeftOf.{IsLeftOf}
use Rattle.closed_pairs.specs.ParallelClosed.{DoAscend, IsParallel}
use Rattle.closed_pairs.proofs.Leftward.{left_parallel, left_before}
use Rattle.join_find.specs.ParallelRow.{HasNoRootStep, IsRootStep, IsParallelStep, no_step, at_root, in_arguments, AreParallelSteps, no_argument, one_argument}

-- what the parallel step between two terms may be
pub parallel_cases : (rules : List RewriteRule) (P : Type 0) {s t : Tree} {steps : List PlacedRule} → IsParallelStep rules s t steps
    → (s ≡ t → P) → ((k : ℕ) → IsRootStep rules s t k → P)
    → ((f : ℕ) (ss ts : Trees) → s ≡ app f ss → t ≡ app f ts → AreParallelSteps rules 1 ss ts steps → P) → P
parallel_cases rules P no_step same root args = same refl
parallel_cases rules P (at_root {k = k} ne step) same root args = root k step
parallel_cases rules P (in_arguments {f = f} {ss = ss} {ts = ts} ne none h) same root args = args f ss ts refl refl h

-- the steps of a first argument and of those behind it
pub record StepsOfTwo (rules : List RewriteRule) (place : ℕ) (s t : Tree) (ss ts : Trees) (steps : List PlacedRule) : Type 0 where
  pub first : List PlacedRule
  pub rest : List PlacedRule
  pub of_first : IsParallelStep rules s t first
  pub of_rest : AreParallelSteps rules (place + 1) ss ts rest
  pub is : steps ≡ map (below (place ∷ [])) first ++ rest

pub first_and_rest : (rules : List RewriteRule) {place : ℕ} {xs ys : Trees} {steps : List PlacedRule} → AreParallelSteps rules place xs ys steps
    → (s t : Tree) (ss ts : Trees) → xs ≡ cons s ss → ys ≡ cons t ts → StepsOfTwo rules place s t ss ts steps
first_and_rest rules no_argument s t ss ts is_left is_right = absurd cc
first_and_rest rules (one_argument {place = place} {s = a} {t = b} {ss = xs} {ts = ys} {first = first} {rest = rest} h later) s t ss ts is_left is_right =
    let a_is : a ≡ s = cc is_left in
    let as_is : xs ≡ ss = cc is_left in
    let b_is : b ≡ t = cc is_right in
    let bs_is : ys ≡ ts = cc is_right in
    record {
      first = first;
      rest = rest;
      of_first = subst (λ x. IsParallelStep rules s x first) b_is (subst (λ x. IsParallelStep rules x b first) a_is h);
      of_rest = subst (λ zs. AreParallelSteps rules (place + 1) ss zs rest) bs_is (subst (λ zs. AreParallelSteps rules (place + 1) zs ys rest) as_is later);
      is = refl;
    }

pub same_count : (rules : List RewriteRule) {place : ℕ} {xs ys : Trees} {steps : List PlacedRule} → AreParallelSteps rules place xs ys steps → count xs ≡ count ys
same_count rules no_argument = refl
same_count rules (one_argument h later) = ap (λ n. 1 + n) (same_count rules later)

-- ---- there is only one

equal_none : (rules : List RewriteRule) {s t : Tree} {b : List PlacedRule} → IsParallelStep rules s t b → s ≡ t → b ≡ []
equal_none rules no_step same = refl
equal_none rules (at_root ne step) same = absurd (ne same)
equal_none rules (in_arguments ne none h) same = absurd (ne same)

root_step : ℕ → List PlacedRule
root_step k = record { place = []; rule = k } ∷ []

least_is_one : (rules : List RewriteRule) (s t : Tree) (j k : ℕ) → IsRootStep rules s t j → IsRootStep rules s t k → j ≡ k
least_is_one rules s t j k h g = elim (ℕ_discrete j k) [
  | yes same ↦ same
  | no other ↦ elim (below_or_above j k other) [ inl less ↦ absurd (g.least j less h.steps) | inr more ↦ absurd (h.least k more g.steps) ]
]
  where
    below_or_above : (j k : ℕ) → j ≢ k → (j < k) ⊎ (k < j)
    below_or_above j k other = elim (dec_lt j k) [ yes l ↦ inl l | no l ↦ inr (omega (arith, other, l)) ]

one_root : (rules : List RewriteRule) {s t : Tree} {b : List PlacedRule} → IsParallelStep rules s t b → s ≢ t → (k : ℕ) → IsRootStep rules s t k
    → record { place = []; rule = k } ∷ [] ≡ b
one_root rules no_step ne k root = absurd (ne refl)
one_root rules (at_root {s = s} {t = t} {k = j} ne step) other k root = ap (λ (n : ℕ). record { place = []; rule = n } ∷ []) (least_is_one rules s t k j root step)
one_root rules (in_arguments ne none h) other k root = absurd (none k root.steps)

one_of_arguments : (rules : List RewriteRule) {s t : Tree} {b : List PlacedRule} → IsParallelStep rules s t b → (f : ℕ) (ss ts : Trees) → s ≡ app f ss → t ≡ app f ts → s ≢ t
    → HasNoRootStep rules s t → (a : List PlacedRule) → ((c : List PlacedRule) → AreParallelSteps rules 1 ss ts c → a ≡ c) → a ≡ b
one_of_arguments rules no_step f ss ts is_left is_right ne none a h = absurd (ne refl)
one_of_arguments rules (at_root {k = k} other step) f ss ts is_left is_right ne none a h = absurd (none k step.steps)
one_of_arguments rules (in_arguments {f = g} {ss = xs} {ts = ys} {steps = steps} other no_root args) f ss ts is_left is_right ne none a h =
    let as_is : xs ≡ ss = cc is_left in
    let bs_is : ys ≡ ts = cc is_right in
    h steps (subst (λ zs. AreParallelSteps rules 1 ss zs steps) bs_is (subst (λ zs. AreParallelSteps rules 1 zs ys steps) as_is args))

none_of_none : (rules : List RewriteRule) {place : ℕ} {xs ys : Trees} {c : List PlacedRule} → AreParallelSteps rules place xs ys c → xs ≡ nil → [] ≡ c
none_of_none rules no_argument is = refl
none_of_none rules (one_argument h later) is = absurd cc

mutual
  pub one_parallel_step : (rules : List RewriteRule) {s t : Tree} {a b : List PlacedRule} → IsParallelStep rules s t a → IsParallelStep rules s t b → a ≡ b
  one_parallel_step rules no_step h = sym (equal_none rules h refl)
  one_parallel_step rules (at_root {k = k} ne root) h = one_root rules h ne k root
  one_parallel_step rules (in_arguments {f = f} {ss = ss} {ts = ts} {steps = a} ne none args) h =
      one_of_arguments rules h f ss ts refl refl ne none a (λ c g. one_of_all rules args g)

  one_of_all : (rules : List RewriteRule) {place : ℕ} {ss ts : Trees} {a b : List PlacedRule} → AreParallelSteps rules place ss ts a → AreParallelSteps rules place ss ts b → a ≡ b
  one_of_all rules no_argument h = none_of_none rules h refl
  one_of_all rules (one_argument {place = place} {s = s} {t = t} {ss = ss} {ts = ts} {first = first} {rest = rest} p later) h =
      let two = first_and_rest rules h s t ss ts refl refl in
      let same_first : first ≡ two.first = one_parallel_step rules p two.of_first in
      let same_rest : rest ≡ two.rest = one_of_all rules later two.of_rest in
      ap (λ xs. map (below (place ∷ [])) xs ++ rest) same_first ∙ ap (λ xs. map (below (place ∷ [])) two.first ++ xs) same_rest ∙ sym two.is

-- ---- from the left

-- each position stands to the left of all that follow it
abbrev GoLeft : List PlacedRule → Type 0
GoLeft [] = Unit {0}
GoLeft (s ∷ ss) = ((u : PlacedRule) → In u ss → IsLeftOf s.place u.place) × GoLeft ss

-- the position begins with a place from this one on
abbrev BeginsFrom : ℕ → List ℕ → Type 0
BeginsFrom n [] = ⊥
BeginsFrom n (m ∷ p) = n ≤ m

later_begins : (n : ℕ) (p : List ℕ) → BeginsFrom (n + 1) p → BeginsFrom n p
later_begins n [] h = h
later_begins n (m ∷ p) h = omega (arith, h)

steps_begin : (rules : List RewriteRule) {place : ℕ} {ss ts : Trees} {steps : List PlacedRule} → AreParallelSteps rules place ss ts steps → (u : PlacedRule) → In u steps → BeginsFrom place u.place
steps_begin rules no_argument u i = absurd (no_in i)
steps_begin rules (one_argument {place = place} {first = first} {rest = rest} p later) u i = elim (in_either (map (below (place ∷ [])) first) rest i) [
  | inl here ↦ (let (s, there, same) = of_map (below (place ∷ [])) first here in subst (λ (x : PlacedRule). BeginsFrom place x.place) (sym same) (omega arith))
  | inr rest_in ↦ later_begins place u.place (steps_begin rules later u rest_in)
]

left_of_later : (n : ℕ) (p q : List ℕ) → BeginsFrom (n + 1) q → IsLeftOf (n ∷ p) q
left_of_later n p [] h = absurd h
left_of_later n p (m ∷ q) h = inl (omega (arith, h))

go_left_below : (n : ℕ) (ss rest : List PlacedRule) → GoLeft ss → ((u : PlacedRule) → In u rest → BeginsFrom (n + 1) u.place) → GoLeft rest → GoLeft (map (below (n ∷ [])) ss ++ rest)
go_left_below n [] rest left begins right = right
go_left_below n (s ∷ ss) rest left begins right = (λ u i. here u i, go_left_below n ss rest left.1 begins right)
  where
    here : (u : PlacedRule) → In u (map (below (n ∷ [])) ss ++ rest) → IsLeftOf (n ∷ s.place) u.place
    here u i = elim (in_either (map (below (n ∷ [])) ss) rest i) [
      | inl inside ↦ (let (v, there, same) = of_map (below (n ∷ [])) ss inside in subst (λ (x : PlacedRule). IsLeftOf (n ∷ s.place) x.place) (sym same) (inr (refl, left.0 v there)))
      | inr later ↦ left_of_later n s.place u.place (begins u later)
    ]

mutual
  go_left : (rules : List RewriteRule) {s t : Tree} {steps : List PlacedRule} → IsParallelStep rules s t steps → GoLeft steps
  go_left rules no_step = tt
  go_left rules (at_root ne root) = (λ u i. absurd (no_in i), tt)
  go_left rules (in_arguments ne none args) = all_go_left rules args

  all_go_left : (rules : List RewriteRule) {place : ℕ} {ss ts : Trees} {steps : List PlacedRule} → AreParallelSteps rules place ss ts steps → GoLeft steps
  all_go_left rules no_argument = tt
  all_go_left rules (one_argument {place = place} {first = first} {rest = rest} p later) =
      go_left_below place first rest (go_left rules p) (steps_begin rules later) (all_go_left rules later)

parallel_to_all : (p : List ℕ) (ss : List PlacedRule) → ((u : PlacedRule) → In u ss → IsLeftOf p u.place) → IsParallelToAll p ss
parallel_to_all p [] h = tt
parallel_to_all p (s ∷ ss) h = (left_parallel p s.place (h s in_first), parallel_to_all p ss (λ u i. h u (in_rest i)))

left_pairwise : (ss : List PlacedRule) → GoLeft ss → ArePairwiseParallel ss
left_pairwise [] h = tt
left_pairwise (s ∷ ss) h = (parallel_to_all s.place ss h.0, left_pairwise ss h.1)

left_ascend : (ss : List PlacedRule) → GoLeft ss → DoAscend ss
left_ascend [] h = tt
left_ascend (s ∷ []) h = tt
left_ascend (s ∷ t ∷ ss) h = (left_before s.place t.place (h.0 t in_first), left_ascend (t ∷ ss) h.1)

-- it is a parallel step, written from the left
pub found_is_parallel : (rules : List RewriteRule) {s t : Tree} {steps : List PlacedRule} → IsParallelStep rules s t steps → IsParallel steps
found_is_parallel rules {steps = steps} h = (left_pairwise steps (go_left rules h), left_ascend steps (go_left rules h))
