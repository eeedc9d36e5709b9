-- What a step on pairs concludes.
use Rattle.std.specs.Prelude.{◌≡◌, ℕ, ◌+◌, ◌⊎◌, Bool, false, List, [], ◌∷◌, map, Option, Some, None, Result, Ok, slice_get}
use Rattle.std.specs.Option.{option_and_then}
use Rattle.std.proofs.Common.{zero, suc, inl, inr, refl, sym, ap, subst, arith, ◌∙◌}
use Rattle.trs_defs.specs.Member.{In, in_first, in_rest}
use Rattle.trs_defs.proofs.Members.{in_or, no_in}
use Rattle.trs_defs.specs.Tree.{Tree}
use Rattle.trs_defs.specs.Position.{argument_at}
use Rattle.trs_defs.specs.Claims.{IsTerminating}
use Rattle.trs_defs.specs.System.{System, IsSystem}
use Rattle.pair_theory.specs.Subterm.{Sub, itself, under, ProperSubterm, proper}
use Rattle.pair_theory.specs.Marked.{plain}
use Rattle.pair_theory.specs.DependencyPair.{DependencyPair, dependency_pairs}
use Rattle.pair_theory.specs.PairProblem.{IsFiniteProblem, IsPair}
use Rattle.pair_theory.specs.SubtermCriterion.{Projects}
use Rattle.rewrite_core.specs.declared.checks.refusals.StepRefused.{StepRefused}
use Rattle.rewrite_core.specs.Check.{HasOneAnswer, goes_on, holds, returned, yes_it_does, no_it_does_not}
use Rattle.rewrite_core.proofs.CheckLaws.{once}
use Rattle.dp_core.specs.Numbered.{ArePairsOf, TakesPairs, taken, numbers_from}
use Rattle.dp_core.specs.SubtermConditions.{place_for, ProjectedAre, projects_within, unflagged}
use Rattle.dp_core.specs.Laws.{AllPairsConclude, SubtermStepsConclude, SubtermStepsAnswerOnce, SubtermStepsLeaveNumbers}
use Rattle.dp_core.proofs.NumberedPairs.{as_many}
use Rattle.dp_core.proofs.Removed.{each_stays_or_goes, pairs_left, numbers_remain}

-- ---- one answer

head_same : {A : Type 0} (x y : A) (xs ys : List (Option A)) → Some x ∷ xs ≡ Some y ∷ ys → (x ≡ y) × (xs ≡ ys)
head_same x y xs ys e = (cc, cc)

pub same_pairs : {A : Type 0} (xs ys : List A) → map (λ p. Some p) xs ≡ map (λ p. Some p) ys → xs ≡ ys
same_pairs [] [] e = refl
same_pairs [] (y ∷ ys) e = absurd cc
same_pairs (x ∷ xs) [] e = absurd cc
same_pairs (x ∷ xs) (y ∷ ys) e =
    let h = head_same x y (map (λ p. Some p) xs) (map (λ p. Some p) ys) e in
    let first : x ≡ y = h.0 in
    let rest : xs ≡ ys = same_pairs xs ys h.1 in
    cc

takes_same : (all : List DependencyPair) (numbers : List ℕ) (a b : Result (List DependencyPair) StepRefused) → TakesPairs all numbers a → TakesPairs all numbers b → a ≡ b
takes_same all numbers _ _ (taken p h) (taken q k) = ap (λ x. Ok x) (same_pairs p q (sym h ∙ k))

pub takes_pairs_once : (all : List DependencyPair) (numbers : List ℕ) → HasOneAnswer (TakesPairs all numbers)
takes_pairs_once all numbers = record { once = takes_same all numbers }

pub subterm_once : SubtermStepsAnswerOnce
subterm_once all projection numbers = search (once, takes_pairs_once) depth 20

-- ---- all pairs

pub numbered_all : {A : Type 0} (all rest : List A) (k : ℕ) → ((i : ℕ) (p : A) → slice_get rest i ≡ Some p → slice_get all (k + i) ≡ Some p)
    → map (slice_get all) (numbers_from k rest) ≡ map (λ p. Some p) rest
numbered_all all [] k at = refl
numbered_all all (p ∷ rest) k at =
    let same : k + zero ≡ k = omega arith in
    let here : slice_get all k ≡ Some p = subst (λ n. slice_get all n ≡ Some p) same (at zero p refl) in
    let later : map (slice_get all) (numbers_from (k + 1) rest) ≡ map (λ q. Some q) rest =
    numbered_all all rest (k + 1) (λ i q e. let next : k + suc i ≡ k + 1 + i = omega arith in subst (λ n. slice_get all n ≡ Some q) next (at (suc i) q e)) in
    cc

pub all_conclude : ((system : System) → IsSystem system → IsFiniteProblem system (dependency_pairs system.rules) → IsTerminating system) → AllPairsConclude
all_conclude suffice system valid finite =
    suffice system valid (finite (dependency_pairs system.rules) (numbered_all (dependency_pairs system.rules) (dependency_pairs system.rules) 0
    (λ i p e. let same : i ≡ 0 + i = omega arith in subst (λ n. slice_get (dependency_pairs system.rules) n ≡ Some p) same e)))

-- ---- the subterm criterion

or_zero : Option ℕ → ℕ
or_zero None = 0
or_zero (Some n) = n

at_place : (t s : Tree) (o : Option ℕ) → option_and_then (argument_at t) o ≡ Some s → argument_at t (or_zero o) ≡ Some s
unfolding or_zero
at_place t s None e = absurd cc
at_place t s (Some n) e = e

module _ (projection : List (ℕ × ℕ)) where
  abbrev place : ℕ → ℕ
  place f = or_zero (place_for projection f)

  projects : (related : Tree → Tree → Type 0) (p : DependencyPair) → ProjectedAre projection related p → Projects place related p
  projects related p h = record {
    left = h.left;
    right = h.right;
    left_there = at_place (plain p.from) h.left (place_for projection p.from.symbol) h.left_there;
    right_there = at_place (plain p.to) h.right (place_for projection p.to.symbol) h.right_there;
    relation = h.relation;
  }

  sub_or_proper : (s t : Tree) → Sub t s → (s ≡ t) ⊎ ProperSubterm s t
  sub_or_proper s _ itself = inl refl
  sub_or_proper _ t (under p) = inr (proper p)

  equal_if_not_proper : (p : DependencyPair) → ProjectedAre projection (λ s t. Sub t s) p → (ProjectedAre projection ProperSubterm p → ⊥) → ProjectedAre projection (λ s t. s ≡ t) p
  equal_if_not_proper p h none = elim (sub_or_proper h.left h.right h.relation) [
    | inl e ↦ record { left = h.left; right = h.right; left_there = h.left_there; right_there = h.right_there; relation = e }
    | inr q ↦ absurd (none (record { left = h.left; right = h.right; left_there = h.left_there; right_there = h.right_there; relation = q }))
  ]

  -- what the flag says of a pair
  one_class : (n : ℕ) (p : DependencyPair) (flag : Bool) → projects_within projection n p (Ok flag) → ((flag ≡ false) × Projects place (λ s t. s ≡ t) p) ⊎ Projects place ProperSubterm p
  one_class n p _ (goes_on _ _ (holds weak) (yes_it_does strict)) = inr (projects ProperSubterm p strict)
  one_class n p _ (goes_on _ _ (holds weak) (no_it_does_not none)) = inl (refl, projects (λ s t. s ≡ t) p (equal_if_not_proper p weak none))

get_in : (xs : List DependencyPair) (n : ℕ) (p : DependencyPair) → slice_get xs n ≡ Some p → In p xs
get_in [] n p e = absurd cc
get_in (x ∷ xs) zero p e = let same : x ≡ p = cc in subst (λ z. In z (x ∷ xs)) same in_first
get_in (x ∷ xs) (suc n) p e = in_rest (get_in xs n p e)

head_there : {A : Type 0} (o : Option A) (y : A) (xs ys : List (Option A)) → o ∷ xs ≡ Some y ∷ ys → (o ≡ Some y) × (xs ≡ ys)
head_there o y xs ys e = (cc, cc)

-- pairs of numbers are in the list
pub each_in : (all : List DependencyPair) (numbers : List ℕ) (pairs : List DependencyPair) → ArePairsOf all numbers pairs → (p : DependencyPair) → In p pairs → In p all
each_in all numbers [] are p i = absurd (no_in i)
each_in all [] (q ∷ pairs) are p i = absurd cc
each_in all (n ∷ numbers) (q ∷ pairs) are p i =
    let h = head_there (slice_get all n) q (map (slice_get all) numbers) (map (λ x. Some x) pairs) are in
    elim (in_or i) [ inl same ↦ get_in all n p (h.0 ∙ ap (λ x. Some x) (sym same)) | inr j ↦ each_in all numbers pairs h.1 p j ]

pub subterm_concludes : ((system : System) → IsSystem system → (p : DependencyPair) → In p (dependency_pairs system.rules) → IsPair system.arities p)
    → ((system : System) (pairs stays : List DependencyPair) (place : ℕ → ℕ) → IsSystem system → ((p : DependencyPair) → In p pairs → IsPair system.arities p)
    → ((p : DependencyPair) → In p pairs → (In p stays × Projects place (λ s t. s ≡ t) p) ⊎ Projects place ProperSubterm p)
    → IsFiniteProblem system stays → IsFiniteProblem system pairs)
    → SubtermStepsConclude
subterm_concludes good criterion system projection numbers _ valid (goes_on pairs _ (taken _ are) (goes_on _ _ entries (goes_on flags _ removals (goes_on _ _ (holds some) returned)))) finite others are_others =
    let all = dependency_pairs system.rules in
    let same : pairs ≡ others = same_pairs pairs others (sym are ∙ are_others) in
    let stays : List DependencyPair = unflagged pairs flags in
    subst (IsFiniteProblem system) same
    (criterion system pairs stays (place projection) valid (λ p i. good system valid p (each_in all numbers pairs are p i))
    (each_stays_or_goes (projects_within projection) (Projects (place projection) (λ s t. s ≡ t)) (Projects (place projection) ProperSubterm) (one_class projection) 0
    numbers pairs flags (as_many all numbers pairs are) removals)
    (finite stays (pairs_left all numbers pairs flags are)))

pub subterm_leaves : SubtermStepsLeaveNumbers
subterm_leaves all projection numbers _ (goes_on pairs _ (taken _ are) (goes_on _ _ entries (goes_on flags _ removals (goes_on _ _ (holds some) returned)))) =
    numbers_remain numbers flags
