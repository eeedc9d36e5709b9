-- Pairs by their numbers.
use Rattle.std.specs.Prelude.{◌≡◌, ℕ, ◌+◌, List, [], ◌∷◌, map, Some, Result, Ok, slice_get}
use Rattle.rewrite_core.specs.declared.checks.refusals.StepRefused.{StepRefused}
use Rattle.pair_theory.specs.DependencyPair.{DependencyPair}

-- these are the items of these numbers
abbrev pub AreItemsOf : {A : Type 0} → List A → List ℕ → List A → Type 0
AreItemsOf all numbers chosen = map (slice_get all) numbers ≡ map (λ x. Some x) chosen

-- these are the pairs of these numbers
abbrev pub ArePairsOf : List DependencyPair → List ℕ → List DependencyPair → Type 0
ArePairsOf all numbers pairs = AreItemsOf all numbers pairs

-- the pairs of the numbers are the value
pub data TakesPairs (all : List DependencyPair) (numbers : List ℕ) : Result (List DependencyPair) StepRefused → Type 0 where
  taken : (pairs : List DependencyPair) → ArePairsOf all numbers pairs → TakesPairs all numbers (Ok pairs)

-- the numbers of the items of a list, counted from n on
abbrev pub numbers_from : {A : Type 0} → ℕ → List A → List ℕ
numbers_from n [] = []
numbers_from n (x ∷ xs) = n ∷ numbers_from (n + 1) xs
