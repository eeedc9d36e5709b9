-- What a finite search finds for a problem is one, and at most one of its answers is true: that it found something, that there is
-- nothing, or that the budget was spent.
use Rattle.std.specs.Prelude.{◌≡◌, ℕ, List, Option, Some, None}
use Rattle.std.proofs.Common.{ap, sym, ◌∙◌, subst, arith}
use Rattle.assign_search.specs.Puzzle.{Puzzle}
use Rattle.conclusion.specs.report_text.strategies.order_search.Outcome.{IsFirst, IsNotThere, IsSpent}
use Rattle.text_determinism.specs.LoopLaws.{Exclude}

values_once : (budget : ℕ) (z : Puzzle) (a b : List ℕ) → IsFirst budget a z → IsFirst budget b z → a ≡ b
values_once budget z a b (first, few) (found, less) =
    let same : ◌≡◌ {A = Option (List ℕ)} (Some a) (Some b) = sym first ∙ found in
    cc (same)

first_or_none : (budget : ℕ) (z : Puzzle) (a : List ℕ) → IsFirst budget a z → IsNotThere budget z → ⊥
first_or_none budget z a (first, few) (none, less) =
    let same : ◌≡◌ {A = Option (List ℕ)} (Some a) None = sym first ∙ none in
    absurd (cc (same))

-- `are` says that something is the problem, of which there is one; a found value is that of the first solution
module _ {P A : Type 0} (are : P → Type 0) (one : (p q : P) → are p → are q → p ≡ q) (puzzle : P → Puzzle) (value : P → List ℕ → A) (budget : ℕ) where
  pub record Found (a : A) : Type 0 where
    pub problem : P
    pub of_problem : are problem
    pub values : List ℕ
    pub first : IsFirst budget values (puzzle problem)
    pub is : a ≡ value problem values

  pub record Failed (ends : Puzzle → Type 0) : Type 0 where
    pub problem : P
    pub of_problem : are problem
    pub fails : ends (puzzle problem)

  pub found_once : (a b : A) → Found a → Found b → a ≡ b
  found_once a b h k =
      let same : h.problem ≡ k.problem = one h.problem k.problem h.of_problem k.of_problem in
      let values : h.values ≡ k.values =
      values_once budget (puzzle k.problem) h.values k.values (subst (λ (p : P). IsFirst budget h.values (puzzle p)) same h.first) k.first in
      h.is ∙ (ap (λ (p : P). value p h.values) same ∙ (ap (value k.problem) values ∙ sym k.is))

  pub answers_exclude : (a : A) → Exclude (Found a) (Failed (IsNotThere budget)) (Failed (IsSpent budget))
  answers_exclude a = record {
    not_there = λ h k. first_or_none budget (puzzle k.problem) h.values
        (subst (λ (p : P). IsFirst budget h.values (puzzle p)) (one h.problem k.problem h.of_problem k.of_problem) h.first) k.fails;
    spent = λ h k. (let first = subst (λ (p : P). IsFirst budget h.values (puzzle p)) (one h.problem k.problem h.of_problem k.of_problem) h.first in
        let few = first.1 in
        let many = k.fails in
        absurd (omega (arith, few, many)));
    neither = λ h k. (let fails = subst (λ (p : P). IsNotThere budget (puzzle p)) (one h.problem k.problem h.of_problem k.of_problem) h.fails in
        let few = fails.1 in
        let many = k.fails in
        absurd (omega (arith, few, many)));
  }

-- what follows from answers that exclude each other
pub exclude_by : {F N S F' N' S' : Type 0} → (F' → F) → (N' → N) → (S' → S) → Exclude F N S → Exclude F' N' S'
exclude_by f n s e = record {
  not_there = λ h k. e.not_there (f h) (n k);
  spent = λ h k. e.spent (f h) (s k);
  neither = λ h k. e.neither (n h) (s k);
}
