-- Checks of each item of a list, where the number of the item does not matter.
use Rattle.std.specs.Prelude.{◌⊎◌, ℕ, ◌+◌, List, [], ◌∷◌, ◌++◌, Result, Ok, Err}
use Rattle.std.proofs.Common.{inl, inr, sym, subst}
use Rattle.trs_defs.specs.Member.{In, in_first, in_rest}
use Rattle.trs_defs.proofs.Members.{in_or, no_in}
use Rattle.rewrite_core.specs.declared.checks.refusals.StepRefused.{StepRefused}
use Rattle.rewrite_core.specs.Check.{Check, Forbids, absent, returned, stops, goes_on, each}

-- it is refused
abbrev pub IsRefusal : Result (Unit {0}) StepRefused → Type 0
IsRefusal (Ok u) = ⊥
IsRefusal (Err why) = Unit {0}

module _ {A : Type 0} (check : A → Check (Unit {0})) where
  abbrev pub All : ℕ → List A → Check (Unit {0})
  All n xs = each (λ _ x. check x) n xs

  pub from_any : (j k : ℕ) (xs : List A) (answer : Result (Unit {0}) StepRefused) → All j xs answer → All k xs answer
  from_any j k [] answer h = h
  from_any j k (x ∷ xs) _ (stops why h) = stops why h
  from_any j k (x ∷ xs) answer (goes_on u _ h rest) = goes_on u _ h (from_any (j + 1) (k + 1) xs answer rest)

  pub all_of_both : (j k : ℕ) (xs ys : List A) (answer : Result (Unit {0}) StepRefused) → All j xs (Ok tt) → All k ys answer → All j (xs ++ ys) answer
  all_of_both j k [] ys answer h more = from_any k j ys answer more
  all_of_both j k (x ∷ xs) ys answer (goes_on u _ h rest) more = goes_on u _ h (all_of_both (j + 1) k xs ys answer rest more)

  pub first_refuses : (j : ℕ) (xs ys : List A) (answer : Result (Unit {0}) StepRefused) → All j xs answer → IsRefusal answer → All j (xs ++ ys) answer
  first_refuses j [] ys _ returned none = absurd none
  first_refuses j (x ∷ xs) ys _ (stops why h) none = stops why h
  first_refuses j (x ∷ xs) ys answer (goes_on u _ h rest) none = goes_on u _ h (first_refuses (j + 1) xs ys answer rest none)

  alone : (j : ℕ) (x : A) (answer : Result (Unit {0}) StepRefused) → check x answer → All j (x ∷ []) answer
  alone j x (Ok u) h = goes_on u _ h returned
  alone j x (Err why) h = stops why h

  pub with_last : (j : ℕ) (xs : List A) (x : A) (answer : Result (Unit {0}) StepRefused) → All j xs (Ok tt) → check x answer → All j (xs ++ x ∷ []) answer
  with_last j xs x answer h last = all_of_both j j xs (x ∷ []) answer h (alone j x answer last)

  pub last_or_before : (j : ℕ) (xs : List A) (x : A) (answer : Result (Unit {0}) StepRefused) → All j (xs ++ x ∷ []) answer
      → (All j xs answer × IsRefusal answer) ⊎ (All j xs (Ok tt) × check x answer)
  last_or_before j [] x _ (stops why h) = inr (returned, h)
  last_or_before j [] x _ (goes_on tt _ h returned) = inr (returned, h)
  last_or_before j (y ∷ ys) x _ (stops why h) = inl (stops why h, tt)
  last_or_before j (y ∷ ys) x answer (goes_on u _ h rest) = elim (last_or_before (j + 1) ys x answer rest) [
    | inl a ↦ inl (goes_on u _ h a.0, a.1)
    | inr b ↦ inr (goes_on u _ h b.0, b.1)
  ]

  pub each_passes : (j : ℕ) (xs : List A) → ((x : A) → In x xs → check x (Ok tt)) → All j xs (Ok tt)
  each_passes j [] h = returned
  each_passes j (x ∷ xs) h = goes_on tt _ (h x in_first) (each_passes (j + 1) xs (λ y i. h y (in_rest i)))

  pub each_passed : (j : ℕ) (xs : List A) → All j xs (Ok tt) → (x : A) → In x xs → check x (Ok tt)
  each_passed j [] h x i = absurd (no_in i)
  each_passed j (y ∷ ys) (goes_on _ _ h rest) x i = elim (in_or i) [
    | inl e ↦ subst (λ z. check z (Ok tt)) (sym e) h
    | inr k ↦ each_passed (j + 1) ys rest x k
  ]

-- what must not hold does not, where it passed
pub it_is_absent : (fact : Type 0) (why : StepRefused) → Forbids fact why (Ok tt) → fact → ⊥
it_is_absent fact why (absent h) = h
