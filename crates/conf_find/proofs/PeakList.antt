-- Peaks that are gone through in order.
use Rattle.std.specs.Prelude.{◌≡◌, ◌<◌, ◌≤◌, ℕ, ◌+◌, List, [], ◌∷◌, Some, length, slice_get}
use Rattle.std.proofs.Common.{zero, suc, sym, subst, get_or, arith, ◌∙◌, refl}
use Rattle.std.proofs.Math.Decide.{ℕ_discrete}
use Rattle.std.proofs.lemmas.Option.{slice_get_read, slice_get_within, same_Some}
use Rattle.trs_defs.specs.Member.{In}
use Rattle.trs_defs.proofs.Members.{get_of_in}
use Rattle.conf_find.specs.ForkRows.{Behind, behind_none, behind_one}

-- the items before this number are passed
abbrev pub ArePassed : {A : Type 0} → (A → Type 0) → List A → ℕ → Type 0
ArePassed {A} passed xs i = (k : ℕ) (a : A) → k < i → slice_get xs k ≡ Some a → passed a

pub none_passed : {A : Type 0} (passed : A → Type 0) (xs : List A) → ArePassed passed xs 0
none_passed passed xs k a l e = absurd (omega (arith, l))

pub one_more_passed : {A : Type 0} (passed : A → Type 0) (xs : List A) (i : ℕ) (a : A) → i < length xs → a ≡ get_or xs i a → passed a → ArePassed passed xs i
    → ArePassed passed xs (i + 1)
one_more_passed {A} passed xs i a below is h before k b l e = elim (ℕ_discrete k i) as (λ _. passed b) [
  | yes same ↦
      let read : slice_get xs i ≡ Some a = slice_get_read xs (length xs) i a refl below is in
      let P : ℕ → Type 0 = λ n. slice_get xs n ≡ Some b in
      subst passed (same_Some a b (sym read ∙ subst P same e)) h
  | no other ↦ before k b (omega (arith, l, other)) e
]

pub all_passed : {A : Type 0} (passed : A → Type 0) (xs : List A) (i : ℕ) → length xs ≤ i → ArePassed passed xs i → (a : A) → In a xs → passed a
all_passed passed xs i all before a there = let (k, e) = get_of_in there in before k a (omega (arith, slice_get_within xs k a e, all)) e

behind_at : {A : Type 0} (passed : A → Type 0) (xs : List A) (i : ℕ) (a : A) → slice_get xs i ≡ Some a → ArePassed passed xs i → Behind passed xs a
behind_at passed [] i a e before = absurd cc
behind_at passed (x ∷ xs) zero a e before = subst (λ y. Behind passed (y ∷ xs) a) (sym (same_Some x a e)) behind_none
behind_at passed (x ∷ xs) (suc i) a e before = behind_one (before 0 x (omega arith) refl) (behind_at passed xs i a e (λ k b l. before (suc k) b (omega (arith, l))))

pub behind_read : {A : Type 0} (passed : A → Type 0) (xs : List A) (i : ℕ) (a : A) → i < length xs → a ≡ get_or xs i a → ArePassed passed xs i → Behind passed xs a
behind_read passed xs i a below is before = behind_at passed xs i a (slice_get_read xs (length xs) i a refl below is) before
