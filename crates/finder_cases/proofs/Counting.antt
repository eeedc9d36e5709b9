-- Numbers that are counted ascend, and are below the count.
use Rattle.std.specs.Prelude.{◌≡◌, ◌<◌, ℕ, ◌+◌, All, List, [], ◌∷◌, length, get_or, Vec, Result, Ok, Err, IfOk, refl}
use Rattle.std.specs.declared.alloc.Global.{Global}
use Rattle.std.specs.List.Sorted.{IsStrictlyIncreasing}
use Rattle.std.proofs.Common.{zero, suc, sym, ap, subst, arith}
use Rattle.dp_core.specs.Numbered.{numbers_from}

number_at : {A : Type 0} (xs : List A) (k i d : ℕ) → i < length xs → get_or (numbers_from k xs) i d ≡ k + i
number_at [] k i d h = absurd (omega (arith, h))
number_at (x ∷ xs) k zero d h = omega arith
number_at (x ∷ xs) k (suc i) d h = let r = number_at xs (k + 1) i d (omega (arith, h)) in omega (arith, r)

length_numbers : {A : Type 0} (xs : List A) (k : ℕ) → length (numbers_from k xs) ≡ length xs
length_numbers [] k = refl
length_numbers (x ∷ xs) k = ap suc (length_numbers xs (k + 1))

increasing : {A : Type 0} (xs : List A) → IsStrictlyIncreasing (numbers_from 0 xs)
increasing xs k h =
    let size = length_numbers xs 0 in
    let a = number_at xs 0 k 0 (omega (arith, h, size)) in
    let b = number_at xs 0 (k + 1) 0 (omega (arith, h, size)) in
    omega (arith, a, b)

within : {A : Type 0} (xs : List A) → All (λ n. n < length xs) (numbers_from 0 xs)
within xs k d h =
    let size = length_numbers xs 0 in
    let a = number_at xs 0 k d (omega (arith, h, size)) in
    omega (arith, h, size, a)

pub counted_increase : {A E : Type 0} (xs : List A) (result : Result (Vec ℕ Global) E) → IfOk result (λ v. v.items ≡ numbers_from 0 xs) → IfOk result (λ v. IsStrictlyIncreasing v.items)
counted_increase xs (Ok v) e = subst IsStrictlyIncreasing (sym e) (increasing xs)
counted_increase xs (Err e) h = h

pub counted_within : {A E : Type 0} (xs : List A) (result : Result (Vec ℕ Global) E) → IfOk result (λ v. v.items ≡ numbers_from 0 xs) → IfOk result (λ v. All (λ n. n < length xs) v.items)
counted_within xs (Ok v) e = subst (All (λ n. n < length xs)) (sym e) (within xs)
counted_within xs (Err e) h = h
