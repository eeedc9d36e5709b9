-- A walk that computes a value as far as 64 bits tell.
use Rattle.std.proofs.Common.{◌≡◌, ℕ, ◌+◌, ◌*◌, ◌-◌, ◌<◌, ◌^◌, min, inl, inr, zero, suc, sym, ap, ◌∙◌, arith, add-one}
use Rattle.std.proofs.lemmas.Bool.{cases_lt}
use Rattle.trs_defs.specs.Tree.{Tree, Trees, app, nil, cons}
use Rattle.order_theory.specs.LinearInterpretation.{value, values}

pub multiple_saturates : (k q v : ℕ) → v ≡ min q (2 ^ 64 - 1) → min (k * v) (2 ^ 64 - 1) ≡ min (k * q) (2 ^ 64 - 1)
multiple_saturates zero q v e = omega arith
multiple_saturates (suc k) q v e = elim (cases_lt q (2 ^ 64)) [
  | inl less ↦ let same : v ≡ q = omega arith in ap (λ n. min (suc k * n) (2 ^ 64 - 1)) same
  | inr more ↦ omega arith
]

sum_saturates : (sum whole product p rest new : ℕ) → p ≡ min product (2 ^ 64 - 1) → new ≡ min (sum + p) (2 ^ 64 - 1)
    → min (sum + (product + rest)) (2 ^ 64 - 1) ≡ min whole (2 ^ 64 - 1) → (new < 2 ^ 64) × (min (new + rest) (2 ^ 64 - 1) ≡ min whole (2 ^ 64 - 1))
sum_saturates sum whole product p rest new e d h = (omega arith, omega arith)

module _ (c : ℕ → ℕ → ℕ) (a : ℕ → ℕ) where
  -- what a walk over the arguments has come to
  pub record Partly (f : ℕ) (ts rest : Trees) (i sum : ℕ) : Type 0 where
    pub fits : sum < 2 ^ 64
    pub sum_is : min (sum + values c a f i rest) (2 ^ 64 - 1) ≡ min (value c a (app f ts)) (2 ^ 64 - 1)

  pub begun : (f : ℕ) (ts : Trees) (sum : ℕ) → sum < 2 ^ 64 → sum ≡ c f 0 → Partly f ts ts 1 sum
  begun f ts sum fits e =
      let whole : sum + values c a f 1 ts ≡ value c a (app f ts) = omega arith in
      record { fits = fits; sum_is = ap (λ n. min n (2 ^ 64 - 1)) whole }

  module _ (f : ℕ) (ts : Trees) (t : Tree) (rest : Trees) (i sum k : ℕ) (is : k ≡ c f i) (h : Partly f ts (cons t rest) i sum) where
    product : k * value c a t ≡ c f i * value c a t
    product = ap (λ n. n * value c a t) is

    opened : values c a f i (cons t rest) ≡ k * value c a t + values c a f (suc i) rest
    opened = ap (λ n. n + values c a f (suc i) rest) (sym product)

    before : min (sum + (k * value c a t + values c a f (suc i) rest)) (2 ^ 64 - 1) ≡ min (value c a (app f ts)) (2 ^ 64 - 1)
    before = ap (λ n. min (sum + n) (2 ^ 64 - 1)) (sym opened) ∙ h.sum_is

    pub passed : k ≡ 0 → Partly f ts rest (i + 1) sum
    passed none = rw add-one (
        let nothing : k * value c a t ≡ 0 = omega (arith, ap (λ n. n * value c a t) none) in
        record { fits = h.fits; sum_is = omega (arith, before, nothing) }
        )

    pub added : (v new : ℕ) → v ≡ min (value c a t) (2 ^ 64 - 1) → new ≡ min (sum + min (k * v) (2 ^ 64 - 1)) (2 ^ 64 - 1) → Partly f ts rest (i + 1) new
    added v new e d = rw add-one (
        let both = sum_saturates sum (value c a (app f ts)) (k * value c a t) (min (k * v) (2 ^ 64 - 1)) (values c a f (suc i) rest) new
        (multiple_saturates k (value c a t) v e) d before in
        record { fits = both.0; sum_is = both.1 }
        )

  pub ended : (f : ℕ) (ts : Trees) (i sum : ℕ) (t : Tree) → t ≡ app f ts → Partly f ts nil i sum → sum ≡ min (value c a t) (2 ^ 64 - 1)
  ended f ts i sum t is h =
      let here : sum ≡ min (value c a (app f ts)) (2 ^ 64 - 1) = omega (arith, h.fits, h.sum_is) in
      here ∙ ap (λ u. min (value c a u) (2 ^ 64 - 1)) (sym is)
