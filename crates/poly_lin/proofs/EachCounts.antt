-- Where each argument counts, the value of a term where variables stand for 1 is no less than that of any subterm.
use Rattle.std.proofs.Common.{◌≡◌, ℕ, ◌-◌, ◌*◌, ◌≤◌, ◌^◌, min, max, zero, suc, refl, ap, arith}
use Rattle.std.proofs.lemmas.Nat.{mul-le}
use Rattle.trs_defs.specs.Tree.{Tree, Trees, var, app, nil, cons}
use Rattle.pair_theory.specs.Subterm.{Sub, itself, under, Subs, in_head, in_tail}
use Rattle.order_theory.specs.LinearInterpretation.{value, values}
use Rattle.poly_lin.specs.TooBig.{HasBigCoefficient, counting}
use Rattle.poly_lin.proofs.BehindZero.{multiple_at_least}
use Rattle.poly_lin.proofs.ValueLaws.{not_big}

pub same_counting : (r s : ℕ → ℕ) → ((i : ℕ) → r i ≡ s i) → (i : ℕ) → counting r i ≡ counting s i
same_counting r s h zero = h 0
same_counting r s h (suc i) = ap (λ n. max n 1) (h (suc i))

pub counts : (r : ℕ → ℕ) (i n : ℕ) → (i ≡ 0 → ⊥) → n ≡ max (r i) 1 → n ≡ counting r i
counts r zero n some is = absurd (some refl)
counts r (suc i) n some is = is

module _ (c : ℕ → ℕ → ℕ) where
  abbrev each : ℕ → ℕ → ℕ
  each f = counting (c f)

  mutual
    value_at_most : (t : Tree) → value c (λ x. 1) t ≤ value each (λ x. 1) t
    value_at_most (var x) = omega arith
    value_at_most (app f ts) = omega (arith, values_at_most f 0 ts)

    values_at_most : (f i : ℕ) (ts : Trees) → values c (λ x. 1) f (suc i) ts ≤ values each (λ x. 1) f (suc i) ts
    values_at_most f i nil = omega arith
    values_at_most f i (cons t ts) =
        let first : c f (suc i) * value c (λ x. 1) t ≤ max (c f (suc i)) 1 * value each (λ x. 1) t =
        mul-le (c f (suc i)) (value c (λ x. 1) t) (max (c f (suc i)) 1) (value each (λ x. 1) t) (omega arith) (value_at_most t) in
        omega (arith, first, values_at_most f (suc i) ts)

  mutual
    part_at_most : {u t : Tree} → Sub u t → value each (λ x. 1) u ≤ value each (λ x. 1) t
    part_at_most itself = omega arith
    part_at_most (under {f = f} {ts = ts} p) = omega (arith, parts_at_most f 0 ts p)

    parts_at_most : {u : Tree} (f i : ℕ) (ts : Trees) → Subs u ts → value each (λ x. 1) u ≤ values each (λ x. 1) f (suc i) ts
    parts_at_most f i (cons t ts) (in_head p) =
        let more : value each (λ x. 1) t ≤ max (c f (suc i)) 1 * value each (λ x. 1) t =
        multiple_at_least (max (c f (suc i)) 1) (value each (λ x. 1) t) (λ none. absurd (omega (arith, none))) in
        omega (arith, more, part_at_most p)
    parts_at_most f i (cons t ts) (in_tail p) = omega (arith, parts_at_most f (suc i) ts p)

  pub none_big : (t : Tree) (n : ℕ) → n ≡ min (value each (λ x. 1) t) (2 ^ 64 - 1) → n ≤ 2 ^ 63 - 1 → HasBigCoefficient c t → ⊥
  none_big t n is small (u, p, big) =
      let a = value_at_most u in
      let b = part_at_most p in
      not_big c u (value c (λ x. 1) u) (omega (arith, is, small, a, b)) (omega (arith, is, small, a, b)) big
