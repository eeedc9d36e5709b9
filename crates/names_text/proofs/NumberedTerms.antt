-- Terms whose variables are numbered in the order of their first occurrences.
use Rattle.std.proofs.Common.{◌≡◌, ◌⊎◌, inl, inr, ℕ, suc, ◌+◌, ◌<◌, ◌≤◌, ◌==◌, ◌||◌, Bool, true, false, cond, nat_lt, Option, Some, None, IsTrue, refl, arith}
use Rattle.std.specs.Option.{option_and_then}
use Rattle.std.proofs.lemmas.Bool.{ltb-true, ltb-false, eqb-true, eq-eqb, or_cases, or_left, or_right}
use Rattle.trs_defs.specs.Tree.{Tree, Trees, var, app, nil, cons}
use Rattle.trs_defs.specs.Size.{size_of, size_of_all}
use Rattle.trs_defs.specs.Variable.{has_var, some_has_var}
use Rattle.names_text.specs.Named.{next_number, next_number_behind}

pub variable_parts : (k n m : ℕ) → next_number k (var n) ≡ Some m → ((n < k) × (m ≡ k)) ⊎ ((n ≡ k) × (m ≡ suc k))
variable_parts k n m e = go (nat_lt n k) (n == k) refl refl e
  where
    go : (a b : Bool) → nat_lt n k ≡ a → (n == k) ≡ b → cond a (Some k) (cond b (Some (suc k)) None) ≡ Some m → ((n < k) × (m ≡ k)) ⊎ ((n ≡ k) × (m ≡ suc k))
    go true b lt eq h = inl (ltb-true n k lt, cc)
    go false true lt eq h = inr (eqb-true n k eq, cc)
    go false false lt eq h = absurd cc

pub behind_parts : (k : ℕ) (t : Tree) (ts : Trees) (m : ℕ) → next_number_behind k (cons t ts) ≡ Some m → (n : ℕ) × (next_number k t ≡ Some n) × (next_number_behind n ts ≡ Some m)
behind_parts k t ts m e = go (next_number k t) refl e
  where
    go : (o : Option ℕ) → next_number k t ≡ o → option_and_then (λ n. next_number_behind n ts) o ≡ Some m → (n : ℕ) × (next_number k t ≡ Some n) × (next_number_behind n ts ≡ Some m)
    go None is h = absurd cc
    go (Some n) is h = (n, is, h)

-- ---- how many variables

mutual
  pub numbers_grow : (k : ℕ) (t : Tree) (m : ℕ) → next_number k t ≡ Some m → (k ≤ m) × (m ≤ k + size_of t)
  numbers_grow k (var n) m e = elim (variable_parts k n m e) as (λ _. (k ≤ m) × (m ≤ k + 1)) [
    | inl h ↦ let same = h.1 in (omega arith, omega arith)
    | inr h ↦ let same = h.1 in (omega arith, omega arith)
  ]
  numbers_grow k (app f ts) m e = let h = all_numbers_grow k ts m e in (omega arith, omega arith)

  all_numbers_grow : (k : ℕ) (ts : Trees) (m : ℕ) → next_number_behind k ts ≡ Some m → (k ≤ m) × (m ≤ k + size_of_all ts)
  all_numbers_grow k nil m e = let same : k ≡ m = cc in (omega arith, omega arith)
  all_numbers_grow k (cons t ts) m e =
      let parts = behind_parts k t ts m e in
      let first = numbers_grow k t parts.0 parts.1 in
      let rest = all_numbers_grow parts.0 ts m parts.2 in
      (omega (arith, first.0, rest.0), omega (arith, first.1, rest.1))

-- ---- which variables

mutual
  -- each variable has a number below the next one
  pub has_below : (k : ℕ) (t : Tree) (m : ℕ) → next_number k t ≡ Some m → (v : ℕ) → IsTrue (has_var v t) → v < m
  has_below k (var n) m e v h =
      let is : n ≡ v = eqb-true n v h in
      elim (variable_parts k n m e) as (λ _. v < m) [
        | inl p ↦ let lt = p.0 in let same = p.1 in omega arith
        | inr p ↦ let same = p.0 in let next = p.1 in omega arith
      ]
  has_below k (app f ts) m e v h = some_has_below k ts m e v h

  some_has_below : (k : ℕ) (ts : Trees) (m : ℕ) → next_number_behind k ts ≡ Some m → (v : ℕ) → IsTrue (some_has_var v ts) → v < m
  some_has_below k nil m e v h = absurd cc
  some_has_below k (cons t ts) m e v h =
      let parts = behind_parts k t ts m e in
      elim (or_cases (has_var v t) (some_has_var v ts) h) as (λ _. v < m) [
        | inl here ↦ omega (arith, has_below k t parts.0 parts.1 v here, (all_numbers_grow parts.0 ts m parts.2).0)
        | inr there ↦ some_has_below parts.0 ts m parts.2 v there
      ]

mutual
  -- each number below the next one is a variable of the term, or came before
  pub below_has : (k : ℕ) (t : Tree) (m : ℕ) → next_number k t ≡ Some m → (v : ℕ) → v < m → (v < k) ⊎ IsTrue (has_var v t)
  below_has k (var n) m e v h = elim (variable_parts k n m e) as (λ _. (v < k) ⊎ IsTrue (n == v)) [
    | inl p ↦ let same = p.1 in inl (omega arith)
    | inr p ↦ let same = p.0 in let next = p.1 in last (nat_lt v k) refl (λ le. eq-eqb n v (omega arith))
  ]
    where
      last : (b : Bool) → nat_lt v k ≡ b → (k ≤ v → IsTrue (n == v)) → (v < k) ⊎ IsTrue (n == v)
      last true is j = inl (ltb-true v k is)
      last false is j = inr (j (ltb-false v k is))
  below_has k (app f ts) m e v h = below_some_has k ts m e v h

  below_some_has : (k : ℕ) (ts : Trees) (m : ℕ) → next_number_behind k ts ≡ Some m → (v : ℕ) → v < m → (v < k) ⊎ IsTrue (some_has_var v ts)
  below_some_has k nil m e v h = let same : k ≡ m = cc in inl (omega arith)
  below_some_has k (cons t ts) m e v h =
      let parts = behind_parts k t ts m e in
      elim (below_some_has parts.0 ts m parts.2 v h) as (λ _. (v < k) ⊎ IsTrue (has_var v t || some_has_var v ts)) [
        | inr there ↦ inr (or_right (has_var v t) (some_has_var v ts) there)
        | inl lt ↦ elim (below_has k t parts.0 parts.1 v lt) as (λ _. (v < k) ⊎ IsTrue (has_var v t || some_has_var v ts)) [
          | inl before ↦ inl before
          | inr here ↦ inr (or_left (has_var v t) (some_has_var v ts) here)
        ]
      ]
