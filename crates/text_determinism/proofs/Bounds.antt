-- Numbers above the variables of terms, and names that are undone.
use Rattle.std.specs.Prelude.{◌≡◌, ◌<◌, ◌≤◌, ℕ, ◌+◌, ◌-◌, ◌==◌, ◌&&◌, Bool, true, false, if◌then◌else◌, max, IsTrue, refl}
use Rattle.std.proofs.Common.{zero, suc, ap, subst, inl, inr, arith}
use native.Mathlib.Decide.{dec_lt, ℕ_discrete}
use Rattle.trs_defs.specs.Tree.{Tree, Trees, var, app, nil, cons}
use Rattle.trs_defs.specs.Variable.{has_var, some_has_var}
use Rattle.trs_defs.proofs.VariableLaws.{has_var_same, has_var_cons}

-- ---- all variables of a term are below a number

abbrev mutual
  pub above : Tree → ℕ
  above (var v) = suc v
  above (app f ts) = above_all ts

  above_all : Trees → ℕ
  above_all nil = 0
  above_all (cons t ts) = max (above t) (above_all ts)

mutual
  pub is_below : (v : ℕ) (t : Tree) → IsTrue (has_var v t) → v < above t
  is_below v (var n) h = let same : n ≡ v = has_var_same v n h in omega (arith, same)
  is_below v (app f ts) h = are_below v ts h

  are_below : (v : ℕ) (ts : Trees) → IsTrue (some_has_var v ts) → v < above_all ts
  are_below v nil h = absurd cc
  are_below v (cons t ts) h = elim (has_var_cons v t ts h) [
    | inl k ↦ omega (arith, is_below v t k)
    | inr k ↦ omega (arith, are_below v ts k)
  ]

-- above the images of the variables below n
abbrev pub above_images : (ℕ → Tree) → ℕ → ℕ
above_images σ zero = 0
above_images σ (suc n) = max (above (σ n)) (above_images σ n)

pub image_below : (σ : ℕ → Tree) (n v : ℕ) → v < n → above (σ v) ≤ above_images σ n
image_below σ zero v h = absurd (omega (arith, h))
image_below σ (suc n) v h = elim (ℕ_discrete v n) [
  | yes same ↦ let e : above (σ v) ≡ above (σ n) = ap (λ z. above (σ z)) same in omega (arith, e)
  | no other ↦ omega (arith, image_below σ n v (omega (arith, h, other)))
]

-- ---- f below k, and g from there on

abbrev pub joined : {X : Type 0} → ℕ → (ℕ → X) → (ℕ → X) → ℕ → X
joined k f g x = elim (dec_lt x k) [ yes h ↦ f x | no h ↦ g (x - k) ]

pub joined_low : {X : Type 0} (k : ℕ) (f g : ℕ → X) (x : ℕ) → x < k → joined k f g x ≡ f x
joined_low k f g x h = elim (dec_lt x k) as (λ d. elim d [ yes h ↦ f x | no h ↦ g (x - k) ] ≡ f x) [ yes l ↦ refl | no l ↦ absurd (l h) ]

pub joined_high : {X : Type 0} (k : ℕ) (f g : ℕ → X) (x : ℕ) → joined k f g (k + x) ≡ g x
joined_high k f g x =
    elim (dec_lt (k + x) k) as (λ d. elim d [ yes h ↦ f (k + x) | no h ↦ g (k + x - k) ] ≡ g x) [
      | yes l ↦ absurd (omega (arith, l))
      | no l ↦ ap g (omega arith)
    ]

-- ---- names that are undone

-- the greatest number below n that is among these and has this name, or 0
abbrev pub number_of : (ℕ → ℕ) → (ℕ → Bool) → ℕ → ℕ → ℕ
number_of names among zero x = 0
number_of names among (suc n) x = if among n && names n == x then n else number_of names among n x

module _ (names : ℕ → ℕ) (among : ℕ → Bool) (different : (v w : ℕ) → IsTrue (among v) → IsTrue (among w) → names v ≡ names w → v ≡ w) where
  both : (a b : Bool) → IsTrue a → IsTrue b → (a && b) ≡ true
  both true true h k = refl
  both true false h k = absurd cc
  both false b h k = absurd cc

  parts : (a b : Bool) → (a && b) ≡ true → IsTrue a × IsTrue b
  parts true b h = (refl, h)
  parts false b h = absurd cc

  same_number : (m n : ℕ) → IsTrue (m == n) → m ≡ n
  same_number m n h = grind arith

  equal_test : (n : ℕ) → IsTrue (n == n)
  equal_test n = grind arith

  pub number_back : (n v : ℕ) → v < n → IsTrue (among v) → number_of names among n (names v) ≡ v
  number_back zero v h k = absurd (omega (arith, h))
  number_back (suc n) v h k = go (λ l. number_back n v l k) (among n && names n == names v) refl
    where
      go : (v < n → number_of names among n (names v) ≡ v) → (b : Bool) → (among n && names n == names v) ≡ b
          → (if b then n else number_of names among n (names v)) ≡ v
      go rest true e = let (a, same) = parts (among n) (names n == names v) e in different n v a k (same_number (names n) (names v) same)
      go rest false e = elim (ℕ_discrete v n) [
        | yes same ↦
            let here : (among v && names v == names v) ≡ true = both (among v) (names v == names v) k (equal_test (names v)) in
            let there : (among n && names n == names v) ≡ true = subst (λ z. (among z && names z == names v) ≡ true) same here in
            absurd (cc (there, e))
        | no other ↦ rest (omega (arith, h, other))
      ]
