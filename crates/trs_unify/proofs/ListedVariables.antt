-- Lists of variables, and the variables of terms that are added to them.
use Rattle.std.proofs.Common.{◌≡◌, ℕ, ◌+◌, ◌<◌, zero, suc, Bool, true, false, inl, inr, List, [], ◌∷◌, ◌++◌, length, Some, IsTrue, refl, sym, ◌∙◌, ap, subst, slice_get, get_or, drop, arith, add-one}
use Rattle.std.specs.Prelude.{◌==◌, if◌then◌else◌}
use Rattle.std.proofs.Math.Seq.{drop-cons}
use Rattle.std.proofs.lemmas.Bool.{or_left, or_right, or_cases}
use Rattle.trs_defs.specs.Tree.{Tree, Trees, var, app, nil, cons}
use Rattle.trs_defs.specs.Variable.{has_var, some_has_var, is_listed, with_variables, with_variables_of_all, variables_of}
use Rattle.trs_defs.specs.Substitution.{apply, apply_all}
use Rattle.trs_defs.proofs.VariableLaws.{has_var_same, has_var_self, has_var_cons}

-- what is listed stands somewhere
pub listed_at : (v : ℕ) (vs : List ℕ) → IsTrue (is_listed v vs) → (i : ℕ) × (slice_get vs i ≡ Some v)
listed_at v [] h = absurd cc
listed_at v (x ∷ vs) h = elim (or_cases (x == v) (is_listed v vs) h) [
  | inl k ↦ let same : x ≡ v = grind arith in (zero, ap (λ z. Some z) same)
  | inr k ↦ let (i, e) = listed_at v vs k in (suc i, e)
]

pub listed_get : (vs : List ℕ) (i v : ℕ) → slice_get vs i ≡ Some v → IsTrue (is_listed v vs)
listed_get [] i v e = absurd cc
listed_get (x ∷ vs) zero v e = let same : x ≡ v = cc (e) in or_left (x == v) (is_listed v vs) (subst (λ z. IsTrue (z == v)) (sym same) (has_var_self v))
listed_get (x ∷ vs) (suc i) v e = or_right (x == v) (is_listed v vs) (listed_get vs i v e)

listed_last : (v : ℕ) (vs : List ℕ) → IsTrue (is_listed v (vs ++ v ∷ []))
listed_last v [] = or_left (v == v) false (has_var_self v)
listed_last v (x ∷ vs) = or_right (x == v) (is_listed v (vs ++ v ∷ [])) (listed_last v vs)

listed_longer : (v n : ℕ) (vs : List ℕ) → IsTrue (is_listed v vs) → IsTrue (is_listed v (vs ++ n ∷ []))
listed_longer v n [] h = absurd cc
listed_longer v n (x ∷ vs) h = elim (or_cases (x == v) (is_listed v vs) h) as (λ _. IsTrue (is_listed v ((x ∷ vs) ++ n ∷ []))) [
  | inl k ↦ or_left (x == v) (is_listed v (vs ++ n ∷ [])) k
  | inr k ↦ or_right (x == v) (is_listed v (vs ++ n ∷ [])) (listed_longer v n vs k)
]

still_listed : (b : Bool) (v n : ℕ) (vs : List ℕ) → IsTrue (is_listed v vs) → IsTrue (is_listed v (if b then vs else vs ++ n ∷ []))
still_listed true v n vs h = h
still_listed false v n vs h = listed_longer v n vs h

now_listed : (b : Bool) (v : ℕ) (vs : List ℕ) → is_listed v vs ≡ b → IsTrue (is_listed v (if b then vs else vs ++ v ∷ []))
now_listed true v vs e = e
now_listed false v vs e = listed_last v vs

-- what is listed stays, and the variables of a term are listed after it is added
mutual
  pub listed_still : (v : ℕ) (t : Tree) (vs : List ℕ) → IsTrue (is_listed v vs) → IsTrue (is_listed v (with_variables vs t))
  listed_still v (var n) vs h = still_listed (is_listed n vs) v n vs h
  listed_still v (app f ts) vs h = listed_still_in_all v ts vs h

  listed_still_in_all : (v : ℕ) (ts : Trees) (vs : List ℕ) → IsTrue (is_listed v vs) → IsTrue (is_listed v (with_variables_of_all vs ts))
  listed_still_in_all v nil vs h = h
  listed_still_in_all v (cons t ts) vs h = listed_still_in_all v ts (with_variables vs t) (listed_still v t vs h)

mutual
  pub listed_variable : (v : ℕ) (t : Tree) (vs : List ℕ) → IsTrue (has_var v t) → IsTrue (is_listed v (with_variables vs t))
  listed_variable v (var n) vs h =
      let same : n ≡ v = has_var_same v n h in
      subst (λ z. IsTrue (is_listed v (with_variables vs (var z)))) (sym same) (now_listed (is_listed v vs) v vs refl)
  listed_variable v (app f ts) vs h = listed_variable_of_all v ts vs h

  listed_variable_of_all : (v : ℕ) (ts : Trees) (vs : List ℕ) → IsTrue (some_has_var v ts) → IsTrue (is_listed v (with_variables_of_all vs ts))
  listed_variable_of_all v nil vs h = absurd cc
  listed_variable_of_all v (cons t ts) vs h = elim (has_var_cons v t ts h) as (λ _. IsTrue (is_listed v (with_variables_of_all (with_variables vs t) ts))) [
    | inl k ↦ listed_still_in_all v ts (with_variables vs t) (listed_variable v t vs k)
    | inr k ↦ listed_variable_of_all v ts (with_variables vs t) k
  ]

-- a term whose variables are listed adds nothing
mutual
  pub nothing_new : (vs : List ℕ) (t : Tree) → ((v : ℕ) → IsTrue (has_var v t) → IsTrue (is_listed v vs)) → with_variables vs t ≡ vs
  nothing_new vs (var x) h = let e : is_listed x vs ≡ true = h x (has_var_self x) in rw e refl
  nothing_new vs (app f ts) h = nothing_new_in_all vs ts h

  nothing_new_in_all : (vs : List ℕ) (ts : Trees) → ((v : ℕ) → IsTrue (some_has_var v ts) → IsTrue (is_listed v vs)) → with_variables_of_all vs ts ≡ vs
  nothing_new_in_all vs nil h = refl
  nothing_new_in_all vs (cons t ts) h =
      let first : with_variables vs t ≡ vs = nothing_new vs t (λ v k. h v (or_left (has_var v t) (some_has_var v ts) k)) in
      ap (λ ws. with_variables_of_all ws ts) first ∙ nothing_new_in_all vs ts (λ v k. h v (or_right (has_var v t) (some_has_var v ts) k))

-- a variable that is listed adds nothing, and another one comes last
pub one_known : (vs : List ℕ) (i v : ℕ) → slice_get vs i ≡ Some v → with_variables vs (var v) ≡ vs
one_known vs i v at = nothing_new vs (var v) (λ w h. subst (λ z. IsTrue (is_listed z vs)) (has_var_same w v h) (listed_get vs i v at))

pub one_new : (vs : List ℕ) (v : ℕ) → ((i : ℕ) → slice_get vs i ≡ Some v → ⊥) → with_variables vs (var v) ≡ vs ++ v ∷ []
one_new vs v none = go (is_listed v vs) refl
  where
    go : (b : Bool) → is_listed v vs ≡ b → with_variables vs (var v) ≡ vs ++ v ∷ []
    go true e = let (i, at) = listed_at v vs e in absurd (none i at)
    go false e = rw e refl

-- ---- instances

-- the variables of the terms that these variables stand for, as the terms come
abbrev pub variables_under : (ℕ → Tree) → List ℕ → List ℕ → List ℕ
variables_under σ known [] = known
variables_under σ known (v ∷ vs) = variables_under σ (with_variables known (σ v)) vs

under_append : (σ : ℕ → Tree) (known vs : List ℕ) (v : ℕ) → variables_under σ known (vs ++ v ∷ []) ≡ with_variables (variables_under σ known vs) (σ v)
under_append σ known [] v = refl
under_append σ known (x ∷ vs) v = under_append σ (with_variables known (σ x)) vs v

under_still : (σ : ℕ → Tree) (v : ℕ) (vs known : List ℕ) → IsTrue (is_listed v known) → IsTrue (is_listed v (variables_under σ known vs))
under_still σ v [] known h = h
under_still σ v (x ∷ vs) known h = under_still σ v vs (with_variables known (σ x)) (listed_still v (σ x) known h)

listed_under : (σ : ℕ → Tree) (n v : ℕ) (vs known : List ℕ) → IsTrue (is_listed n vs) → IsTrue (has_var v (σ n)) → IsTrue (is_listed v (variables_under σ known vs))
listed_under σ n v [] known h has = absurd cc
listed_under σ n v (x ∷ vs) known h has = elim (or_cases (x == n) (is_listed n vs) h) as (λ _. IsTrue (is_listed v (variables_under σ (with_variables known (σ x)) vs))) [
  | inl k ↦
      let same : x ≡ n = grind arith in
      under_still σ v vs (with_variables known (σ x)) (listed_variable v (σ x) known (subst (λ z. IsTrue (has_var v (σ z))) (sym same) has))
  | inr k ↦ listed_under σ n v vs (with_variables known (σ x)) k has
]

variable_under : (σ : ℕ → Tree) (n : ℕ) (known vs : List ℕ) → variables_under σ known (with_variables vs (var n)) ≡ with_variables (variables_under σ known vs) (σ n)
variable_under σ n known vs = go (is_listed n vs) refl
  where
    go : (b : Bool) → is_listed n vs ≡ b → variables_under σ known (with_variables vs (var n)) ≡ with_variables (variables_under σ known vs) (σ n)
    go true e = rw e (sym (nothing_new (variables_under σ known vs) (σ n) (λ v has. listed_under σ n v vs known e has)))
    go false e = rw e (under_append σ known vs n)

mutual
  term_under : (σ : ℕ → Tree) (t : Tree) (known vs : List ℕ) → variables_under σ known (with_variables vs t) ≡ with_variables (variables_under σ known vs) (apply σ t)
  term_under σ (var n) known vs = variable_under σ n known vs
  term_under σ (app f ts) known vs = terms_under σ ts known vs

  terms_under : (σ : ℕ → Tree) (ts : Trees) (known vs : List ℕ) → variables_under σ known (with_variables_of_all vs ts) ≡ with_variables_of_all (variables_under σ known vs) (apply_all σ ts)
  terms_under σ nil known vs = refl
  terms_under σ (cons t ts) known vs =
      terms_under σ ts known (with_variables vs t) ∙ ap (λ ws. with_variables_of_all ws (apply_all σ ts)) (term_under σ t known vs)

-- the variables of an instance are those under the variables of the term
pub instance_variables : (σ : ℕ → Tree) (t : Tree) (known : List ℕ) → variables_under σ known (variables_of t) ≡ with_variables known (apply σ t)
instance_variables σ t known = term_under σ t known []

-- some of the variables are left, and one of them is added
pub added_under : (σ : ℕ → Tree) (known new vs whole : List ℕ) (i : ℕ) → i < length vs → new ≡ with_variables known (σ (get_or vs i 0))
    → variables_under σ known (drop i vs) ≡ whole → variables_under σ new (drop (i + 1) vs) ≡ whole
added_under σ known new vs whole i h is was =
    rw (is, add-one) (sym (ap (variables_under σ known) (drop-cons vs i 0 h)) ∙ was)
