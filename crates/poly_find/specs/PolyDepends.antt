-- The comparison of two terms by linear polynomials depends only on the coefficients of their symbols.
use Rattle.std.specs.Prelude.{ℕ, ◌+◌, ◌*◌, ◌^◌, true, ◌||◌, ◌&&◌, nat_le, nat_lt, slice_index, List, ◌∷◌, ◌≡◌}
use Rattle.std.proofs.Common.{zero, suc, refl, ap, ap₂}
use Rattle.trs_defs.specs.Tree.{Tree, Trees, var, app, nil, cons}
use Rattle.order_theory.specs.LinearInterpretation.{constant, constants, coefficient, coefficients}
use Rattle.assign_search.proofs.Refuting.{or_left, or_right}
use Rattle.order_search.specs.Slots.{Table}
use Rattle.order_search.specs.OrderSpace.{occurs_in, DependsOnSymbols}
use Rattle.order_search.proofs.Agreeing.{Agree, AgreeAll, root_agrees, args_agree, first_agrees, rest_agree}
use Rattle.poly_find.specs.LinearTest.{has_small, have_small, is_small, are_small, covers_each, covers_all, linear_weak, linear_strict}
use Rattle.poly_find.specs.PolySpace.{values_from, coefficient_by, poly_family}

module _ (p q : ℕ → ℕ → ℕ) where
  abbrev Same : ℕ → Type 0
  Same f = (i : ℕ) → p f i ≡ q f i

  mutual
    same_constant : (t : Tree) → Agree Same t → constant p t ≡ constant q t
    same_constant (var x) same = refl
    same_constant (app f ts) same =
        ap₂ (λ (a b : ℕ). a + b) (root_agrees Same f ts same 0) (same_constants f 1 ts (root_agrees Same f ts same) (args_agree Same f ts same))

    same_constants : (f i : ℕ) (ts : Trees) → Same f → AgreeAll Same ts → constants p f i ts ≡ constants q f i ts
    same_constants f i nil own same = refl
    same_constants f i (cons t ts) own same =
        ap₂ (λ (a b : ℕ). a + b) (ap₂ (λ (a b : ℕ). a * b) (own i) (same_constant t (first_agrees Same t ts same)))
        (same_constants f (suc i) ts own (rest_agree Same t ts same))

  mutual
    same_coefficient : (x : ℕ) (t : Tree) → Agree Same t → coefficient p x t ≡ coefficient q x t
    same_coefficient x (var y) same = refl
    same_coefficient x (app f ts) same = same_coefficients x f 1 ts (root_agrees Same f ts same) (args_agree Same f ts same)

    same_coefficients : (x f i : ℕ) (ts : Trees) → Same f → AgreeAll Same ts → coefficients p x f i ts ≡ coefficients q x f i ts
    same_coefficients x f i nil own same = refl
    same_coefficients x f i (cons t ts) own same =
        ap₂ (λ (a b : ℕ). a + b) (ap₂ (λ (a b : ℕ). a * b) (own i) (same_coefficient x t (first_agrees Same t ts same)))
        (same_coefficients x f (suc i) ts own (rest_agree Same t ts same))

  module _ (t : Tree) (same : Agree Same t) where
    mutual
      same_has_small : (u : Tree) → has_small p t u ≡ has_small q t u
      same_has_small (var x) = ap (λ (n : ℕ). nat_lt n (2 ^ 63)) (same_coefficient x t same)
      same_has_small (app f us) = same_have_small us

      same_have_small : (us : Trees) → have_small p t us ≡ have_small q t us
      same_have_small nil = refl
      same_have_small (cons u us) = ap₂ (λ a b. a && b) (same_has_small u) (same_have_small us)

  mutual
    same_small : (t : Tree) → Agree Same t → is_small p t ≡ is_small q t
    same_small (var x) same = refl
    same_small (app f ts) same =
        ap₂ (λ a b. a && b) (ap (λ (n : ℕ). nat_lt n (2 ^ 63)) (same_constant (app f ts) same))
        (ap₂ (λ a b. a && b) (same_has_small (app f ts) same (app f ts)) (same_smalls ts (args_agree Same f ts same)))

    same_smalls : (ts : Trees) → AgreeAll Same ts → are_small p ts ≡ are_small q ts
    same_smalls nil same = refl
    same_smalls (cons t ts) same = ap₂ (λ a b. a && b) (same_small t (first_agrees Same t ts same)) (same_smalls ts (rest_agree Same t ts same))

  module _ (s t : Tree) (same : (f : ℕ) → occurs_in f s || occurs_in f t ≡ true → Same f) where
    left : Agree Same s
    left f i = same f (or_left (occurs_in f s) (occurs_in f t) i)

    right : Agree Same t
    right f i = same f (or_right (occurs_in f s) (occurs_in f t) i)

    mutual
      same_covers : (u : Tree) → covers_each p s t u ≡ covers_each q s t u
      same_covers (var x) = ap₂ (λ (m n : ℕ). nat_le m n) (same_coefficient x t right) (same_coefficient x s left)
      same_covers (app f us) = same_covers_all us

      same_covers_all : (us : Trees) → covers_all p s t us ≡ covers_all q s t us
      same_covers_all nil = refl
      same_covers_all (cons u us) = ap₂ (λ a b. a && b) (same_covers u) (same_covers_all us)

    both_small : is_small p s && is_small p t ≡ is_small q s && is_small q t
    both_small = ap₂ (λ a b. a && b) (same_small s left) (same_small t right)

    pub weak_same : linear_weak p s t ≡ linear_weak q s t
    weak_same =
        ap₂ (λ a b. a && b) both_small
        (ap₂ (λ a b. a && b) (ap₂ (λ (m n : ℕ). nat_le m n) (same_constant t right) (same_constant s left)) (same_covers t))

    pub strict_same : linear_strict p s t ≡ linear_strict q s t
    strict_same =
        ap₂ (λ a b. a && b) both_small
        (ap₂ (λ a b. a && b) (ap₂ (λ (m n : ℕ). nat_lt m n) (same_constant t right) (same_constant s left)) (same_covers t))

same_values : (p q : Table) (f : ℕ) → ((part : ℕ) → p f part ≡ q f part) → (part n : ℕ) → values_from p f part n ≡ values_from q f part n
same_values p q f same part zero = refl
same_values p q f same part (suc n) = ap₂ (λ (x : ℕ) (l : List ℕ). x ∷ l) (same part) (same_values p q f same (suc part) n)

module _ (arity : ℕ → ℕ) (s t : Tree) (p q : Table) (same : (f part : ℕ) → occurs_in f s || occurs_in f t ≡ true → p f part ≡ q f part) where
  same_parts : (f : ℕ) → occurs_in f s || occurs_in f t ≡ true → (i : ℕ) → coefficient_by arity p f i ≡ coefficient_by arity q f i
  same_parts f here i = ap (λ (l : List ℕ). slice_index l i) (same_values p q f (λ part. same f part here) 0 (arity f + 1))

pub poly_depends : (arity : ℕ → ℕ) → DependsOnSymbols (poly_family arity)
poly_depends arity = record {
  weak = λ s t p q same. weak_same (coefficient_by arity p) (coefficient_by arity q) s t (same_parts arity s t p q same);
  strict = λ s t p q same. strict_same (coefficient_by arity p) (coefficient_by arity q) s t (same_parts arity s t p q same);
}
