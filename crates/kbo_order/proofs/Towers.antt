-- Towers, looked at from the top.
use Rattle.std.specs.Prelude.{◌==◌}
use Rattle.std.proofs.Common.{◌≡◌, ℕ, ◌↔◌, refl, sym, ap, subst, ◌∙◌, arith, Bool, IsTrue, List, [], ◌∷◌, length, get_or}
use Rattle.std.proofs.lemmas.Bool.{eqb-true, eq-eqb}
use Rattle.trs_core.specs.declared.terms.Term.{Term}
use Rattle.trs_core.specs.View.{tree, forest}
use Rattle.trs_core.proofs.Comparing.{count_forest}
use Rattle.trs_defs.specs.Tree.{Tree, Trees, var, app, nil, cons, count}
use Rattle.trs_defs.proofs.EqualTerms.{cons_first}
use Rattle.order_theory.specs.KnuthBendix.{Tower, one_high, higher}

pub tower_case : {P : Type 0} {f x g : ℕ} {ts : Trees} → Tower f x (app g ts) → (g ≡ f → ts ≡ cons (var x) nil → P)
    → ((t : Tree) → g ≡ f → ts ≡ cons t nil → Tower f x t → P) → P
tower_case one_high a b = a refl refl
tower_case (higher t) a b = b _ refl refl t

pub no_tower : {f x y : ℕ} → Tower f x (var y) → ⊥
no_tower t = elim t [ ]

pub raised : (f x g : ℕ) (t : Tree) → g ≡ f → Tower f x t → Tower f x (app g (cons t nil))
raised f x g t e h = subst (λ k. Tower f x (app k (cons t nil))) (sym e) (higher h)

pub raised_one : (f x g y : ℕ) → g ≡ f → y ≡ x → Tower f x (app g (cons (var y) nil))
raised_one f x g y e e' = subst (λ k. Tower f x (app k (cons (var y) nil))) (sym e) (subst (λ z. Tower f x (app f (cons (var z) nil))) (sym e') one_high)

-- a term and its one argument
module _ (f x g : ℕ) (xs : List Term) (t : Tree) (is : t ≡ app g (forest xs)) where
  opened : Tower f x t → Tower f x (app g (forest xs))
  opened h = subst (Tower f x) is h

  pub other_count : (length xs ≡ 1 → ⊥) → Tower f x t → ⊥
  other_count n h = tower_case (opened h) (λ e k. n (one_of xs (ap count k))) (λ u e k r. n (one_of xs (ap count k)))
    where
      one_of : (ys : List Term) → count (forest ys) ≡ 1 → length ys ≡ 1
      one_of ys e = sym (count_forest ys) ∙ e

  pub over_variable : (a : Term) (y : ℕ) → g ≡ f → forest xs ≡ cons (tree a) nil → tree a ≡ var y → IsTrue (y == x) ↔ Tower f x t
  over_variable a y e one is_a = (
    λ yes. subst (Tower f x) (sym (is ∙ ap (app g) (one ∙ ap (λ z. cons z nil) is_a))) (raised_one f x g y e (eqb-true y x yes)),
    λ h. tower_case (opened h)
        (λ k q. let same : var y ≡ var x = sym is_a ∙ cons_first (sym one ∙ q) in eq-eqb y x (cc))
        (λ u k q r. absurd (no_tower (subst (Tower f x) (sym (cons_first (sym one ∙ q)) ∙ is_a) r))),
  )

  pub over_application : (a : Term) (h : ℕ) (us : Trees) (b : Bool) → g ≡ f → forest xs ≡ cons (tree a) nil → tree a ≡ app h us → IsTrue b ↔ Tower f x (tree a)
      → IsTrue b ↔ Tower f x t
  over_application a h us b e one is_a rest = (
    λ yes. subst (Tower f x) (sym (is ∙ ap (app g) one)) (raised f x g (tree a) e (rest.0 yes)),
    λ k. tower_case (opened k)
        (λ m q. let same : app h us ≡ var x = sym is_a ∙ cons_first (sym one ∙ q) in absurd cc)
        (λ u m q r. rest.1 (subst (Tower f x) (sym (cons_first (sym one ∙ q))) r)),
  )

pub only_one : (xs : List Term) (a : Term) → length xs ≡ 1 → a ≡ get_or xs 0 a → forest xs ≡ cons (tree a) nil
only_one [] a n e = absurd (omega arith)
only_one (b ∷ []) a n e = ap (λ z. cons (tree z) nil) (sym e)
only_one (b ∷ d ∷ xs) a n e = absurd (omega arith)
