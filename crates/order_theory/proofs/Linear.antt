-- Linear interpretations are well-founded in the finite sense: the value falls with each strict move.
use Rattle.std.proofs.Common.{◌≡◌, ℕ, suc, ◌+◌, ◌*◌, ◌≤◌, ◌<◌, refl, ap, ap₂, arith, List}
use Rattle.trs_defs.specs.Tree.{Tree, var, app, Trees, nil, cons}
use Rattle.trs_defs.specs.Substitution.{apply, apply_all}
use Rattle.trs_defs.specs.Step.{Inside, InsideOne, StepBy, here, deep, first, later}
use Rattle.pair_theory.specs.Terminates.{ArgumentStep}
use Rattle.trs_defs.specs.System.{RewriteRule, Among}
use Rattle.trs_defs.specs.Member.{In}
use Rattle.order_theory.specs.LinearInterpretation.{value, values, LinearWeak, LinearStrict}
use Rattle.pair_theory.specs.ReductionPair.{ReductionPair, AllTerms}
use Rattle.order_theory.proofs.Coefficients.{mul_le_right}
use Rattle.order_theory.proofs.PathPair.{each_term}
use Rattle.pair_theory.specs.Moves.{Moves, no_moves, weakly, strictly, IsWellFounded}

module _ (c : ℕ → ℕ → ℕ) (a : ℕ → ℕ) where
  mutual
    pub value_apply : (σ : ℕ → Tree) (t : Tree) → value c a (apply σ t) ≡ value c (λ x. value c a (σ x)) t
    value_apply σ (var x) = refl
    value_apply σ (app f ts) = ap (λ n. c f 0 + n) (values_apply σ f 1 ts)

    pub values_apply : (σ : ℕ → Tree) (f i : ℕ) (ts : Trees) → values c a f i (apply_all σ ts) ≡ values c (λ x. value c a (σ x)) f i ts
    values_apply σ f i nil = refl
    values_apply σ f i (cons t ts) = ap₂ (λ m n. c f i * m + n) (value_apply σ t) (values_apply σ f (suc i) ts)

  module _ (ws ss : List RewriteRule) (weak : (p : RewriteRule) → In p ws → LinearWeak c p.left p.right) (strict : (p : RewriteRule) → In p ss → LinearStrict c p.left p.right) where
    mutual
      step_value : {s t : Tree} → StepBy (Among ws) s t → value c a t ≤ value c a s
      step_value (here (l, r, σ, h, e, e')) = rw (e, e', value_apply σ l, value_apply σ r) (weak _ h (λ x. value c a (σ x)))
      step_value (deep {f = f} {ss = us} {ts = vs} s) = let h : values c a f 1 vs ≤ values c a f 1 us = steps_value s f 1 in omega arith

      steps_value : {us vs : Trees} → ArgumentStep (Among ws) us vs → (f i : ℕ) → values c a f i vs ≤ values c a f i us
      steps_value (first {s = s} {t = t} st) f i = let h : c f i * value c a t ≤ c f i * value c a s = mul_le_right (c f i) _ _ (step_value st) in omega arith
      steps_value (later {ss = us} {ts = vs} st) f i = let h : values c a f (suc i) vs ≤ values c a f (suc i) us = steps_value st f (suc i) in omega arith

    moves_value : {m : ℕ} {s t : Tree} → Moves ws ss m s t → m ≤ value c a s
    moves_value no_moves = omega arith
    moves_value (weakly {n = n} {s = s} {t = t} st ms) = let h : value c a t ≤ value c a s = step_value st in let k : n ≤ value c a t = moves_value ms in omega arith
    moves_value (strictly {n = n} {s = s} {t = t} (l, r, σ, i, e, e') ms) =
        let h : value c a t < value c a s = rw (e, e', value_apply σ l, value_apply σ r) (strict (record { left = l; right = r }) i (λ x. value c a (σ x))) in
        let k : n ≤ value c a t = moves_value ms in omega arith

pub linear_well_founded : (c : ℕ → ℕ → ℕ) → IsWellFounded (LinearWeak c) (LinearStrict c) AllTerms
linear_well_founded c ws ss weak strict t spoken =
    (value c (λ x. 0) t, λ m u ms. moves_value c (λ x. 0) ws ss (λ p i. (weak p i).ordered) (λ p i. (strict p i).ordered) ms)

module _ (c : ℕ → ℕ → ℕ) where
  mutual
    linear_context : {s t : Tree} → Inside (LinearWeak c) s t → LinearWeak c s t
    linear_context (here w) = w
    linear_context (deep {f = f} {ss = ss} {ts = ts} p) = λ a. let h : values c a f 1 ts ≤ values c a f 1 ss = linear_contexts p a f 1 in omega arith

    linear_contexts : {ss ts : Trees} → InsideOne (LinearWeak c) ss ts → (a : ℕ → ℕ) (f i : ℕ) → values c a f i ts ≤ values c a f i ss
    linear_contexts (first {s = s} {t = t} {ts = ts} p) a f i =
        let h : value c a t ≤ value c a s = linear_context p a in
        let k : c f i * value c a t ≤ c f i * value c a s = mul_le_right (c f i) (value c a t) (value c a s) h in omega arith
    linear_contexts (later {ss = ss} {ts = ts} p) a f i = let h : values c a f (suc i) ts ≤ values c a f (suc i) ss = linear_contexts p a f (suc i) in omega arith

-- a linear interpretation
pub linear_pair : (c : ℕ → ℕ → ℕ) → ReductionPair (LinearWeak c) (LinearStrict c) AllTerms
linear_pair c = record {
  spoken_var = λ v. tt;
  spoken_args = λ f ts w. each_term ts;
  spoken_apply = λ σ t k w. tt;
  weak_refl = λ t a. omega arith;
  weak_trans = λ s t u k l m p q a. let h : value c a t ≤ value c a s = p a in let h' : value c a u ≤ value c a t = q a in omega arith;
  weak_context = λ s t k l. linear_context c;
  weak_apply = λ σ s t k l m p a. rw (value_apply c a σ s, value_apply c a σ t) (p (λ x. value c a (σ x)));
  strict_apply = λ σ s t k l m p a. rw (value_apply c a σ s, value_apply c a σ t) (p (λ x. value c a (σ x)));
  weak_strict = λ s t u k l m p q a. let h : value c a t ≤ value c a s = p a in let h' : value c a u < value c a t = q a in omega arith;
  well_founded = linear_well_founded c;
}
