-- Redexes are where steps leave.
use Rattle.std.proofs.Common.{◌≡◌, inl, inr, ◌↔◌, Bool, true, false, not, List, IsTrue, refl, sym}
use Rattle.trs_defs.specs.Tree.{Tree, Trees, var, app, nil, cons}
use Rattle.trs_defs.specs.Substitution.{apply}
use Rattle.trs_defs.specs.System.{RewriteRule, Among}
use Rattle.trs_defs.specs.Step.{Step, RootStep, Inside, InsideOne, here, deep, first, later}
use Rattle.trs_defs.specs.NormalForm.{IsNormalForm}
use Rattle.term_pool.specs.Redex.{IsRedex, HasRedex, SomeHasRedex}

pub redex_at_root : (rules : List RewriteRule) (t : Tree) → IsRedex rules t → HasRedex rules t
redex_at_root rules (var n) h = h
redex_at_root rules (app f ts) h = inl h

redex_of_root_step : (rules : List RewriteRule) (t u : Tree) → RootStep (Among rules) t u → IsRedex rules t
redex_of_root_step rules t u s = (record { left = s.0; right = s.1 }, s.3, (s.2, sym s.4))

-- where a step leaves, a redex is
module _ (R : Tree → Tree → Type 0) (rules : List RewriteRule) (root : (t u : Tree) → R t u → IsRedex rules t) where
  mutual
    redex_inside : {t u : Tree} → Inside R t u → HasRedex rules t
    redex_inside (here {s} {t} step) = redex_at_root rules s (root s t step)
    redex_inside (deep s) = inr (redex_inside_one s)

    redex_inside_one : {ts us : Trees} → InsideOne R ts us → SomeHasRedex rules ts
    redex_inside_one (first s) = inl (redex_inside s)
    redex_inside_one (later s) = inr (redex_inside_one s)

redex_of_step : (rules : List RewriteRule) {t u : Tree} → Step rules t u → HasRedex rules t
redex_of_step rules step = redex_inside (RootStep (Among rules)) rules (redex_of_root_step rules) step

step_of_root : (rules : List RewriteRule) (t : Tree) → IsRedex rules t → (u : Tree) × Step rules t u
step_of_root rules t r = (apply r.2.0 r.0.right, here (r.0.left, r.0.right, r.2.0, r.1, sym r.2.1, refl))

mutual
  -- where a redex is, a step leaves
  step_of_redex : (rules : List RewriteRule) (t : Tree) → HasRedex rules t → (u : Tree) × Step rules t u
  step_of_redex rules (var n) h = step_of_root rules (var n) h
  step_of_redex rules (app f ts) (inl h) = step_of_root rules (app f ts) h
  step_of_redex rules (app f ts) (inr h) = let s = step_of_one rules ts h in (app f s.0, deep s.1)

  step_of_one : (rules : List RewriteRule) (ts : Trees) → SomeHasRedex rules ts → (us : Trees) × InsideOne (RootStep (Among rules)) ts us
  step_of_one rules nil h = absurd h
  step_of_one rules (cons t ts) (inl h) = let s = step_of_redex rules t h in (cons s.0 ts, first s.1)
  step_of_one rules (cons t ts) (inr h) = let s = step_of_one rules ts h in (cons t s.0, later s.1)

module _ (rules : List RewriteRule) (t : Tree) (b : Bool) (exact : IsTrue b ↔ HasRedex rules t) where
  pub normal_found : IsTrue (not b) → IsNormalForm (Step rules) t
  normal_found h = λ u step. let found : IsTrue b = exact.1 (redex_of_step rules step) in absurd cc

  pub reducible_found : not b ≡ false → (u : Tree) × Step rules t u
  reducible_found h =
      let whether : (c : Bool) → not c ≡ false → IsTrue c = λ c. elim c as (λ c. not c ≡ false → IsTrue c) [ true ↦ λ _. refl | false ↦ λ e. absurd cc ] in
      step_of_redex rules t (exact.0 (whether b h))
