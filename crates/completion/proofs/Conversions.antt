-- Conversions go on under substitutions and in contexts; rules that others convert make no further conversions.
use Rattle.std.proofs.Common.{ℕ, sym, subst, List, ◌∷◌, [], ◌++◌}
use Rattle.trs_defs.specs.Tree.{Tree, Trees, app, cons}
use Rattle.trs_defs.specs.Substitution.{apply}
use Rattle.trs_defs.specs.System.{RewriteRule, Among}
use Rattle.trs_defs.specs.Step.{InsideOne, here, deep, first, later, RootStep, Step}
use Rattle.trs_defs.specs.Run.{Run, Stay, Go}
use Rattle.trs_defs.proofs.Substitutions.{step_closed}
use Rattle.trs_defs.proofs.StepLaws.{step_of_more}
use Rattle.trs_defs.proofs.Members.{in_left}
use Rattle.completion.specs.Conversion.{Converted, by_step, no_step, backwards, onwards}

-- a map whose steps are conversions
pub converted_along : {T U : Type 0} {R : T → T → Type 0} {Q : U → U → Type 0} (F : T → U) → ((s t : T) → R s t → Converted Q (F s) (F t))
    → {s t : T} → Converted R s t → Converted Q (F s) (F t)
converted_along F f (by_step {s = s} {t = t} r) = f s t r
converted_along F f no_step = no_step
converted_along F f (backwards c) = backwards (converted_along F f c)
converted_along F f (onwards c d) = onwards (converted_along F f c) (converted_along F f d)

pub converted_apply : (rules : List RewriteRule) (σ : ℕ → Tree) {s t : Tree} → Converted (Step rules) s t → Converted (Step rules) (apply σ s) (apply σ t)
converted_apply rules σ c = converted_along (apply σ) (λ s t r. by_step ((step_closed (Among rules)).instance σ s t r)) c

pub converted_run : {T : Type 0} {R : T → T → Type 0} {s t : T} → Run R s t → Converted R s t
converted_run Stay = no_step
converted_run (Go r p) = onwards (by_step r) (converted_run p)

-- each rule's sides are converted by the others
module _ (rules others : List RewriteRule) (each : (l r : Tree) → Among rules l r → Converted (Step others) l r) where
  root_converts : (s t : Tree) → RootStep (Among rules) s t → Converted (Step others) s t
  root_converts s t (l, r, σ, i, e, e') =
      let C : Tree → Tree → Type 0 = Converted (Step others) in
      subst (λ x. C x t) (sym e) (subst (C (apply σ l)) (sym e') (converted_apply others σ (each l r i)))

  mutual
    pub step_converts : {s t : Tree} → Step rules s t → Converted (Step others) s t
    step_converts (here {s = s} {t = t} r) = root_converts s t r
    step_converts (deep {f = f} d) = converted_along (app f) (λ ss ts e. by_step (deep e)) (steps_convert d)

    steps_convert : {ss ts : Trees} → InsideOne (RootStep (Among rules)) ss ts → Converted (InsideOne (RootStep (Among others))) ss ts
    steps_convert (first {ts = ts} d) = converted_along (λ x. cons x ts) (λ s t e. by_step (first e)) (step_converts d)
    steps_convert (later {t = t} d) = converted_along (cons t) (λ ss ts e. by_step (later e)) (steps_convert d)

  pub conversions_convert : {s t : Tree} → Converted (Step rules) s t → Converted (Step others) s t
  conversions_convert c = converted_along (λ x. x) (λ s t r. step_converts r) c

-- with one rule more
pub more_converted : (rules : List RewriteRule) (r : RewriteRule) {s t : Tree} → Converted (Step rules) s t → Converted (Step (rules ++ r ∷ [])) s t
more_converted rules r c =
    converted_along (λ x. x) (λ s t d. by_step (step_of_more (Among rules) (Among (rules ++ r ∷ [])) (λ l k i. in_left (r ∷ []) i) d)) c
