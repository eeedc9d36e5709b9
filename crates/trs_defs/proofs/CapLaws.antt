-- What fits a cap: the instances of the term, and what they reach.
use Rattle.std.proofs.Common.{ℕ, List, subst}
use Rattle.trs_defs.specs.Tree.{Tree, Trees, app}
use Rattle.trs_defs.specs.Substitution.{apply, apply_all}
use Rattle.trs_defs.specs.System.{RewriteRule, Among}
use Rattle.trs_defs.specs.Run.{Run}
use Rattle.trs_defs.specs.Derivation.{Reaches}
use Rattle.trs_defs.specs.Step.{Inside, InsideOne, here, deep, first, later, RootStep, StepBy, Step}
use Rattle.trs_defs.specs.Cap.{Fits, EachFits, fits_variable, fits_symbol, fits_nil, fits_cons, Cap, Caps, cap_variable, cap_open, cap_symbol, caps_nil, caps_cons}
use Rattle.trs_defs.proofs.Derivations.{run_of_reaches}
use Rattle.trs_defs.proofs.Runs.{run_keeps}

module _ (rule : Tree → Tree → Type 0) where
  mutual
    pub instance_fits : (σ : ℕ → Tree) {t c : Tree} → Cap rule t c → Fits c (apply σ t)
    instance_fits σ cap_variable = fits_variable
    instance_fits σ cap_open = fits_variable
    instance_fits σ (cap_symbol k none) = fits_symbol (instances_fit σ k)

    pub instances_fit : (σ : ℕ → Tree) {ts cs : Trees} → Caps rule ts cs → EachFits cs (apply_all σ ts)
    instances_fit σ caps_nil = fits_nil
    instances_fit σ (caps_cons k ks) = fits_cons (instance_fits σ k) (instances_fit σ ks)

  mutual
    pub fits_itself : {t c : Tree} → Cap rule t c → Fits c t
    fits_itself cap_variable = fits_variable
    fits_itself cap_open = fits_variable
    fits_itself (cap_symbol k none) = fits_symbol (fit_themselves k)

    pub fit_themselves : {ts cs : Trees} → Caps rule ts cs → EachFits cs ts
    fit_themselves caps_nil = fits_nil
    fit_themselves (caps_cons k ks) = fits_cons (fits_itself k) (fit_themselves ks)

  -- a step from a term that fits is at no root that the cap has
  mutual
    pub step_fits : {t c : Tree} → Cap rule t c → {u v : Tree} → Fits c u → Inside (RootStep rule) u v → Fits c v
    step_fits cap_variable p s = fits_variable
    step_fits cap_open p s = fits_variable
    step_fits (cap_symbol {f = f} {cs = cs} k none) (fits_symbol p) (here (l, r, σ, h, e, e')) =
        let P : Tree → Type 0 = λ z. Fits (app f cs) z in absurd (none l r σ h (subst P e (fits_symbol p)))
    step_fits (cap_symbol k none) (fits_symbol p) (deep s) = fits_symbol (steps_fit k p s)

    pub steps_fit : {ts cs : Trees} → Caps rule ts cs → {us vs : Trees} → EachFits cs us → InsideOne (RootStep rule) us vs → EachFits cs vs
    steps_fit caps_nil fits_nil s = elim s [ ]
    steps_fit (caps_cons k ks) (fits_cons p ps) (first s) = fits_cons (step_fits k p s) ps
    steps_fit (caps_cons k ks) (fits_cons p ps) (later s) = fits_cons p (steps_fit ks ps s)

  pub run_fits : {t c : Tree} → Cap rule t c → {u v : Tree} → Fits c u → Run (StepBy rule) u v → Fits c v
  run_fits {c = c} k p run = run_keeps (Fits c) (λ u v q s. step_fits k q s) p run

  pub runs_fit : {ts cs : Trees} → Caps rule ts cs → {us vs : Trees} → EachFits cs us → Run (InsideOne (RootStep rule)) us vs → EachFits cs vs
  runs_fit {cs = cs} k p run = run_keeps (EachFits cs) (λ us vs q s. steps_fit k q s) p run

pub reached_fits : (rules : List RewriteRule) (t c v : Tree) (σ : ℕ → Tree) → Cap (Among rules) t c → Reaches (Step rules) (apply σ t) v → Fits c v
reached_fits rules t c v σ k d = run_fits (Among rules) k (instance_fits (Among rules) σ k) (run_of_reaches (Step rules) (apply σ t) v d)
