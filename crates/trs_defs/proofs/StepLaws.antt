-- Steps inside terms: of more rules, and runs in arguments.
use Rattle.std.specs.Prelude.{ℕ}
use Rattle.trs_defs.specs.Tree.{Tree, Trees, app, cons}
use Rattle.trs_defs.specs.Run.{Run}
use Rattle.trs_defs.specs.Step.{Inside, InsideOne, here, deep, first, later, RootStep, StepBy}
use Rattle.trs_defs.proofs.Runs.{then, run_along}

module _ (R Q : Tree → Tree → Type 0) (f : (s t : Tree) → R s t → Q s t) where
  mutual
    pub inside_of_more : {s t : Tree} → Inside R s t → Inside Q s t
    inside_of_more (here {s = s} {t = t} r) = here (f s t r)
    inside_of_more (deep d) = deep (inside_one_of_more d)

    pub inside_one_of_more : {ss ts : Trees} → InsideOne R ss ts → InsideOne Q ss ts
    inside_one_of_more (first d) = first (inside_of_more d)
    inside_one_of_more (later d) = later (inside_one_of_more d)

module _ (rule goal : Tree → Tree → Type 0) (f : (l r : Tree) → rule l r → goal l r) where
  pub root_step_of_more : (s t : Tree) → RootStep rule s t → RootStep goal s t
  root_step_of_more s t (l, r, σ, h, e, e') = (l, r, σ, f l r h, e, e')

  pub step_of_more : {s t : Tree} → StepBy rule s t → StepBy goal s t
  step_of_more = inside_of_more (RootStep rule) (RootStep goal) root_step_of_more

  pub argument_step_of_more : {ss ts : Trees} → InsideOne (RootStep rule) ss ts → InsideOne (RootStep goal) ss ts
  argument_step_of_more = inside_one_of_more (RootStep rule) (RootStep goal) root_step_of_more

-- runs in the arguments of a term, and in an item of an argument list and the items after it
pub run_in_app : {R : Tree → Tree → Type 0} (f : ℕ) {ss ts : Trees} → Run (InsideOne R) ss ts → Run (Inside R) (app f ss) (app f ts)
run_in_app f p = run_along (app f) (λ ss ts d. deep d) p

pub run_in_cons : {R : Tree → Tree → Type 0} {s t : Tree} {ss ts : Trees} → Run (Inside R) s t → Run (InsideOne R) ss ts → Run (InsideOne R) (cons s ss) (cons t ts)
run_in_cons {t = t} {ss = ss} p ps = then (run_along (λ u. cons u ss) (λ u v d. first d) p) (run_along (cons t) (λ us vs d. later d) ps)
