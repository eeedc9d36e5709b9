-- Parallel steps. (Huet, Confluent reductions, 1980; Baader and Nipkow, section 6.4.)
use Rattle.std.specs.Prelude.{ℕ, List}
use Rattle.trs_defs.specs.Tree.{Tree, Trees, var, app, nil, cons}
use Rattle.trs_defs.specs.System.{RewriteRule, Among}
use Rattle.trs_defs.specs.Step.{RootStep}

-- R at some places of a term of which none is below another, or at none
mutual
  pub data ParallelStep (R : Tree → Tree → Type 0) : Tree → Tree → Type 0 where
    at_variable : {v : ℕ} → ParallelStep R (var v) (var v)
    at_root : {s t : Tree} → R s t → ParallelStep R s t
    below_root : {f : ℕ} {ss ts : Trees} → ParallelSteps R ss ts → ParallelStep R (app f ss) (app f ts)

  -- a parallel step in each item of an argument list
  pub data ParallelSteps (R : Tree → Tree → Type 0) : Trees → Trees → Type 0 where
    no_more : ParallelSteps R nil nil
    one_more : {s t : Tree} {ss ts : Trees} → ParallelStep R s t → ParallelSteps R ss ts → ParallelSteps R (cons s ss) (cons t ts)

-- a parallel step of these rules
abbrev pub ParallelStepBy : List RewriteRule → Tree → Tree → Type 0
ParallelStepBy rules = ParallelStep (RootStep (Among rules))
