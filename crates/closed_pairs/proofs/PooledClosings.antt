-- An item that closes a peak of a pool by a parallel step.
use Rattle.std.specs.Prelude.{◌≡◌, ℕ, List, Result, Ok}
use Rattle.std.proofs.Common.{subst}
use Rattle.trs_defs.specs.Tree.{Tree}
use Rattle.trs_defs.specs.System.{RewriteRule}
use Rattle.trs_defs.specs.Path.{PlacedRule}
use Rattle.rewrite_core.specs.PlacedPeak.{PlacedPeak}
use Rattle.rewrite_core.specs.PathCheck.{Runs}
use Rattle.rewrite_core.specs.declared.checks.refusals.StepRefused.TheVariants.{EndsDiffer}
use Rattle.rewrite_core.specs.declared.checks.refusals.CheckFault.{CheckFault}
use Rattle.rewrite_core.specs.Check.{Answers, Refuses, Needs, holds}
use Rattle.rewrite_core.proofs.Answering.{refused_first, refused_later, then_answers}
use Rattle.closed_pairs.specs.ParallelClosed.{IsParallel, closes_in_parallel}

-- its path begins at a term that is the left side of the peak
module _ (rules : List RewriteRule) (n : ℕ) (p : PlacedPeak) (path : List PlacedRule) (parallel : IsParallel path) (s : Tree) (start : s ≡ p.left) where
  pub path_refused : (fault : CheckFault) → Refuses (Runs rules s path n 0) fault → Refuses (closes_in_parallel rules n p path) fault
  path_refused fault h = refused_later _ _ fault tt (holds parallel) (refused_first _ _ fault (subst (λ t. Refuses (Runs rules t path n 0) fault) start h))

  pub end_answers : (u v : Tree) (answer : Result (Unit {0}) CheckFault) → Runs rules s path n 0 (Ok u) → v ≡ p.right → Answers (Needs (u ≡ v) (EndsDiffer n)) answer → Answers (closes_in_parallel rules n p path) answer
  end_answers u v answer run same h =
      then_answers _ _ (λ x. x) tt answer (holds parallel)
      (then_answers _ _ (λ x. x) u answer (subst (λ t. Runs rules t path n 0 (Ok u)) start run) (subst (λ x. Answers (Needs (u ≡ x) (EndsDiffer n)) answer) same h))
