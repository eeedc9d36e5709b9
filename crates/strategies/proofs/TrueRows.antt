-- What each strategy finds is true of the system.
use Rattle.std.specs.Prelude.{◌≡◌, ℕ, List, [], ◌∷◌, IsTrue}
use Rattle.std.proofs.Common.{refl, subst, sym, inl, inr}
use Rattle.trs_defs.specs.Member.{In}
use Rattle.trs_defs.proofs.Members.{in_or, no_in}
use Rattle.trs_defs.specs.Tree.{Tree}
use Rattle.trs_defs.specs.Path.{PlacedRule}
use Rattle.trs_defs.specs.System.{System, IsSystem}
use Rattle.trs_core.specs.SystemLimits.{IsWithinLimits}
use Rattle.rewrite_core.specs.Check.{holds, returned, goes_on}
use Rattle.rewrite_core.specs.PathsOfJoin.{PathsOfJoin}
use Rattle.cert_step.specs.closed_pairs.StronglyClosed.{FourPaths}
use Rattle.loop_find.specs.LoopRow.{FindsLoop}
use Rattle.loop_find.specs.Laws.{FoundLoopsAreLoops}
use Rattle.conf_find.specs.join_find.NewmanRow.{FindsNewman}
use Rattle.conf_find.specs.join_find.ParallelRow.{FindsParallel}
use Rattle.conf_find.specs.join_find.StrongRow.{FindsStrong}
use Rattle.conf_find.specs.join_find.Laws.{FoundJoinsJoin, FoundFoursJoin, FoundStepsClose}
use Rattle.conf_find.specs.label_find.LabelRow.{FindsLabel}
use Rattle.conf_find.specs.label_find.Laws.{FoundLabelsApply}
use Rattle.conf_find.specs.Fork.{Fork}
use Rattle.conf_find.specs.ForkRows.{FindsFork, FindsSplit}
use Rattle.conf_find.specs.Laws.{FoundForksApply, FoundSplitsApply}
use Rattle.cert_step.specs.ProofProblem as problem
use Rattle.cert_step.specs.ProofProblem.{ProofProblem, IsWellMadeProblem}
use Rattle.cert_step.specs.ProofStep as step
use Rattle.cert_step.specs.ProofStep.{ProofStep, IsWellMade}
use Rattle.cert_step.specs.Applies.{Applies}
use Rattle.cert_step.specs.Subproblems.{AreWellMadeProblems}
use Rattle.cert_step.specs.ForkKind.{for_fork}
use Rattle.rewrite_core.specs.declared.checks.forks.ForkTest.{ForkTest}
use Rattle.rewrite_core.specs.declared.checks.forks.ForkTest.TheVariants.{Normal, Apart}
use Rattle.strategies.specs.declared.strategy.Strategy.{Strategy}
use Rattle.strategies.specs.declared.strategy.Strategy.TheVariants as strategy
use Rattle.strategies.specs.Rows.{FindsOnPeaks}
use Rattle.strategies.specs.Conditions.{Finds, fork_step, loop_is_found, parallel_is_found, strong_is_found, label_is_found, newman_is_found, fork_is_found, split_is_found}
use Rattle.strategies.specs.declared.outcome.Findings.{Findings}
use Rattle.strategies.specs.Kinds.{strategies_for}
use Rattle.strategies.specs.Truth.{IsFound, AreTrueFindings, IsTrueRun, found_of}

pub each_well_made : (system : System) (left : List ProofProblem) → AreWellMadeProblems system left → (q : ProofProblem) → In q left → IsWellMadeProblem system q
each_well_made system [] well q i = absurd (no_in i)
each_well_made system (p ∷ left) well q i = elim (in_or i) [
  | inl same ↦ subst (IsWellMadeProblem system) (sym same) well.0
  | inr later ↦ each_well_made system left well.1 q later
]

module _ (system : System) (budget : ℕ) where
  none_left : (s : Strategy) (p : ProofProblem) (st : ProofStep) → Finds system budget s p st → Applies system p st [] → IsWellMade system st
      → IsFound system budget s p st []
  none_left s p st finds applies made = record { finds = finds; applies = applies; step_well_made = made; left_well_made = λ q i. absurd (no_in i) }

  pub loop_true : (start : Tree) (path : List PlacedRule) (place : List ℕ) → IsSystem system → IsWithinLimits system → FoundLoopsAreLoops
      → FindsLoop system.rules budget start path place → IsFound system budget strategy.Loop problem.loop (step.loop start path place) []
  loop_true start path place valid limits law h =
      let l = law system budget start path place valid limits h in
      none_left strategy.Loop problem.loop (step.loop start path place) (loop_is_found h)
      (goes_on tt _ (holds refl) (goes_on tt _ l.conditions returned)) (l.well_formed, l.small)

  pub parallel_true : (items : List (List PlacedRule)) → FoundStepsClose → FindsOnPeaks system (λ peaks. FindsParallel system.rules peaks items)
      → IsFound system budget strategy.Parallel problem.cr (step.parallel items) []
  parallel_true items law h =
      none_left strategy.Parallel problem.cr (step.parallel items) (parallel_is_found h)
      (goes_on tt _ (holds refl) (goes_on tt _ (law system h.peaks items h.listed h.found) returned)) tt

  pub strong_true : (items : List FourPaths) → FoundFoursJoin → FindsOnPeaks system (λ peaks. FindsStrong system.rules peaks items)
      → IsFound system budget strategy.Strong problem.cr (step.strong items) []
  strong_true items law h =
      none_left strategy.Strong problem.cr (step.strong items) (strong_is_found h)
      (goes_on tt _ (holds refl) (goes_on tt _ (law system h.peaks items h.listed h.found) returned)) tt

  pub label_true : (ranks : List ℕ) (items : List PathsOfJoin) → FoundLabelsApply → FindsOnPeaks system (λ peaks. FindsLabel system.rules peaks budget ranks items)
      → IsFound system budget strategy.Label problem.cr (step.label ranks items) []
  label_true ranks items law h =
      let l = law system h.peaks budget ranks items h.listed h.found in
      none_left strategy.Label problem.cr (step.label ranks items) (label_is_found h)
      (goes_on tt _ (holds refl) (goes_on tt _ l.conditions returned)) l.well_made

  pub newman_true : (items : List PathsOfJoin) → FoundJoinsJoin → FindsOnPeaks system (λ peaks. FindsNewman system.rules peaks items)
      → IsFound system budget strategy.Newman problem.cr_newman (step.newman items) (problem.sn ∷ [])
  newman_true items law h = record {
    finds = newman_is_found h;
    applies = goes_on tt _ (holds refl) (goes_on tt _ (law system h.peaks items h.listed h.found) returned);
    step_well_made = tt;
    left_well_made = each_well_made system (problem.sn ∷ []) (tt, tt);
  }

  for_any_fork : (test : ForkTest) → IsTrue (for_fork test problem.fork)
  for_any_fork Normal = refl
  for_any_fork Apart = refl

  pub fork_true : (fork : Fork) → IsSystem system → FoundForksApply → FindsOnPeaks system (λ peaks. FindsFork system.rules peaks fork)
      → IsFound system budget strategy.Fork problem.fork (fork_step fork) []
  fork_true fork valid law h =
      let l = law system h.peaks fork valid h.listed h.found in
      none_left strategy.Fork problem.fork (fork_step fork) (fork_is_found h)
      (goes_on tt _ (holds (for_any_fork fork.test)) (goes_on tt _ l.conditions returned)) l.well_made

  pub split_true : (fork : Fork) → IsSystem system → FoundSplitsApply → FindsOnPeaks system (λ peaks. FindsSplit system.rules peaks fork)
      → IsFound system budget strategy.Split problem.split (fork_step fork) []
  split_true fork valid law h =
      let l = law system h.peaks fork valid h.listed h.found in
      none_left strategy.Split problem.split (fork_step fork) (split_is_found h)
      (goes_on tt _ (holds (subst (λ test. IsTrue (for_fork test problem.split)) (sym l.1) refl)) (goes_on tt _ l.0.conditions returned)) l.0.well_made

-- an outcome is true of the problem that was handed in
pub true_run : (system : System) (budget : ℕ) (p q : ProofProblem) (s : Strategy) (findings : Findings) → q ≡ p → In s (strategies_for p)
    → AreTrueFindings system budget s p findings
    → IsTrueRun (record { system = system; budget = budget; problem = q; strategy = s; found = found_of findings })
true_run system budget p q s findings same kind are =
    subst (λ x. IsTrueRun (record { system = system; budget = budget; problem = x; strategy = s; found = found_of findings })) (sym same)
    (record { kind = kind; holds = are })
