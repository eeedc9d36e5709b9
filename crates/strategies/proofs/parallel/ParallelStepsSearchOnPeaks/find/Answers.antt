use Rattle.std.specs.Prelude.{[]}
use Rattle.conf_find.specs.join_find.ParallelRow.{FindsParallel}
use Rattle.cert_step.specs.closed_pairs.ParallelClosed.{paths_of}
use Rattle.cert_step.specs.ProofProblem as problem
use Rattle.cert_step.specs.ProofStep as step
use Rattle.strategies.specs.declared.strategy.Strategy.TheVariants as strategy
use Rattle.strategies.specs.Rows.{peaks_fail}
use Rattle.strategies.specs.Conditions.{parallel_is_not_there}
use Rattle.strategies.specs.Runs.{found}
use Rattle.strategies.proofs.Answering.{answers_for_peaks}
use Rattle.strategies.proofs.TrueRows.{parallel_true}
use Rattle.strategies.proofs.parallel.ParallelStepsSearchOnPeaks.find.Goals as goal

pub returns-clause-answer : goal.returns-clause-answer
returns-clause-answer g c =
    let system = c.args.trs.now in
    let peaks = c.args.peaks.now in
    let budget = c.args._budget in
    answers_for_peaks c.parallel_among.result system budget strategy.Parallel problem.cr (λ it. FindsParallel system.rules peaks (paths_of it.items)) (λ it. found (step.parallel (paths_of it.items)) []) _ _
    (λ it h. parallel_true system budget (paths_of it.items) c.found_steps_close.ensures (record { peaks = peaks; listed = c.requires.peaks; found = h }))
    (λ h. parallel_is_not_there (peaks_fail peaks c.requires.peaks h)) c.parallel_among.ensures.answer
