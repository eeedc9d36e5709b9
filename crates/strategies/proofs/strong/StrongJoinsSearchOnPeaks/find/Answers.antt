use Rattle.std.specs.Prelude.{[]}
use Rattle.conf_find.specs.join_find.StrongRow.{FindsStrong}
use Rattle.cert_step.specs.ProofProblem as problem
use Rattle.cert_step.specs.ProofStep as step
use Rattle.strategies.specs.declared.strategy.Strategy.TheVariants as strategy
use Rattle.strategies.specs.Rows.{peaks_fail}
use Rattle.strategies.specs.Conditions.{strong_is_not_there}
use Rattle.strategies.specs.Runs.{found}
use Rattle.strategies.proofs.Answering.{answers_for_peaks}
use Rattle.strategies.proofs.TrueRows.{strong_true}
use Rattle.strategies.proofs.strong.StrongJoinsSearchOnPeaks.find.Goals as goal

pub returns-clause-answer : goal.returns-clause-answer
returns-clause-answer g c =
    let system = c.args.trs.now in
    let peaks = c.args.peaks.now in
    let budget = c.args._budget in
    answers_for_peaks c.strong_among.result system budget strategy.Strong problem.cr (λ it. FindsStrong system.rules peaks it.items) (λ it. found (step.strong it.items) []) _ _
    (λ it h. strong_true system budget it.items c.found_fours_join.ensures (record { peaks = peaks; listed = c.requires.peaks; found = h }))
    (λ h. strong_is_not_there (peaks_fail peaks c.requires.peaks h)) c.strong_among.ensures.answer
