use Rattle.std.specs.Prelude.{[], ◌∷◌}
use Rattle.conf_find.specs.join_find.NewmanRow.{FindsNewman}
use Rattle.cert_step.specs.ProofProblem as problem
use Rattle.cert_step.specs.ProofStep as step
use Rattle.strategies.specs.declared.strategy.Strategy.TheVariants as strategy
use Rattle.strategies.specs.Rows.{peaks_fail}
use Rattle.strategies.specs.Conditions.{newman_is_not_there}
use Rattle.strategies.specs.Runs.{found}
use Rattle.strategies.proofs.Answering.{answers_for_peaks}
use Rattle.strategies.proofs.TrueRows.{newman_true}
use Rattle.strategies.proofs.newman.JoinsSearchOnPeaks.find.Goals as goal

pub returns-clause-answer : goal.returns-clause-answer
returns-clause-answer g c =
    let system = c.args.trs.now in
    let peaks = c.args.peaks.now in
    let budget = c.args._budget in
    answers_for_peaks c.newman_among.result system budget strategy.Newman problem.cr_newman (λ it. FindsNewman system.rules peaks it.items) (λ it. found (step.newman it.items) (problem.sn ∷ [])) _ _
    (λ it h. newman_true system budget it.items c.found_joins_join.ensures (record { peaks = peaks; listed = c.requires.peaks; found = h }))
    (λ h. newman_is_not_there (peaks_fail peaks c.requires.peaks h)) c.newman_among.ensures.answer
