use Rattle.std.specs.Prelude.{[]}
use Rattle.conf_find.specs.ForkRows.{FindsFork}
use Rattle.conf_find.specs.Fork.{fork_of}
use Rattle.cert_step.specs.ProofProblem as problem
use Rattle.strategies.specs.declared.strategy.Strategy.TheVariants as strategy
use Rattle.strategies.specs.Rows.{peaks_fail}
use Rattle.strategies.specs.Conditions.{fork_step, fork_is_not_there}
use Rattle.strategies.specs.Runs.{found}
use Rattle.strategies.proofs.Answering.{answers_for_peaks}
use Rattle.strategies.proofs.TrueRows.{fork_true}
use Rattle.strategies.proofs.fork.ForksSearchOnPeaks.find.Goals as goal

pub returns-clause-answer : goal.returns-clause-answer
returns-clause-answer g c =
    let system = c.args.trs.now in
    let peaks = c.args.peaks.now in
    let budget = c.args._budget in
    answers_for_peaks c.fork_among.result system budget strategy.Fork problem.fork (λ it. FindsFork system.rules peaks (fork_of it)) (λ it. found (fork_step (fork_of it)) []) _ _
    (λ it h. fork_true system budget (fork_of it) c.systems_are_valid.ensures.valid c.found_forks_apply.ensures (record { peaks = peaks; listed = c.requires.peaks; found = h }))
    (λ h. fork_is_not_there (peaks_fail peaks c.requires.peaks h)) c.fork_among.ensures.answer
