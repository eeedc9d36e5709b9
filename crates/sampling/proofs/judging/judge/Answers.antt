use Rattle.std.proofs.Common.{◌≡◌, ◌∙◌, ap, subst}
use Rattle.std.proofs.lemmas.Result.{IfOk-weaker}
use Rattle.worker_pool.specs.tree_definitions.declared.question.Question.TheVariants.{Termination}
use Rattle.worker_pool.specs.tree_definitions.Trees.{ProofTree}
use Rattle.worker_pool.proofs.SerialEnds.{serial_end}
use Rattle.sampling.specs.Judged.{IsTrueJudgement, IsSerialJudgement, IsJudgementOf}
use Rattle.sampling.proofs.WonGoals.{judged_in}
use Rattle.sampling.proofs.judging.judge.Goals as goal

pub returns-clause-is_true : goal.returns-clause-is_true
returns-clause-is_true c =
    let same : c.tree.result.now ≡ c.in_ok-finished.finished = c.tree.ensures.tree in
    IfOk-weaker c.judgement_of.result _ (IsTrueJudgement c.args.trs.now c.args.budget)
    (λ judgement. judged_in c.args.trs.now c.args.budget c.tree.result.now judgement
    (ap (λ (t : ProofTree). t.system) same ∙ c.in_ok-finished.ensures.system) (ap (λ (t : ProofTree). t.budget) same ∙ c.in_ok-finished.ensures.budget))
    c.judgement_of.ensures.is_true

pub returns-clause-serial : goal.returns-clause-serial
returns-clause-serial c =
    let system = c.args.trs.now in
    let finished = c.in_ok-finished.finished in
    let same : c.tree.result.now ≡ finished = c.tree.ensures.tree in
    let end = serial_end system Termination c.args.budget finished c.in_ok-finished.ensures.system c.in_ok-finished.ensures.question c.in_ok-finished.ensures.serial
    c.tree.ensures.replays c.tree.ensures.verdict in
    IfOk-weaker c.judgement_of.result (IsJudgementOf c.tree.result.now.state) (IsSerialJudgement system c.args.budget)
    (λ judgement judged. record { state = finished.state; ends = end; judged = subst (λ (t : ProofTree). IsJudgementOf t.state judgement) same judged })
    c.judgement_of.ensures.of_tree
