use Rattle.std.proofs.Common.{◌≡◌, ◌∙◌, ap}
use Rattle.std.proofs.lemmas.Result.{IfOk-weaker}
use Rattle.worker_pool.specs.tree_definitions.Trees.{ProofTree}
use Rattle.sampling.specs.Judged.{IsTrueJudgement}
use Rattle.sampling.proofs.WonGoals.{judged_in}
use Rattle.sampling.proofs.judging.judge_with.Goals as goal

pub returns : goal.returns
returns g c =
    let same : c.tree.result.now ≡ c.in_ok-finished.finished = c.tree.ensures.tree in
    record {
      is_true = IfOk-weaker c.judgement_of.result _ (IsTrueJudgement c.args.trs.now c.args.budget)
          (λ judgement. judged_in c.args.trs.now c.args.budget c.tree.result.now judgement
          (ap (λ (t : ProofTree). t.system) same ∙ c.in_ok-finished.ensures.system) (ap (λ (t : ProofTree). t.budget) same ∙ c.in_ok-finished.ensures.budget))
          c.judgement_of.ensures.is_true;
    }
