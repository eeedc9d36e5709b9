use Rattle.std.proofs.Common.{subst}
use Rattle.worker_pool.specs.tree_definitions.declared.question.Question.{Question}
use Rattle.worker_pool.specs.tree_definitions.Reports.{IsTrueReport}
use Rattle.sampling.specs.Judged.{left_open}
use Rattle.sampling.proofs.judging.judge_lost.Goals as goal

pub returns-clause-is_true : goal.returns-clause-is_true
returns-clause-is_true c =
    let tree = c.args.tree.now in
    let (parts, is) = c.lost_goals_have_a_true_report.ensures in
    left_open parts (subst (λ (q : Question). IsTrueReport tree.system q tree.budget parts) c.requires.question is)
