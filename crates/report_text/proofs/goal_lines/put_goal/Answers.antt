use Rattle.std.proofs.Common.{[], map}
use Rattle.step_text.specs.cert_step.ProofProblem.{problem_of}
use Rattle.step_text.specs.cert_step.ProofStep.{node_step_of}
use Rattle.step_text.specs.Steps.{step_item}
use Rattle.tree_definitions.specs.Reports.{failed_of}
use Rattle.report_text.specs.GoalLines.{stuck_item, failed_item}
use Rattle.report_text.proofs.GoalTexts.{goal_put}
use Rattle.report_text.proofs.goal_lines.put_goal.Goals as goal

pub returns : goal.returns
returns c =
    let part = c.args.goal.now in
    goal_put c.args.word.now (map (step_item c.args.system.now []) (map node_step_of part.steps.items)) (stuck_item part.node (problem_of part.problem))
    (map failed_item (map failed_of part.failed.items)) _ _ _ _ _ _ _ c.in_ok-put.ensures c.in_ok-put-2.ensures (rw c.deref.ensures.value at c.in_ok-put_steps.ensures)
    c.in_ok-put_stuck.ensures (rw c.deref-2.ensures.value at c.in_ok-put_failures.ensures) c.in_ok-put-3.ensures
