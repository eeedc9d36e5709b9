use Rattle.std.proofs.Common.{◌≡◌, map, length, ap, arith}
use Rattle.std.proofs.lemmas.List.{length-map}
use Rattle.tree_state.specs.tree_definitions.Questions.{goal_count}
use Rattle.tree_state.specs.tree_definitions.Trees.{ProofTree}
use Rattle.tree_state.specs.tree_definitions.Reports.{part_of}
use Rattle.tree_core.proofs.GoalParts.{parts_more, parts_of_tree, parts_well_made, parts_true}
use Rattle.tree_core.proofs.tree.Tree.report.Goals as goal

pub loop-goal-preserved : goal.loop-goal-preserved
loop-goal-preserved c =
    parts_more c.args.self.now c.loop-goal.goals.items c.push.new.self.items c.loop-goal.goal c.in_ok-part.part c.loop-goal.invariant.0 c.loop-goal.invariant.1
    c.in_ok-push.ensures.items c.in_ok-part.ensures

pub returns-clause-of_tree : goal.returns-clause-of_tree
returns-clause-of_tree c = λ g part there. (c.loop-goal.invariant.1 g part there).of_tree

pub returns-clause-well_made : goal.returns-clause-well_made
returns-clause-well_made c = λ g part there. (c.loop-goal.invariant.1 g part there).well_made

pub returns-clause-is_true : goal.returns-clause-is_true
returns-clause-is_true c =
    let same : goal_count c.self.inside.question ≡ goal_count c.args.self.now.question = ap (λ (t : ProofTree). goal_count t.question) c.self.view_is in
    let count : length c.goals_of.result.now ≡ goal_count c.self.inside.question = ap length c.goals_of.ensures in
    let len = length-map c.loop-goal.goals.items part_of in
    parts_true c.args.self.now (map part_of c.loop-goal.goals.items)
    (omega (arith, len, c.loop-goal.invariant.0, c.loop-goal-test.false, c.loop-goal.auto.goal-end, count, same)) c.loop-goal.invariant.1
