-- How many claims can still come to a tree, and how many entries it makes at most.
use Rattle.std.specs.Prelude.{◌≤◌, ℕ, ◌+◌, ◌*◌, ◌||◌, cond, List, [], ◌∷◌, length}
use Rattle.std.specs.Option.{is_some}
use Rattle.tree_state.specs.strategies.TaskBounds.{tasks_below, tasks_of_all}
use Rattle.tree_state.specs.declared.goal_state.GoalState.{GoalState}
use Rattle.tree_state.specs.tree_definitions.declared.mark.Mark.{Mark}
use Rattle.tree_state.specs.tree_definitions.declared.question.Question.{Question}
use Rattle.tree_state.specs.tree_definitions.Marks.{is_idle}
use Rattle.tree_state.specs.tree_definitions.Questions.{roots}
use Rattle.tree_state.specs.tree_definitions.States.{TreeNode}
use Rattle.tree_state.specs.Parts.{Parts, is_lost_in, is_done_by}

abbrev pub count_idle : List Mark → ℕ
count_idle [] = 0
count_idle (m ∷ marks) = cond (is_idle m) 1 0 + count_idle marks

-- of a node and those below it: none where it is decided or its goal is lost
abbrev pub claims_of : ℕ → List GoalState → TreeNode → ℕ
claims_of pairs goals node = cond (is_some node.decision || is_lost_in goals node.goal) 0 (count_idle node.marks + tasks_below pairs node.problem)

abbrev pub claims_of_all : ℕ → List GoalState → List TreeNode → ℕ
claims_of_all pairs goals [] = 0
claims_of_all pairs goals (node ∷ nodes) = claims_of pairs goals node + claims_of_all pairs goals nodes

-- of a tree: none where a verdict stands or it was aborted
abbrev pub claims_left : ℕ → Parts → ℕ
claims_left pairs p = cond (is_done_by p) 0 (claims_of_all pairs p.goals p.state.nodes)

-- The entries, one more for each ticket that runs, and two for each claim that can still come, are no more than two for
-- each task of the goals; `pairs` is the number of dependency pairs.
pub record IsBounded (question : Question) (pairs : ℕ) (p : Parts) : Type 0 where
  pub within : length p.history + p.running + 2 * claims_left pairs p ≤ 2 * tasks_of_all pairs (roots question)
