-- The state of a proof tree, as plain data.
use Rattle.std.specs.Prelude.{◌≡◌, ◌+◌, ◌<◌, ◌≤◌, ℕ, Bool, false, List, [], ◌∷◌, map, Option, Some, None, slice_get, slice_set}
use Rattle.strategies.specs.declared.strategy.Strategy.{Strategy}
use Rattle.strategies.specs.cert_step.ProofProblem.{ProofProblem}
use Rattle.strategies.specs.cert_step.ProofStep.{ProofStep}
use Rattle.strategies.specs.Kinds.{strategies_for}
use Rattle.tree_definitions.specs.declared.mark.Mark.{Mark}
use Rattle.tree_definitions.specs.declared.mark.Mark.TheVariants.{Idle}
use Rattle.tree_definitions.specs.declared.ticket.Ticket.{Ticket}
use Rattle.tree_definitions.specs.declared.question.Question.{Question}
use Rattle.tree_definitions.specs.Questions.{roots}

-- a step that decided a node, and the node's children: so many, from the first on
pub record Decided : Type 0 where
  pub step : ProofStep
  pub first : ℕ
  pub count : ℕ

-- a problem of a goal, the step that decided it, if there is one, and a mark for each of its problem's strategies, in order
pub record TreeNode : Type 0 where
  pub goal : ℕ
  pub problem : ProofProblem
  pub decision : Option Decided
  pub marks : List Mark

-- nodes and tickets by their numbers, the goal that was won first, if there is one, and whether the tree was aborted
pub record State : Type 0 where
  pub nodes : List TreeNode
  pub tickets : List Ticket
  pub winner : Option ℕ
  pub is_aborted : Bool

-- an open node, of which no strategy was tried
abbrev pub new_node : ℕ → ProofProblem → TreeNode
new_node goal p = record { goal = goal; problem = p; decision = None; marks = map (λ _. Idle) (strategies_for p) }

abbrev pub roots_from : ℕ → List ProofProblem → List TreeNode
roots_from goal [] = []
roots_from goal (p ∷ ps) = new_node goal p ∷ roots_from (goal + 1) ps

-- one node for each goal, which is its root
abbrev pub opening : Question → State
opening question = record { nodes = roots_from 0 (roots question); tickets = []; winner = None; is_aborted = false }

abbrev pub IsChild : Decided → ℕ → Type 0
IsChild d c = (d.first ≤ c) × (c < d.first + d.count)

-- the node when its strategy at a place has this mark
abbrev pub marked : TreeNode → ℕ → Mark → TreeNode
marked node place mark = record node { marks = slice_set node.marks place mark }

-- the ticket's task is this strategy of this problem
pub record HasTask (s : State) (number : ℕ) (problem : ProofProblem) (strategy : Strategy) : Type 0 where
  pub ticket : Ticket
  pub there : slice_get s.tickets number ≡ Some ticket
  pub node : TreeNode
  pub made : slice_get s.nodes ticket.node ≡ Some node
  pub problem_is : node.problem ≡ problem
  pub strategy_is : slice_get (strategies_for node.problem) ticket.place ≡ Some strategy
