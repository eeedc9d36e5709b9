-- What is true of the parts of each tree.
use Rattle.std.specs.Prelude.{◌≡◌, ◌+◌, ◌<◌, ◌≤◌, ◌&&◌, ℕ, Bool, true, false, eqb, cond, List, [], ◌∷◌, length, Some, None, slice_get}
use Rattle.std.specs.Option.{is_none}
use Rattle.trs_defs.specs.System.{System}
use Rattle.trs_core.specs.Valid.{IsValid}
use Rattle.tree_state.specs.cert_step.ProofProblem.{ProofProblem, IsWellMadeProblem}
use Rattle.tree_state.specs.strategies.declared.strategy.Strategy.{Strategy}
use Rattle.tree_state.specs.strategies.Kinds.{strategies_for}
use Rattle.tree_state.specs.declared.goal_state.GoalState.{GoalState}
use Rattle.tree_state.specs.tree_definitions.declared.mark.Mark.TheVariants.{Running}
use Rattle.tree_state.specs.tree_definitions.declared.ticket.Ticket.{Ticket}
use Rattle.tree_state.specs.tree_definitions.declared.question.Question.{Question}
use Rattle.tree_state.specs.tree_definitions.Questions.{goal_count, roots}
use Rattle.tree_state.specs.tree_definitions.History.{HistoryEntry, mentions, of_seat, IsOwned, IsGiven}
use Rattle.tree_state.specs.tree_definitions.States.{TreeNode, State, Decided, IsChild, HasTask, opening}
use Rattle.tree_state.specs.tree_definitions.Verdicts.{IsWon, IsLost}
use Rattle.tree_state.specs.tree_definitions.Events.{Replays}
use Rattle.tree_state.specs.tree_definitions.Legal.{IsLegal, Carries}
use Rattle.tree_state.specs.Parts.{Parts, free_place, is_done_by}
use Rattle.tree_state.specs.strategies.TaskBounds.{pairs_in}
use Rattle.tree_core.specs.Bound.{IsBounded}

-- node n is of this goal
pub record IsOf (nodes : List TreeNode) (n goal : ℕ) : Type 0 where
  pub node : TreeNode
  pub there : slice_get nodes n ≡ Some node
  pub goal_is : node.goal ≡ goal

-- a ticket runs this strategy
pub record IsHeld (tickets : List Ticket) (n place : ℕ) : Type 0 where
  pub number : ℕ
  pub ticket : Ticket
  pub there : slice_get tickets number ≡ Some ticket
  pub runs : ticket.is_running ≡ true
  pub node_is : ticket.node ≡ n
  pub place_is : ticket.place ≡ place

-- the strategy at this place of node n runs
pub record IsRunningAt (nodes : List TreeNode) (n place : ℕ) : Type 0 where
  pub node : TreeNode
  pub there : slice_get nodes n ≡ Some node
  pub mark : slice_get node.marks place ≡ Some Running

-- the goals' trees, and the marks of their nodes
pub record IsShaped (goals : ℕ) (s : State) : Type 0 where
  pub root : (g : ℕ) → g < goals → IsOf s.nodes g g
  pub range : (n : ℕ) (node : TreeNode) → slice_get s.nodes n ≡ Some node → node.goal < goals
  pub fits : (n : ℕ) (node : TreeNode) → slice_get s.nodes n ≡ Some node → length node.marks ≡ length (strategies_for node.problem)
  pub later : (m : ℕ) (node : TreeNode) (d : Decided) → slice_get s.nodes m ≡ Some node → node.decision ≡ Some d
      → (c : ℕ) → IsChild d c → (m < c) × IsOf s.nodes c node.goal
  pub runs : (number : ℕ) (t : Ticket) → slice_get s.tickets number ≡ Some t → t.is_running ≡ true → IsRunningAt s.nodes t.node t.place
  pub held : (n place : ℕ) → IsRunningAt s.nodes n place → IsHeld s.tickets n place

-- how many nodes of the goal are open
abbrev pub opens : ℕ → List TreeNode → ℕ
opens g [] = 0
opens g (n ∷ ns) = cond (is_none n.decision && eqb n.goal g) 1 0 + opens g ns

abbrev pub count_running : List Ticket → ℕ
count_running [] = 0
count_running (t ∷ ts) = cond t.is_running 1 0 + count_running ts

-- the counts and flags of a goal are right
pub record IsCounted (nodes : List TreeNode) (g : ℕ) (goal : GoalState) : Type 0 where
  pub open_is : goal.open_nodes ≡ opens g nodes
  pub lost : goal.is_lost ≡ true → IsLost nodes g
  pub not_lost : IsLost nodes g → goal.is_lost ≡ true

pub record AreCounted (goals : ℕ) (p : Parts) : Type 0 where
  pub length_is : length p.goals ≡ goals
  pub each : (g : ℕ) (goal : GoalState) → slice_get p.goals g ≡ Some goal → IsCounted p.state.nodes g goal
  pub winner : (g : ℕ) → p.state.winner ≡ Some g → (g < goals) × IsWon p.state.nodes g
  pub no_winner : p.state.winner ≡ None → (g : ℕ) → g < goals → IsWon p.state.nodes g → ⊥
  pub only : (g : ℕ) → g < goals → IsWon p.state.nodes g → p.state.winner ≡ Some g
  pub running : p.running ≡ count_running p.state.tickets
  pub room : p.running ≤ p.room
  pub cursor : p.cursor ≤ length p.state.nodes
  pub passed : is_done_by p ≡ false → (k : ℕ) (node : TreeNode) → k < p.cursor → slice_get p.state.nodes k ≡ Some node
      → free_place p.goals node ≡ None

abbrev pub told : Bool → ℕ
told true = 1
told false = 2

-- the history has the claim of each ticket, and its ending where it does not run, all of the ticket's seat
pub record IsTold (history : List HistoryEntry) (tickets : List Ticket) : Type 0 where
  pub told_is : (number : ℕ) (t : Ticket) → slice_get tickets number ≡ Some t → mentions number history ≡ told t.is_running
  pub none : (number : ℕ) → length tickets ≤ number → mentions number history ≡ 0
  pub seats : (number : ℕ) (t : Ticket) → slice_get tickets number ≡ Some t → mentions number (of_seat t.seat history) ≡ mentions number history
  pub owned : IsOwned history

-- each ticket's task is that for which it was given
abbrev pub AreTasks : List HistoryEntry → State → Type 0
AreTasks history s =
    (seat number : ℕ) (problem : ProofProblem) (strategy : Strategy) → IsGiven history seat number problem strategy
    → HasTask s number problem strategy

pub record IsTree (question : Question) (system : System) (budget : ℕ) (p : Parts) : Type 0 where
  pub valid : IsValid system
  pub replays : Replays (goal_count question) system (opening question) p.history p.state
  pub legal : IsLegal (goal_count question) system budget p.state
  pub well_made : (n : ℕ) (node : TreeNode) → slice_get p.state.nodes n ≡ Some node → IsWellMadeProblem system node.problem
  pub rooted : (g : ℕ) (q : ProofProblem) → slice_get (roots question) g ≡ Some q → Carries p.state.nodes g g q
  pub shaped : IsShaped (goal_count question) p.state
  pub counted : AreCounted (goal_count question) p
  pub is_told : IsTold p.history p.state.tickets
  pub given : AreTasks p.history p.state
  pub bounded : IsBounded question (pairs_in system) p
