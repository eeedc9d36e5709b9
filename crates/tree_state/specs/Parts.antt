-- What is seen of the parts of a tree that change.
use Rattle.std.specs.Prelude.{◌≡◌, ◌+◌, ◌-◌, ◌<◌, ◌==◌, ℕ, Bool, true, false, ◌||◌, not, cond, List, [], ◌∷◌, ◌++◌, length, Option, Some, None, slice_get, slice_set, position}
use Rattle.std.specs.Option.{is_some}
use Rattle.std.specs.List.{list_all}
use Rattle.tree_definitions.specs.cert_step.ProofProblem.{ProofProblem}
use Rattle.tree_definitions.specs.cert_step.ProofStep.{ProofStep}
use Rattle.tree_definitions.specs.strategies.declared.failure.Failure.{Failure}
use Rattle.tree_definitions.specs.strategies.declared.strategy.Strategy.{Strategy}
use Rattle.tree_state.specs.declared.goal_state.GoalState.{GoalState}
use Rattle.tree_definitions.specs.declared.mark.Mark.{Mark}
use Rattle.tree_definitions.specs.declared.mark.Mark.TheVariants.{Idle, Failed}
use Rattle.tree_definitions.specs.declared.ticket.Ticket.{Ticket}
use Rattle.tree_definitions.specs.declared.question.Question.{Question}
use Rattle.tree_definitions.specs.Marks.{is_idle, has_failed}
use Rattle.tree_definitions.specs.Questions.{roots}
use Rattle.tree_definitions.specs.History.{HistoryEntry, Event, claimed, found, failed, aborted}
use Rattle.tree_definitions.specs.States.{State, TreeNode, opening}
use Rattle.tree_definitions.specs.Events.{with_claim, ended, without, nodes_with}

-- The history and the state; for each goal how many of its nodes are open and whether it is lost; how many tickets run;
-- for how many entries and nodes there is room; and a node before which nothing can be claimed.
pub record Parts : Type 0 where
  pub history : List HistoryEntry
  pub state : State
  pub goals : List GoalState
  pub running : ℕ
  pub room : ℕ
  pub node_room : ℕ
  pub cursor : ℕ

abbrev pub all_failed : List Mark → Bool
all_failed marks = list_all has_failed marks

abbrev pub all_lost : List GoalState → Bool
all_lost goals = list_all (λ (g : GoalState). g.is_lost) goals

abbrev pub lost_at : Option GoalState → Bool
lost_at None = false
lost_at (Some g) = g.is_lost

-- whether the goal is lost
abbrev pub is_lost_in : List GoalState → ℕ → Bool
is_lost_in goals g = lost_at (slice_get goals g)

-- whether a verdict stands, or the tree was aborted
abbrev pub has_verdict_by : Parts → Bool
has_verdict_by p = is_some p.state.winner || all_lost p.goals

abbrev pub is_done_by : Parts → Bool
is_done_by p = has_verdict_by p || p.state.is_aborted

-- whether no answer is wanted for the node any more
abbrev pub is_over_by : Parts → TreeNode → Bool
is_over_by p node = is_some node.decision || is_lost_in p.goals node.goal || is_done_by p

-- the strategy of the node that can be claimed
abbrev pub free_place : List GoalState → TreeNode → Option ℕ
free_place goals node = cond (is_some node.decision || is_lost_in goals node.goal) None (position is_idle node.marks)

-- the goals when one of them is lost, if this is so
abbrev pub lost_if : Bool → List GoalState → ℕ → List GoalState
lost_if false goals g = goals
lost_if true goals g = set_lost (slice_get goals g)
  where
    set_lost : Option GoalState → List GoalState
    set_lost None = goals
    set_lost (Some goal) = slice_set goals g (record goal { is_lost = true })

-- the goals when a node of this one was decided and so many nodes were made
abbrev pub opened : List GoalState → ℕ → ℕ → List GoalState
opened goals g count = set_open (slice_get goals g)
  where
    set_open : Option GoalState → List GoalState
    set_open None = goals
    set_open (Some goal) = slice_set goals g (record goal { open_nodes = goal.open_nodes - 1 + count })

-- an entry is made, in the room for it
abbrev pub with_entry : Parts → HistoryEntry → Parts
with_entry p e = record p { history = p.history ++ e ∷ []; room = p.room - 1 }

-- the ticket ends, with this entry, and its strategy has this mark
abbrev pub ended_parts : Parts → ℕ → Ticket → TreeNode → Event → Mark → Parts
ended_parts p number t node event mark = record p {
  history = p.history ++ record { seat = t.seat; ticket = number; event = event } ∷ [];
  state = ended p.state number t node mark;
  running = p.running - 1;
  room = p.room - 1;
}

-- the ticket was given and runs, and this is its node; its strategy is one of the node's
pub record HasTicket (p : Parts) (number : ℕ) : Type 0 where
  pub ticket : Ticket
  pub there : slice_get p.state.tickets number ≡ Some ticket
  pub runs : ticket.is_running ≡ true
  pub node : TreeNode
  pub made : slice_get p.state.nodes ticket.node ≡ Some node
  pub place : ticket.place < length node.marks

abbrev pub failed_parts : Parts → ℕ → Ticket → TreeNode → Failure → Parts
failed_parts p number t node failure = record (ended_parts p number t node (failed failure) (Failed failure)) {
  goals = lost_if (all_failed (slice_set node.marks t.place (Failed failure))) p.goals node.goal;
}

abbrev pub aborted_parts : Parts → ℕ → Ticket → TreeNode → Parts
aborted_parts p number t node =
    record (ended_parts p number t node aborted Idle) { state = record (ended p.state number t node Idle) { is_aborted = p.state.is_aborted || not (has_verdict_by p) } }

abbrev pub no_open_nodes : Option GoalState → Bool
no_open_nodes None = false
no_open_nodes (Some goal) = goal.open_nodes == 0

-- the winner when the nodes of this goal were counted
abbrev pub winner_after : List GoalState → ℕ → Option ℕ → Option ℕ
winner_after goals g winner = cond (no_open_nodes (slice_get goals g)) (Some g) winner

abbrev pub decided_parts : Parts → ℕ → Ticket → TreeNode → ProofStep → List ProofProblem → Parts
decided_parts p number t node step left = record (ended_parts p number t node (found step) Idle) {
  state = record p.state {
    nodes = nodes_with p.state t node step left;
    tickets = without p.state.tickets number t;
    winner = winner_after (opened p.goals node.goal (length left)) node.goal p.state.winner;
  };
  goals = opened p.goals node.goal (length left);
}

-- the strategy at this place of the node is claimed, under a new ticket
abbrev pub claimed_parts : Parts → ℕ → ℕ → ℕ → ProofProblem → Strategy → TreeNode → Parts
claimed_parts p seat n place problem strategy node = record p {
  history = p.history ++ record { seat = seat; ticket = length p.state.tickets; event = claimed problem strategy } ∷ [];
  state = with_claim p.state seat n place node;
  running = p.running + 1;
}

abbrev pub fresh_goals : List ProofProblem → List GoalState
fresh_goals [] = []
fresh_goals (p ∷ ps) = record { open_nodes = 1; is_lost = false } ∷ fresh_goals ps

-- the parts of a tree that has no history
pub record IsOpening (question : Question) (p : Parts) : Type 0 where
  pub history : p.history ≡ []
  pub state : p.state ≡ opening question
  pub goals : p.goals ≡ fresh_goals (roots question)
  pub running : p.running ≡ 0
  pub cursor : p.cursor ≡ 0
