-- What each entry of the history does to the state of a proof tree.
use Rattle.std.specs.Prelude.{◌≡◌, ◌<◌, ◌⊎◌, ℕ, true, false, List, [], ◌∷◌, ◌++◌, map, length, Option, Some, None, slice_get, slice_set}
use Rattle.trs_defs.specs.System.{System}
use Rattle.strategies.specs.cert_step.ProofProblem.{ProofProblem}
use Rattle.strategies.specs.cert_step.ProofStep.{ProofStep}
use Rattle.strategies.specs.cert_step.Applies.{Applies}
use Rattle.strategies.specs.declared.strategy.Strategy.{Strategy}
use Rattle.strategies.specs.Kinds.{strategies_for}
use Rattle.tree_definitions.specs.declared.mark.Mark.{Mark}
use Rattle.tree_definitions.specs.declared.mark.Mark.TheVariants.{Idle, Running, Failed}
use Rattle.tree_definitions.specs.declared.ticket.Ticket.{Ticket}
use Rattle.tree_definitions.specs.States.{TreeNode, State, Decided, new_node, marked}
use Rattle.tree_definitions.specs.Verdicts.{IsWon, IsLost, HasVerdict, IsDone, IsFirstWinner}
use Rattle.tree_definitions.specs.History.{HistoryEntry, Event, claimed, found, failed, cancelled, aborted}

-- The strategy at this place of the node can be claimed: the node is open, its goal is neither won nor lost, and the
-- strategy is the first that neither failed nor runs.
pub record IsFree (s : State) (n place : ℕ) (node : TreeNode) : Type 0 where
  pub there : slice_get s.nodes n ≡ Some node
  pub is_open : node.decision ≡ None
  pub not_won : IsWon s.nodes node.goal → ⊥
  pub not_lost : IsLost s.nodes node.goal → ⊥
  pub idle : slice_get node.marks place ≡ Some Idle
  pub first : (k : ℕ) → k < place → slice_get node.marks k ≡ Some Idle → ⊥

-- the state when the seat has claimed the strategy at this place of the node
abbrev pub with_claim : State → ℕ → ℕ → ℕ → TreeNode → State
with_claim s seat n place node = record s {
  nodes = slice_set s.nodes n (marked node place Running);
  tickets = s.tickets ++ record { seat = seat; node = n; place = place; is_running = true } ∷ [];
}

-- a claim: the least node that has such a strategy is taken, and a new ticket is given for it
pub record Claims (goals : ℕ) (s : State) (e : HistoryEntry) (problem : ProofProblem) (strategy : Strategy) (later : State) : Type 0 where
  pub going : IsDone goals s → ⊥
  pub n : ℕ
  pub place : ℕ
  pub node : TreeNode
  pub free : IsFree s n place node
  pub least : (k j : ℕ) (other : TreeNode) → k < n → IsFree s k j other → ⊥
  pub ticket : e.ticket ≡ length s.tickets
  pub problem_is : node.problem ≡ problem
  pub strategy_is : slice_get (strategies_for node.problem) place ≡ Some strategy
  pub after : later ≡ with_claim s e.seat n place node

-- the ticket is running and the seat's, and this is its node
pub record RunsAt (s : State) (e : HistoryEntry) : Type 0 where
  pub ticket : Ticket
  pub there : slice_get s.tickets e.ticket ≡ Some ticket
  pub runs : ticket.is_running ≡ true
  pub seat : ticket.seat ≡ e.seat
  pub node : TreeNode
  pub made : slice_get s.nodes ticket.node ≡ Some node

-- no answer is wanted for the node any more
pub data IsOver (goals : ℕ) (s : State) (node : TreeNode) : Type 0 where
  decided : (d : Decided) → node.decision ≡ Some d → IsOver goals s node
  lost : IsLost s.nodes node.goal → IsOver goals s node
  done : IsDone goals s → IsOver goals s node

-- the tickets when this one has ended
abbrev pub without : List Ticket → ℕ → Ticket → List Ticket
without tickets number t = slice_set tickets number (record t { is_running = false })

-- the state when the ticket has ended, and its strategy has this mark
abbrev pub ended : State → ℕ → Ticket → TreeNode → Mark → State
ended s number t node mark = record s {
  nodes = slice_set s.nodes t.node (marked node t.place mark);
  tickets = without s.tickets number t;
}

-- the nodes when a step has decided this one, and left these problems, which are the next nodes
abbrev pub nodes_with : State → Ticket → TreeNode → ProofStep → List ProofProblem → List TreeNode
nodes_with s t node step left =
    slice_set s.nodes t.node (record (marked node t.place Idle) { decision = Some (record { step = step; first = length s.nodes; count = length left }) })
    ++ map (new_node node.goal) left

-- the step decides the node
pub record Decides (goals : ℕ) (system : System) (s : State) (number : ℕ) (t : Ticket) (node : TreeNode) (step : ProofStep) (later : State) : Type 0 where
  pub left : List ProofProblem
  pub applies : Applies system node.problem step left
  pub winner : Option ℕ
  pub first : IsFirstWinner goals (nodes_with s t node step left) winner
  pub after : later ≡ record s { nodes = nodes_with s t node step left; tickets = without s.tickets number t; winner = winner }

-- an answer that comes late: the ticket ends, and nothing else changes
abbrev pub EndsLate : ℕ → (s : State) → (e : HistoryEntry) → RunsAt s e → State → Type 0
EndsLate goals s e r later = IsOver goals s r.node × (later ≡ ended s e.ticket r.ticket r.node Idle)

-- the entry leads from a state of this many goals to a later one
abbrev pub Follows : ℕ → System → State → HistoryEntry → State → Type 0
Follows goals system s e later = go e.event
  where
    go : Event → Type 0
    go (claimed problem strategy) = Claims goals s e problem strategy later
    go (found step) =
        (r : RunsAt s e) × (EndsLate goals s e r later ⊎ ((IsOver goals s r.node → ⊥) × Decides goals system s e.ticket r.ticket r.node step later))
    go (failed failure) =
        (r : RunsAt s e)
        × (EndsLate goals s e r later ⊎ ((IsOver goals s r.node → ⊥) × (later ≡ ended s e.ticket r.ticket r.node (Failed failure))))
    go cancelled = (r : RunsAt s e) × EndsLate goals s e r later
    go aborted =
        (r : RunsAt s e)
        × ((HasVerdict goals s × (later ≡ ended s e.ticket r.ticket r.node Idle))
        ⊎ ((HasVerdict goals s → ⊥) × (later ≡ record (ended s e.ticket r.ticket r.node Idle) { is_aborted = true })))

-- the entries lead, one after another, from a state to the last one
abbrev pub Replays : ℕ → System → State → List HistoryEntry → State → Type 0
Replays goals system s [] last = s ≡ last
Replays goals system s (e ∷ es) last = (later : State) × Follows goals system s e later × Replays goals system later es last
