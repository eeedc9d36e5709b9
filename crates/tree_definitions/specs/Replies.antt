-- What each call of a proof tree answers, and what it leaves.
use Rattle.std.specs.Prelude.{◌≡◌, ◌<◌, ℕ, [], ◌∷◌, ◌++◌, length, Option, Some, None, slice_get}
use Rattle.trs_defs.specs.System.{System}
use Rattle.trs_defs.specs.Member.{In}
use Rattle.strategies.specs.cert_step.ProofProblem.{problem_of, IsWellMadeProblem}
use Rattle.strategies.specs.Kinds.{strategies_for}
use Rattle.strategies.specs.Runs.{Found, Run}
use Rattle.strategies.specs.Runs as strategy
use Rattle.tree_definitions.specs.declared.answers.Claimed.{Claimed}
use Rattle.tree_definitions.specs.declared.answers.Claimed.TheVariants.{Task as TaskOf, Again, Done}
use Rattle.tree_definitions.specs.declared.answers.Task.{Task}
use Rattle.tree_definitions.specs.declared.answers.Polled.{Polled}
use Rattle.tree_definitions.specs.declared.answers.Polled.TheVariants.{Go, Cancelled}
use Rattle.tree_definitions.specs.declared.answers.Posted.{Posted}
use Rattle.tree_definitions.specs.declared.answers.Posted.TheVariants as posted
use Rattle.tree_definitions.specs.declared.answers.Verdict.{Verdict}
use Rattle.tree_definitions.specs.declared.answers.Verdict.TheVariants.{Won, Maybe}
use Rattle.tree_definitions.specs.declared.ticket.Ticket.{Ticket}
use Rattle.tree_definitions.specs.Questions.{goal_count}
use Rattle.tree_definitions.specs.History.{HistoryEntry, Event, claimed, found, failed, cancelled, of_seat, Runs, IsGiven}
use Rattle.tree_definitions.specs.States.{TreeNode, State}
use Rattle.tree_definitions.specs.Verdicts.{IsLost, AllLost, IsDone}
use Rattle.tree_definitions.specs.Events.{IsFree, IsOver, Follows}
use Rattle.tree_definitions.specs.Trees.{ProofTree}

-- one entry is made, by which the state follows from the state before
pub record Adds (old : ProofTree) (e : HistoryEntry) (new : ProofTree) : Type 0 where
  pub follows : Follows (goal_count old.question) old.system old.state e new.state
  pub tree : new ≡ record old { history = old.history ++ e ∷ []; state = new.state }

-- the claim's entry names the task, and is all that the seat's own entries say of its ticket
pub record IsTask (old : ProofTree) (seat : ℕ) (new : ProofTree) (task : Task) : Type 0 where
  pub adds : Adds old (record { seat = seat; ticket = task.ticket; event = claimed (problem_of task.problem) task.strategy }) new
  pub runs : Runs task.ticket (of_seat seat new.history)

-- the task can be run: its problem is well-made for the system, and its strategy is one of the problem's
pub record IsRunnable (system : System) (task : Task) : Type 0 where
  pub problem : IsWellMadeProblem system (problem_of task.problem)
  pub kind : In task.strategy (strategies_for (problem_of task.problem))

-- the fact holds of the task, where one was claimed
abbrev pub IfTask : (Task → Type 0) → Claimed → Type 0
IfTask fact (TaskOf task) = fact task
IfTask fact Again = Unit {0}
IfTask fact Done = Unit {0}

-- nothing can be claimed, and some ticket is running
pub record IsAgain (old : ProofTree) : Type 0 where
  pub going : IsDone (goal_count old.question) old.state → ⊥
  pub none : (n place : ℕ) (node : TreeNode) → IsFree old.state n place node → ⊥
  pub ticket : ℕ
  pub runs : Runs ticket old.history

abbrev pub IsClaim : ProofTree → ℕ → ProofTree → Claimed → Type 0
IsClaim old seat new (TaskOf task) = IsTask old seat new task
IsClaim old seat new Again = IsAgain old × (new ≡ old)
IsClaim old seat new Done = IsDone (goal_count old.question) old.state × (new ≡ old)

-- the ticket's node in the state
pub record NodeOf (s : State) (number : ℕ) : Type 0 where
  pub ticket : Ticket
  pub there : slice_get s.tickets number ≡ Some ticket
  pub node : TreeNode
  pub made : slice_get s.nodes ticket.node ≡ Some node

-- no answer is wanted under the ticket any more
abbrev pub IsUnwanted : ProofTree → ℕ → Type 0
IsUnwanted tree number = (at : NodeOf tree.state number) × IsOver (goal_count tree.question) tree.state at.node

-- one entry of this ticket is made, which says this, and is of the seat that claimed it
pub record Notes (old : ProofTree) (number : ℕ) (event : Event) (new : ProofTree) : Type 0 where
  pub seat : ℕ
  pub owner : Runs number (of_seat seat old.history)
  pub adds : Adds old (record { seat = seat; ticket = number; event = event }) new

abbrev pub IsPoll : ProofTree → ℕ → ProofTree → Polled → Type 0
IsPoll old number new Go = (IsUnwanted old number → ⊥) × (new ≡ old)
IsPoll old number new Cancelled = IsUnwanted old number × Notes old number cancelled new

abbrev pub event_of_found : Found → Event
event_of_found (strategy.found step left) = found step
event_of_found (strategy.failed failure) = failed failure

abbrev pub IsPost : ProofTree → ℕ → Event → ProofTree → Posted → Type 0
IsPost old number event new posted.Late = IsUnwanted old number × Notes old number event new
IsPost old number event new posted.Taken = (IsUnwanted old number → ⊥) × Notes old number event new

-- how many problems are left
abbrev pub left_of : Found → ℕ
left_of (strategy.found step left) = length left
left_of (strategy.failed failure) = 0

-- only a step that leaves problems can want memory
abbrev pub LeavesProblems : Found → Type 0
LeavesProblems (strategy.found step left) = left ≡ [] → ⊥
LeavesProblems (strategy.failed failure) = ⊥

-- the verdict that stands
abbrev pub IsVerdict : ProofTree → Option Verdict → Type 0
IsVerdict tree (Some (Won g)) = tree.state.winner ≡ Some g
IsVerdict tree (Some Maybe) = (tree.state.winner ≡ None) × AllLost (goal_count tree.question) tree.state.nodes
IsVerdict tree None =
    (tree.state.winner ≡ None) × ((g : ℕ) × (g < goal_count tree.question) × (IsLost tree.state.nodes g → ⊥))

-- the outcome is of the tree's system and budget, and of the task for which the ticket was given
pub record IsTaskOf (tree : ProofTree) (number : ℕ) (outcome : Run) : Type 0 where
  pub system : outcome.system ≡ tree.system
  pub budget : outcome.budget ≡ tree.budget
  pub seat : ℕ
  pub given : IsGiven tree.history seat number outcome.problem outcome.strategy
