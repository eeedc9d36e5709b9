-- A history leads to one state, and what a tree won by.
use Rattle.std.specs.Prelude.{◌≡◌, ℕ, List, Some, slice_get}
use Rattle.trs_defs.specs.System.{System}
use Rattle.tree_state.specs.cert_step.declared.claim.Claim.{Claim}
use Rattle.tree_state.specs.tree_definitions.declared.question.Question.{Question}
use Rattle.tree_state.specs.tree_definitions.Questions.{goal_count, claims}
use Rattle.tree_state.specs.tree_definitions.History.{HistoryEntry}
use Rattle.tree_state.specs.tree_definitions.States.{State, opening}
use Rattle.tree_state.specs.tree_definitions.Events.{Replays}
use Rattle.tree_state.specs.tree_definitions.Trees.{ProofTree}

-- from the opening of a question a history leads to at most one state
abbrev pub ReplaysAreOne : Type 0
ReplaysAreOne =
    (question : Question) (system : System) (history : List HistoryEntry) (state other : State)
    → Replays (goal_count question) system (opening question) history state
    → Replays (goal_count question) system (opening question) history other → state ≡ other

-- the goal that was won first claims this
abbrev pub IsWonBy : ProofTree → Claim → Type 0
IsWonBy tree claim = (g : ℕ) × (tree.state.winner ≡ Some g) × (slice_get (claims tree.question) g ≡ Some claim)
