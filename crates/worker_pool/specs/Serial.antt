-- The history of a worker that is alone.
use Rattle.std.specs.Prelude.{◌≡◌, ℕ, ◌+◌, List, [], ◌∷◌, ◌++◌, length}
use Rattle.trs_defs.specs.System.{System}
use Rattle.trs_defs.specs.Member.{In}
use Rattle.tree_core.specs.cert_step.ProofProblem.{ProofProblem}
use Rattle.tree_core.specs.strategies.declared.strategy.Strategy.{Strategy}
use Rattle.tree_core.specs.strategies.Kinds.{strategies_for}
use Rattle.tree_core.specs.strategies.Runs.{Found}
use Rattle.tree_core.specs.strategies.Truth.{IsTrueFound}
use Rattle.tree_core.specs.tree_definitions.declared.question.Question.{Question}
use Rattle.tree_core.specs.tree_definitions.Questions.{goal_count}
use Rattle.tree_core.specs.tree_definitions.History.{HistoryEntry, Event, claimed}
use Rattle.tree_core.specs.tree_definitions.States.{State, opening}
use Rattle.tree_core.specs.tree_definitions.Events.{Replays}
use Rattle.tree_core.specs.tree_definitions.Verdicts.{HasVerdict}
use Rattle.tree_core.specs.tree_definitions.Replies.{event_of_found}

-- an entry of seat 0
abbrev pub entry_of : ℕ → Event → HistoryEntry
entry_of ticket event = record { seat = 0; ticket = ticket; event = event }

-- Nothing; or, behind a serial history, a claim by seat 0 of a strategy of a problem, under the next ticket, and the post of
-- what the strategy answers of the problem within the budget. Each ticket before has two entries.
pub data IsSerial (system : System) (budget : ℕ) : List HistoryEntry → Type 0 where
  nothing : IsSerial system budget []
  one_more : (history : List HistoryEntry) (ticket : ℕ) (problem : ProofProblem) (strategy : Strategy) (answer : Found)
      → IsSerial system budget history → length history ≡ ticket + ticket → In strategy (strategies_for problem)
      → IsTrueFound system budget strategy problem answer
      → IsSerial system budget (history ++ entry_of ticket (claimed problem strategy) ∷ entry_of ticket (event_of_found answer) ∷ [])

-- the state to which a serial history leads, and in which a verdict stands
pub record IsSerialEnd (system : System) (question : Question) (budget : ℕ) (state : State) : Type 0 where
  pub history : List HistoryEntry
  pub serial : IsSerial system budget history
  pub replays : Replays (goal_count question) system (opening question) history state
  pub verdict : HasVerdict (goal_count question) state
