-- A serial history, turn by turn from its begin.
use Rattle.std.proofs.Common.{ℕ, List, [], ◌∷◌, ◌++◌}
use Rattle.trs_defs.specs.System.{System}
use Rattle.conclusion.specs.report_text.strategies.cert_step.ProofProblem.{ProofProblem}
use Rattle.conclusion.specs.report_text.strategies.declared.strategy.Strategy.{Strategy}
use Rattle.conclusion.specs.report_text.strategies.Runs.{Found}
use Rattle.conclusion.specs.report_text.strategies.Truth.{IsTrueFound}
use Rattle.conclusion.specs.tree_definitions.History.{HistoryEntry, claimed}
use Rattle.conclusion.specs.tree_definitions.Replies.{event_of_found}
use Rattle.conclusion.specs.worker_pool.Serial.{IsSerial, nothing, one_more, entry_of}

-- claims, each with the post of what the strategy answers behind it
pub data AreTurns (system : System) (budget : ℕ) : List HistoryEntry → Type 0 where
  rest : AreTurns system budget []
  turn : (ticket : ℕ) (problem : ProofProblem) (strategy : Strategy) (answer : Found) (more : List HistoryEntry)
      → IsTrueFound system budget strategy problem answer → AreTurns system budget more
      → AreTurns system budget (entry_of ticket (claimed problem strategy) ∷ entry_of ticket (event_of_found answer) ∷ more)

module _ (system : System) (budget : ℕ) where
  last_turn : (ticket : ℕ) (problem : ProofProblem) (strategy : Strategy) (answer : Found) → IsTrueFound system budget strategy problem answer
      → (history : List HistoryEntry)
      → AreTurns system budget history
      → AreTurns system budget (history ++ entry_of ticket (claimed problem strategy) ∷ entry_of ticket (event_of_found answer) ∷ [])
  last_turn ticket problem strategy answer is_true _ rest = turn ticket problem strategy answer [] is_true rest
  last_turn ticket problem strategy answer is_true _ (turn t p s a more true_a turns) =
      turn t p s a (more ++ entry_of ticket (claimed problem strategy) ∷ entry_of ticket (event_of_found answer) ∷ []) true_a
      (last_turn ticket problem strategy answer is_true more turns)

  pub turns_of : (history : List HistoryEntry) → IsSerial system budget history → AreTurns system budget history
  turns_of _ nothing = rest
  turns_of _ (one_more history ticket problem strategy answer serial next kind is_true) =
      last_turn ticket problem strategy answer is_true history (turns_of history serial)
