-- What is seen of a proof tree.
use Rattle.std.specs.Prelude.{ℕ, List}
use Rattle.trs_defs.specs.System.{System}
use Rattle.tree_definitions.specs.declared.question.Question.{Question}
use Rattle.tree_definitions.specs.History.{HistoryEntry}
use Rattle.tree_definitions.specs.States.{State}

-- the question, the system, the budget of each search, the history, and the state to which it leads
pub record ProofTree : Type 0 where
  pub question : Question
  pub system : System
  pub budget : ℕ
  pub history : List HistoryEntry
  pub state : State
