-- What the history of a proof tree that workers share says.
use Rattle.std.specs.Prelude.{ℕ}
use Rattle.trs_defs.specs.System.{System}
use Rattle.tree_core.specs.tree_definitions.declared.question.Question.{Question}
use Rattle.tree_core.specs.tree_definitions.History.{HistoryEntry}

-- a tree of a question on a system was opened, with the budget of each search; or an entry of the tree was made
pub data Said : Type 0 where
  opened : (question : Question) (system : System) (budget : ℕ) → Said
  made : (entry : HistoryEntry) → Said
