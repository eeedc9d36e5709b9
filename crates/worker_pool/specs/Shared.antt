-- The proof tree that workers share, as its history.
use Rattle.std.specs.Prelude.{◌≡◌, ℕ, List, [], ◌∷◌, map, Some, None}
use mathlib.Core.List.{IsPrefix}
use Rattle.trs_defs.specs.System.{System}
use Rattle.tree_core.specs.cert_step.ProofProblem.{ProofProblem}
use Rattle.tree_core.specs.strategies.declared.strategy.Strategy.{Strategy}
use Rattle.tree_core.specs.tree_definitions.declared.question.Question.{Question}
use Rattle.tree_core.specs.tree_definitions.History.{HistoryEntry, mentions, Runs, IsGiven}
use Rattle.tree_core.specs.tree_definitions.Trees.{ProofTree}
use Rattle.turn_lock.specs.declared.signed.Signed.{Signed}
use Rattle.worker_pool.specs.Said.{Said, opened, made}
use Rattle.worker_pool.specs.declared.entry.Entry.{Entry}

-- the opening of a tree, which no seat made
abbrev pub opening_of : Question → System → ℕ → Signed Entry
opening_of question system budget = record { by = None; entry = record { says = opened question system budget } }

-- an entry of the tree, with the number of its seat
abbrev pub signed : HistoryEntry → Signed Entry
signed e = record { by = Some e.seat; entry = record { says = made e } }

-- the opening, and then each entry of the tree
abbrev pub history_of : ProofTree → List (Signed Entry)
history_of tree = opening_of tree.question tree.system tree.budget ∷ map signed tree.history

-- the history begins with the opening of a tree of this question, system and budget
abbrev pub Opens : Question → System → ℕ → List (Signed Entry) → Type 0
Opens question system budget history = IsPrefix (opening_of question system budget ∷ []) history

abbrev pub with_made : Said → List HistoryEntry → List HistoryEntry
with_made (opened question system budget) es = es
with_made (made e) es = e ∷ es

-- the entries of the tree among these
abbrev pub tree_entries : List (Signed Entry) → List HistoryEntry
tree_entries [] = []
tree_entries (s ∷ ss) = with_made s.entry.says (tree_entries ss)

-- by these entries the ticket has ended: they have its claim and its ending
abbrev pub HasEnded : ℕ → List (Signed Entry) → Type 0
HasEnded ticket mine = mentions ticket (tree_entries mine) ≡ 2

-- by its own entries the seat was given this strategy of this problem under the ticket, which runs
pub record HasTask (seat : ℕ) (mine : List (Signed Entry)) (ticket : ℕ) (problem : ProofProblem) (strategy : Strategy) : Type 0 where
  pub runs : Runs ticket (tree_entries mine)
  pub given : IsGiven (tree_entries mine) seat ticket problem strategy
