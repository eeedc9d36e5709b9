-- Outcomes that are held back until they are posted.
use Rattle.std.specs.Prelude.{◌≡◌, ℕ, List, Option, Some, None, slice_get, slice_set}
use Rattle.trs_defs.specs.System.{System}
use Rattle.worker_pool.specs.tree_core.cert_step.ProofProblem.{problem_of}
use Rattle.worker_pool.specs.tree_core.strategies.Runs.{Run}
use Rattle.worker_pool.specs.tree_core.tree_definitions.declared.answers.Task.{Task}
use Rattle.worker_pool.specs.tree_core.tree_definitions.declared.answers.Polled.{Polled}
use Rattle.worker_pool.specs.tree_core.tree_definitions.declared.answers.Polled.TheVariants.{Go, Cancelled}
use Rattle.worker_pool.specs.tree_core.tree_definitions.History.{Runs, IsGiven}
use Rattle.worker_pool.specs.tree_core.tree_definitions.Trees.{ProofTree}
use Rattle.worker_pool.specs.tree_core.tree_definitions.Replies.{IsRunnable, IsTaskOf}

-- the ticket is running, and the outcome is of its task
pub record IsHeld (tree : ProofTree) (ticket : ℕ) (outcome : Run) : Type 0 where
  pub runs : Runs ticket tree.history
  pub given : IsTaskOf tree ticket outcome

-- what stands at the number of a ticket is held for it
abbrev pub AreHeld : ProofTree → List (Option Run) → Type 0
AreHeld tree held = (ticket : ℕ) (outcome : Run) → slice_get held ticket ≡ Some (Some outcome) → IsHeld tree ticket outcome

-- the outcome is of this system, budget and task
pub record IsAnswerTo (system : System) (budget : ℕ) (task : Task) (outcome : Run) : Type 0 where
  pub system_is : outcome.system ≡ system
  pub budget_is : outcome.budget ≡ budget
  pub problem_is : outcome.problem ≡ problem_of task.problem
  pub strategy_is : outcome.strategy ≡ task.strategy

-- the task was given to a seat, its ticket is running, and it can be run
pub record IsClaimed (tree : ProofTree) (task : Task) : Type 0 where
  pub runnable : IsRunnable tree.system task
  pub runs : Runs task.ticket tree.history
  pub seat : ℕ
  pub given : IsGiven tree.history seat task.ticket (problem_of task.problem) task.strategy

-- what is held for a ticket ends with it
abbrev pub after_poll : Polled → List (Option Run) → ℕ → List (Option Run)
after_poll Go held ticket = held
after_poll Cancelled held ticket = slice_set held ticket None
