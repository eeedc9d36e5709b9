-- Turns of a worker that is alone.
use Rattle.std.specs.Prelude.{◌≡◌, ◌<◌, ℕ, ◌+◌, ◌-◌, ◌^◌, Bool, true, false, length}
use Rattle.trs_defs.specs.System.{System}
use Rattle.tree_core.specs.cert_step.ProofProblem.{problem_of}
use Rattle.tree_core.specs.strategies.Runs.{Run}
use Rattle.tree_core.specs.strategies.Truth.{IsTrueRun}
use Rattle.tree_core.specs.tree_definitions.declared.answers.Task.{Task}
use Rattle.tree_core.specs.tree_definitions.Questions.{goal_count}
use Rattle.tree_core.specs.tree_definitions.Verdicts.{HasVerdict}
use Rattle.tree_core.specs.tree_definitions.Trees.{ProofTree}
use Rattle.worker_pool.specs.Serial.{IsSerial}

-- between two turns: the history is serial, each ticket has two entries, and nothing was aborted
pub record IsAtRest (tree : ProofTree) : Type 0 where
  pub serial : IsSerial tree.system tree.budget tree.history
  pub tickets : length tree.history ≡ length tree.state.tickets + length tree.state.tickets
  pub going : tree.state.is_aborted ≡ false

-- both are on one question, system and budget
pub record IsOnSame (old new : ProofTree) : Type 0 where
  pub question : new.question ≡ old.question
  pub system : new.system ≡ old.system
  pub budget : new.budget ≡ old.budget

-- the outcome is of this system, budget and task, and true
pub record IsAnswerTo (system : System) (budget : ℕ) (task : Task) (outcome : Run) : Type 0 where
  pub system_is : outcome.system ≡ system
  pub budget_is : outcome.budget ≡ budget
  pub problem_is : outcome.problem ≡ problem_of task.problem
  pub strategy_is : outcome.strategy ≡ task.strategy
  pub is_true : IsTrueRun outcome

-- how many entries can still be made at most
abbrev pub entries_left : ProofTree → ℕ
entries_left tree = 2 ^ 21 - length tree.history

-- a turn makes entries where there was a task; where there was none, a verdict stands
abbrev pub IsTurn : ProofTree → ProofTree → Bool → Type 0
IsTurn old new true = entries_left new < entries_left old
IsTurn old new false = HasVerdict (goal_count new.question) new.state
