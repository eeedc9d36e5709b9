-- The state to which a serial history leads.
use Rattle.std.proofs.Common.{◌≡◌, ℕ, subst}
use Rattle.trs_defs.specs.System.{System}
use Rattle.tree_core.specs.tree_definitions.declared.question.Question.{Question}
use Rattle.tree_core.specs.tree_definitions.Questions.{goal_count}
use Rattle.tree_core.specs.tree_definitions.States.{opening}
use Rattle.tree_core.specs.tree_definitions.Events.{Replays}
use Rattle.tree_core.specs.tree_definitions.Verdicts.{HasVerdict}
use Rattle.tree_core.specs.tree_definitions.Trees.{ProofTree}
use Rattle.worker_pool.specs.Serial.{IsSerial, IsSerialEnd}

-- the state of a tree on this system and question, whose history is serial and on which a verdict stands
pub serial_end : (system : System) (question : Question) (budget : ℕ) (tree : ProofTree) → tree.system ≡ system → tree.question ≡ question
    → IsSerial system budget tree.history → Replays (goal_count tree.question) tree.system (opening tree.question) tree.history tree.state
    → HasVerdict (goal_count tree.question) tree.state → IsSerialEnd system question budget tree.state
serial_end system question budget tree of asked serial replays verdict = record {
  history = tree.history;
  serial = serial;
  replays = subst (λ (q : Question). Replays (goal_count q) system (opening q) tree.history tree.state) asked
      (subst (λ (s : System). Replays (goal_count tree.question) s (opening tree.question) tree.history tree.state) of replays);
  verdict = subst (λ (q : Question). HasVerdict (goal_count q) tree.state) asked verdict;
}
