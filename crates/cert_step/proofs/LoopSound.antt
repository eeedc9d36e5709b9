-- The kind `loop` is sound.
use Rattle.std.specs.Prelude.{ℕ, List, Ok, IsTrue}
use Rattle.trs_defs.specs.Tree.{Tree}
use Rattle.trs_defs.specs.System.{System}
use Rattle.trs_defs.specs.Path.{PlacedRule}
use Rattle.rewrite_core.proofs.CheckLaws.{once}
use Rattle.rewrite_core.proofs.LoopLaws.{loop_once, endless_of_conditions}
use Rattle.cert_step.specs.ProofProblem as problem
use Rattle.cert_step.specs.ProofProblem.{ProofProblem, Holds}
use Rattle.cert_step.specs.Kind.{IsSound}
use Rattle.cert_step.specs.LoopKind.{for_loop, loop_kind}
use Rattle.cert_step.proofs.Leaving.{passed, leaves_same, leaves_well_made}

module _ (start : Tree) (path : List PlacedRule) (place : List ℕ) where
  sound : (system : System) (p : ProofProblem) (subproblems : List ProofProblem) → (loop_kind start path place).is_well_made system → IsTrue (for_loop p)
      → (loop_kind start path place).conditions system p (Ok subproblems) → Holds system p
  sound system problem.loop subproblems made is h = endless_of_conditions system start path place (passed h) made.0
  sound system _ subproblems made is h = absurd cc

  pub loop_sound : IsSound (loop_kind start path place)
  loop_sound = record {
    one_answer = λ system p valid. search (once, loop_once);
    leaves_once = λ system p subproblems others h k. leaves_same h k;
    sound = λ system p subproblems valid made is h each. sound system p subproblems made is h;
    well_made = λ system p subproblems well made h. leaves_well_made system tt h;
  }
