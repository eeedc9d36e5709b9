-- The kind `strong` is sound.
use Rattle.std.specs.Prelude.{List, Ok, IsTrue}
use Rattle.trs_defs.specs.System.{System, IsSystem}
use Rattle.rule_label.specs.closed_pairs.StronglyClosed.{FourPaths}
use Rattle.rule_label.proofs.crit_pairs.ListedOnce.{listed_once}
use Rattle.rule_label.proofs.closed_pairs.OneAnswers.{strong_once}
use Rattle.rewrite_core.proofs.CheckLaws.{returns_once, then_once}
use Rattle.cert_step.specs.ProofProblem as problem
use Rattle.cert_step.specs.ProofProblem.{ProofProblem, Holds}
use Rattle.cert_step.specs.Subproblems.{AllHold}
use Rattle.cert_step.specs.Kind.{IsSound}
use Rattle.cert_step.specs.StrongKind.{for_strong, strong_kind}
use Rattle.cert_step.proofs.Theorems.{strongly_closed_peaks}
use Rattle.cert_step.proofs.Leaving.{passed, leaves_same, leaves_well_made}

module _ (items : List FourPaths) where
  sound : (system : System) (p : ProofProblem) (subproblems : List ProofProblem) → IsSystem system → IsTrue (for_strong p)
      → (strong_kind items).conditions system p (Ok subproblems) → AllHold system subproblems → Holds system p
  sound system problem.cr subproblems valid is h each = strongly_closed_peaks system items valid (passed h)
  sound system _ subproblems valid is h each = absurd cc

  pub strong_sound : IsSound (strong_kind items)
  strong_sound = record {
    one_answer = λ system p valid. then_once _ _ (strong_once listed_once system items valid) (λ _. returns_once _);
    leaves_once = λ system p subproblems others h k. leaves_same h k;
    sound = λ system p subproblems valid made is h each. sound system p subproblems valid is h each;
    well_made = λ system p subproblems well made h. leaves_well_made system tt h;
  }
