-- The kind `label` is sound.
use Rattle.std.specs.Prelude.{ℕ, List, Ok, IsTrue}
use Rattle.trs_defs.specs.System.{System, IsSystem}
use Rattle.rewrite_core.specs.PathsOfJoin.{PathsOfJoin}
use Rattle.rule_label.proofs.crit_pairs.ListedOnce.{listed_once}
use Rattle.rule_label.proofs.OneAnswer.{label_once}
use Rattle.rewrite_core.proofs.CheckLaws.{returns_once, then_once}
use Rattle.cert_step.specs.ProofProblem as problem
use Rattle.cert_step.specs.ProofProblem.{ProofProblem, Holds}
use Rattle.cert_step.specs.Subproblems.{AllHold}
use Rattle.cert_step.specs.Kind.{IsSound}
use Rattle.cert_step.specs.LabelKind.{for_label, label_kind}
use Rattle.cert_step.proofs.Theorems.{decreasing_peaks}
use Rattle.cert_step.proofs.Leaving.{passed, leaves_same, leaves_well_made}

module _ (ranks : List ℕ) (items : List PathsOfJoin) where
  sound : (system : System) (p : ProofProblem) (subproblems : List ProofProblem) → IsSystem system → IsTrue (for_label p)
      → (label_kind ranks items).conditions system p (Ok subproblems) → AllHold system subproblems → Holds system p
  sound system problem.cr subproblems valid is h each = decreasing_peaks system ranks items valid (passed h)
  sound system _ subproblems valid is h each = absurd cc

  pub label_sound : IsSound (label_kind ranks items)
  label_sound = record {
    one_answer = λ system p valid. then_once _ _ (label_once listed_once system ranks items valid) (λ _. returns_once _);
    leaves_once = λ system p subproblems others h k. leaves_same h k;
    sound = λ system p subproblems valid made is h each. sound system p subproblems valid is h each;
    well_made = λ system p subproblems well made h. leaves_well_made system tt h;
  }
