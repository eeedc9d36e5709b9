-- The kind `dp` is sound.
use Rattle.std.specs.Prelude.{◌≡◌, List, Ok, IsTrue, refl}
use Rattle.trs_defs.specs.System.{System, IsSystem}
use Rattle.rewrite_core.specs.Check.{returned}
use Rattle.rewrite_core.proofs.CheckLaws.{returns_once}
use Rattle.cert_step.specs.ProofProblem as problem
use Rattle.cert_step.specs.ProofProblem.{ProofProblem, Holds}
use Rattle.cert_step.specs.Subproblems.{AllHold, AreWellMadeProblems}
use Rattle.cert_step.specs.Kind.{IsSound}
use Rattle.cert_step.specs.DpKind.{for_dp, dp_kind}
use Rattle.cert_step.proofs.AllNumbers.{all_numbers_well_made}
use Rattle.cert_step.proofs.Theorems.{all_pairs}

leaves_once : (system : System) (p : ProofProblem) (subproblems others : List ProofProblem) → dp_kind.conditions system p (Ok subproblems)
    → dp_kind.conditions system p (Ok others) → subproblems ≡ others
leaves_once system p _ _ returned returned = refl

sound : (system : System) (p : ProofProblem) (subproblems : List ProofProblem) → IsSystem system → IsTrue (for_dp p)
    → dp_kind.conditions system p (Ok subproblems) → AllHold system subproblems → Holds system p
sound system problem.sn _ valid is returned each = all_pairs system valid each.0
sound system _ subproblems valid is h each = absurd cc

well_made : (system : System) (p : ProofProblem) (subproblems : List ProofProblem) → dp_kind.conditions system p (Ok subproblems) → AreWellMadeProblems system subproblems
well_made system p _ returned = (all_numbers_well_made system, tt)

pub dp_sound : IsSound dp_kind
dp_sound = record {
  one_answer = λ system p valid. returns_once _;
  leaves_once = leaves_once;
  sound = λ system p subproblems valid made is h each. sound system p subproblems valid is h each;
  well_made = λ system p subproblems well made h. well_made system p subproblems h;
}
