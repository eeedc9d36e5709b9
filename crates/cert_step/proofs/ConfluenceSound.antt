-- The kind `confluence` is sound.
use Rattle.std.specs.Prelude.{◌≡◌, List, Ok, refl}
use Rattle.trs_defs.specs.System.{System}
use Rattle.confluence_theory.proofs.NormalForms.{confluent_unique}
use Rattle.rewrite_core.specs.Check.{HasOneAnswer, returned}
use Rattle.rewrite_core.proofs.CheckLaws.{returns_once}
use Rattle.cert_step.specs.ProofProblem as problem
use Rattle.cert_step.specs.ProofProblem.{ProofProblem, Holds}
use Rattle.cert_step.specs.Subproblems.{AllHold, AreWellMadeProblems}
use Rattle.cert_step.specs.Kind.{IsSound}
use Rattle.cert_step.specs.ConfluenceKind.{confluence_conditions, confluence_kind}

one_answer : (p : ProofProblem) → HasOneAnswer (confluence_conditions p)
one_answer problem.unr = returns_once _
one_answer problem.unr_newman = returns_once _
one_answer _ = record { once = λ a b h k. absurd h }

leaves_once : (p : ProofProblem) (subproblems others : List ProofProblem) → confluence_conditions p (Ok subproblems) → confluence_conditions p (Ok others) → subproblems ≡ others
leaves_once problem.unr _ _ returned returned = refl
leaves_once problem.unr_newman _ _ returned returned = refl
leaves_once _ subproblems others h k = absurd h

sound : (system : System) (p : ProofProblem) (subproblems : List ProofProblem) → confluence_conditions p (Ok subproblems) → AllHold system subproblems → Holds system p
sound system problem.unr _ returned each = confluent_unique system each.0
sound system problem.unr_newman _ returned each = confluent_unique system each.0
sound system _ subproblems h each = absurd h

well_made : (system : System) (p : ProofProblem) (subproblems : List ProofProblem) → confluence_conditions p (Ok subproblems) → AreWellMadeProblems system subproblems
well_made system problem.unr _ returned = (tt, tt)
well_made system problem.unr_newman _ returned = (tt, tt)
well_made system _ subproblems h = absurd h

pub confluence_sound : IsSound confluence_kind
confluence_sound = record {
  one_answer = λ system p valid. one_answer p;
  leaves_once = λ system p subproblems others h k. leaves_once p subproblems others h k;
  sound = λ system p subproblems valid made is h each. sound system p subproblems h each;
  well_made = λ system p subproblems well made h. well_made system p subproblems h;
}
