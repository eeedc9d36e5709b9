-- The kind `fork` is sound.
use Rattle.std.specs.Prelude.{◌≡◌, Bool, true, false, List, Result, Ok, Err, OnOk, IsTrue, length}
use Rattle.std.proofs.Common.{sym, subst, ◌∙◌}
use Rattle.trs_defs.specs.Tree.{Tree}
use Rattle.trs_defs.specs.Derivation.{Reaches}
use Rattle.trs_defs.specs.NormalForm.{IsNormalForm}
use Rattle.trs_defs.specs.Step.{Step}
use Rattle.trs_defs.specs.WellFormed.{IsWellFormed}
use Rattle.trs_defs.specs.System.{RewriteRule, System, IsSystem}
use Rattle.trs_defs.specs.Path.{PlacedRule, Follows}
use Rattle.trs_defs.specs.Claims.{IsForked}
use Rattle.trs_defs.specs.UniqueNormalForms.{IsSplit}
use Rattle.trs_defs.proofs.Places.{derivation_of_follows}
use Rattle.confluence_theory.proofs.NormalForms.{split_forked}
use Rattle.nonjoin.proofs.ApartLaws.{system_apart}
use Rattle.rewrite_core.specs.declared.checks.forks.ForkTest.{ForkTest}
use Rattle.rewrite_core.specs.declared.checks.forks.ForkTest.TheVariants.{Normal, Apart}
use Rattle.rewrite_core.specs.declared.checks.refusals.CheckFault.{CheckFault}
use Rattle.rewrite_core.specs.Reducible.{IsReducible}
use Rattle.rewrite_core.specs.Check.{HasOneAnswer, Answers, goes_on, absent, holds}
use Rattle.rewrite_core.specs.PathCheck.{followed}
use Rattle.rewrite_core.proofs.CheckLaws.{once}
use Rattle.cert_step.specs.ProofProblem as problem
use Rattle.cert_step.specs.ProofProblem.{ProofProblem, Holds}
use Rattle.cert_step.specs.Kind.{IsSound}
use Rattle.cert_step.specs.ForkKind.{end_conditions, fork_conditions, for_fork, fork_kind}
use Rattle.cert_step.proofs.Leaving.{passed, leaves_same, leaves_well_made}

ends_once : (rules : List RewriteRule) (test : ForkTest) (left right : Tree) → HasOneAnswer (end_conditions rules test left right)
ends_once rules Normal left right = search once
ends_once rules Apart left right = search once

pub irreducible : {rules : List RewriteRule} {t : Tree} → IsNormalForm (Step rules) t → IsReducible rules t → ⊥
irreducible normal (u, step) = normal u step

pub equal_irreducible : {rules : List RewriteRule} {t u : Tree} → t ≡ u → (IsReducible rules t → ⊥) → IsReducible rules u → ⊥
equal_irreducible {rules} equal normal = subst (λ x. IsReducible rules x → ⊥) equal normal

pub differ : {b : Bool} → b ≡ true → b ≡ false → ⊥
differ e f = let wrong : true ≡ false = sym e ∙ f in cc

reaches : (rules : List RewriteRule) (path : List PlacedRule) (t u : Tree) → Follows rules path t u → Reaches (Step rules) t u
reaches rules path t u follows = (length path, derivation_of_follows rules path t u follows)

-- A fork to different normal forms shows that the system is split.
split_of_conditions : (system : System) (start : Tree) (left right : List PlacedRule)
    → fork_conditions system.rules start left right Normal (Ok tt) → IsWellFormed system.arities start → IsSplit system
split_of_conditions system start left right
    (goes_on t _ (followed _ to_left) (goes_on u _ (followed _ to_right) (goes_on _ _ (absent left_normal) (goes_on _ _ (absent right_normal) (absent different))))) well =
    (start, t, u, well, (reaches system.rules left start t to_left, λ v step. left_normal (v, step)), (reaches system.rules right start u to_right, λ v step. right_normal (v, step)), different)

-- A fork shows that the system is forked.
forked_of_conditions : (system : System) (start : Tree) (left right : List PlacedRule) (test : ForkTest) → IsSystem system
    → fork_conditions system.rules start left right test (Ok tt) → IsWellFormed system.arities start → IsForked system
forked_of_conditions system start left right Normal valid h well = split_forked system (split_of_conditions system start left right h well)
forked_of_conditions system start left right Apart valid (goes_on t _ (followed _ to_left) (goes_on u _ (followed _ to_right) (holds apart))) well =
    (start, t, u, well, reaches system.rules left start t to_left, reaches system.rules right start u to_right, system_apart system t u valid apart)

pub forked_answer : (system : System) (start : Tree) (left right : List PlacedRule) (test : ForkTest) (r : Result (Unit {0}) CheckFault) → IsSystem system
    → Answers (fork_conditions system.rules start left right test) r → OnOk r (IsWellFormed system.arities start → IsForked system)
forked_answer system start left right test (Ok u) valid h = forked_of_conditions system start left right test valid h
forked_answer system start left right test (Err fault) valid h = tt

pub split_answer : (system : System) (start : Tree) (left right : List PlacedRule) (test : ForkTest) (r : Result (Unit {0}) CheckFault)
    → Answers (fork_conditions system.rules start left right test) r → OnOk r (test ≡ Normal → IsWellFormed system.arities start → IsSplit system)
split_answer system start left right Normal (Ok u) h = λ is. split_of_conditions system start left right h
split_answer system start left right Apart (Ok u) h = λ is. absurd cc
split_answer system start left right test (Err fault) h = tt

module _ (start : Tree) (left right : List PlacedRule) where
  sound : (test : ForkTest) (system : System) (p : ProofProblem) (subproblems : List ProofProblem) → IsSystem system → IsWellFormed system.arities start → IsTrue (for_fork test p)
      → (fork_kind start left right test).conditions system p (Ok subproblems) → Holds system p
  sound test system problem.fork subproblems valid well is h = forked_of_conditions system start left right test valid (passed h) well
  sound Normal system problem.split subproblems valid well is h = split_of_conditions system start left right (passed h) well
  sound Normal system _ subproblems valid well is h = absurd cc
  sound Apart system _ subproblems valid well is h = absurd cc

  pub fork_sound : (test : ForkTest) → IsSound (fork_kind start left right test)
  fork_sound test = record {
    one_answer = λ system p valid. search (once, ends_once);
    leaves_once = λ system p subproblems others h k. leaves_same h k;
    sound = λ system p subproblems valid made is h each. sound test system p subproblems valid made.0 is h;
    well_made = λ system p subproblems well made h. leaves_well_made system tt h;
  }
