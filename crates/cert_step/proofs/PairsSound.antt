-- Kinds of steps on problems of dependency pairs are sound.
use Rattle.std.specs.Prelude.{◌≡◌, ℕ, List, [], ◌∷◌, Ok, length}
use Rattle.trs_defs.specs.Member.{In}
use Rattle.trs_defs.proofs.Members.{no_in}
use Rattle.trs_defs.specs.System.{System, IsSystem}
use Rattle.pair_theory.specs.DependencyPair.{DependencyPair, dependency_pairs}
use Rattle.pair_theory.proofs.Problems.{no_pairs_end}
use Rattle.dp_graph.specs.dp_core.Numbered.{ArePairsOf}
use Rattle.dp_graph.specs.dp_core.Laws.{IsFiniteOf, Remain}
use Rattle.rewrite_core.specs.Check.{Check, HasOneAnswer, Returns, returned, goes_on}
use Rattle.rewrite_core.proofs.CheckLaws.{returns_once, then_once}
use Rattle.cert_step.specs.ProofProblem as problem
use Rattle.cert_step.specs.ProofProblem.{ProofProblem, Holds, IsWellMadeProblem}
use Rattle.cert_step.specs.Subproblems.{AllHold, AreWellMadeProblems}
use Rattle.cert_step.specs.Kind.{IsSound}
use Rattle.cert_step.specs.OnPairs.{on_pairs, pairs_kind, problem_if_any, removal_kind}

-- what the conditions on pairs, and the problems that they leave, have to keep
pub record IsSoundOnPairs {A : Type 0} (keeps_rules : System → Type 0) (conditions : System → List ℕ → Check A) (left : A → List ProofProblem) : Type 0 where
  pub one_answer : (system : System) (numbers : List ℕ) → HasOneAnswer (conditions system numbers)
  pub concludes : (system : System) (numbers : List ℕ) (value : A) → IsSystem system → keeps_rules system → conditions system numbers (Ok value)
      → AllHold system (left value) → IsFiniteOf system numbers
  pub well_made : (system : System) (numbers : List ℕ) (value : A) → keeps_rules system → conditions system numbers (Ok value)
      → IsWellMadeProblem system (problem.dp numbers) → AreWellMadeProblems system (left value)

module _ {A : Type 0} (keeps_rules : System → Type 0) (conditions : System → List ℕ → Check A) (left : A → List ProofProblem) (is : IsSoundOnPairs keeps_rules conditions left) where
  one_answer : (system : System) (p : ProofProblem) → HasOneAnswer (on_pairs (conditions system) left p)
  one_answer system (problem.dp numbers) = then_once _ _ (is.one_answer system numbers) (λ value. returns_once (left value))
  one_answer system _ = record { once = λ a b h k. absurd h }

  leaves_once : (system : System) (p : ProofProblem) (subproblems others : List ProofProblem)
      → on_pairs (conditions system) left p (Ok subproblems) → on_pairs (conditions system) left p (Ok others) → subproblems ≡ others
  leaves_once system p subproblems others h k = let e = (one_answer system p).once (Ok subproblems) (Ok others) h k in cc

  sound_value : (system : System) (numbers : List ℕ) (value : A) (subproblems : List ProofProblem) → IsSystem system → keeps_rules system
      → conditions system numbers (Ok value) → Returns (left value) (Ok subproblems) → AllHold system subproblems → IsFiniteOf system numbers
  sound_value system numbers value _ valid keeps h returned each = is.concludes system numbers value valid keeps h each

  sound : (system : System) (p : ProofProblem) (subproblems : List ProofProblem) → IsSystem system → keeps_rules system
      → on_pairs (conditions system) left p (Ok subproblems) → AllHold system subproblems → Holds system p
  sound system (problem.dp numbers) subproblems valid keeps (goes_on value _ h k) each = sound_value system numbers value subproblems valid keeps h k each
  sound system _ subproblems valid keeps h each = absurd h

  well_made_value : (system : System) (numbers : List ℕ) (value : A) (subproblems : List ProofProblem) → keeps_rules system → conditions system numbers (Ok value)
      → Returns (left value) (Ok subproblems) → IsWellMadeProblem system (problem.dp numbers) → AreWellMadeProblems system subproblems
  well_made_value system numbers value _ keeps h returned well = is.well_made system numbers value keeps h well

  well_made : (system : System) (p : ProofProblem) (subproblems : List ProofProblem) → IsWellMadeProblem system p → keeps_rules system
      → on_pairs (conditions system) left p (Ok subproblems) → AreWellMadeProblems system subproblems
  well_made system (problem.dp numbers) subproblems well keeps (goes_on value _ h k) = well_made_value system numbers value subproblems keeps h k well
  well_made system _ subproblems well keeps h = absurd h

  pub pairs_sound : IsSound (pairs_kind keeps_rules conditions left)
  pairs_sound = record {
    one_answer = λ system p valid. one_answer system p;
    leaves_once = leaves_once;
    sound = λ system p subproblems valid made for h each. sound system p subproblems valid made h each;
    well_made = λ system p subproblems well made h. well_made system p subproblems well made h;
  }

-- ---- steps that remove pairs

-- the problem of no pairs is finite
no_pairs : (all pairs : List DependencyPair) → ArePairsOf all [] pairs → (p : DependencyPair) → In p pairs → ⊥
no_pairs all [] are p i = no_in i
no_pairs all (q ∷ pairs) are p i = absurd cc

finite_if_any : (system : System) (left : List ℕ) → AllHold system (problem_if_any left) → IsFiniteOf system left
finite_if_any system [] each = λ pairs are. no_pairs_end system pairs (no_pairs (dependency_pairs system.rules) pairs are)
finite_if_any system (n ∷ left) each = each.0

remain_well_made : (system : System) (numbers left : List ℕ) → Remain numbers left → IsWellMadeProblem system (problem.dp numbers) → AreWellMadeProblems system (problem_if_any left)
remain_well_made system numbers [] remain well = tt
remain_well_made system numbers (n ∷ left) remain well = ((remain.ascending well.0, remain.below (length (dependency_pairs system.rules)) well.1), tt)

-- what conditions have to keep whose value is the pairs that remain
pub record RemovesPairs (keeps_rules : System → Type 0) (conditions : System → List ℕ → Check (List ℕ)) : Type 0 where
  pub one_answer : (system : System) (numbers : List ℕ) → HasOneAnswer (conditions system numbers)
  pub concludes : (system : System) (numbers left : List ℕ) → IsSystem system → keeps_rules system → conditions system numbers (Ok left)
      → IsFiniteOf system left → IsFiniteOf system numbers
  pub remain : (system : System) (numbers left : List ℕ) → conditions system numbers (Ok left) → Remain numbers left

pub removal_sound : (keeps_rules : System → Type 0) (conditions : System → List ℕ → Check (List ℕ)) → RemovesPairs keeps_rules conditions
    → IsSound (removal_kind keeps_rules conditions)
removal_sound keeps_rules conditions removes = pairs_sound keeps_rules conditions problem_if_any (record {
  one_answer = removes.one_answer;
  concludes = λ system numbers left valid keeps h each. removes.concludes system numbers left valid keeps h (finite_if_any system left each);
  well_made = λ system numbers left keeps h well. remain_well_made system numbers left (removes.remain system numbers left h) well;
})
