-- What is found for a problem of pairs applies to it, as do the steps that are always found.
use Rattle.std.specs.Prelude.{◌≡◌, ◌⊎◌, ℕ, List, [], ◌∷◌, Result, Ok, Err, IfOk}
use Rattle.std.proofs.Common.{refl, sym, subst, inl, inr}
use Rattle.trs_defs.specs.System.{System}
use Rattle.pair_theory.specs.DependencyPair.{dependency_pairs}
use Rattle.rewrite_core.specs.Check.{holds, returned, goes_on}
use Rattle.cert_step.specs.dp_core.Numbered.{numbers_from}
use Rattle.cert_step.specs.dp_core.SubtermConditions.{subterm_conditions}
use Rattle.cert_step.specs.dp_core.PairConditions.{pair_conditions}
use Rattle.cert_step.specs.usable_rules.UsableConditions.{usable_conditions}
use Rattle.cert_step.specs.path_lpo.Table.{PathEntry}
use Rattle.cert_step.specs.kbo_order.declared.entries.KboEntry.{KboEntry}
use Rattle.cert_step.specs.ProofProblem as problem
use Rattle.cert_step.specs.ProofProblem.{ProofProblem}
use Rattle.cert_step.specs.ProofStep as step
use Rattle.cert_step.specs.OnPairs.{problem_if_any}
use Rattle.cert_step.specs.PolyKind.{poly_comparing}
use Rattle.cert_step.specs.LpoKind.{lpo_comparing}
use Rattle.cert_step.specs.KboKind.{kbo_comparing}
use Rattle.trs_core.specs.declared.memory.OutOfMemory.{OutOfMemory}
use Rattle.cert_step.specs.dp_graph.GroupOrSingle.{GroupOrSingle, groups_of}
use Rattle.cert_step.specs.dp_graph.Laws.{ComponentsPass}
use Rattle.cert_step.specs.ProofStep.{ProofStep}
use Rattle.cert_step.specs.GraphKind.{group_problems}
use Rattle.strategies.specs.declared.failure.Failure.{Failure}
use Rattle.strategies.specs.declared.strategy.Strategy.{Strategy}
use Rattle.strategies.specs.declared.strategy.Strategy.TheVariants as strategy
use Rattle.strategies.specs.declared.outcome.Findings.{Findings}
use Rattle.strategies.specs.Rows.{AreComponentsOf}
use Rattle.strategies.specs.Conditions.{Finds, Fails, confluence_is_found, newman_confluence_is_found}
use Rattle.strategies.specs.Truth.{AreTrueFindings}
use Rattle.cert_step.specs.Applies.{DoesApply}
use Rattle.strategies.specs.Endings.{AreTrueIfFound, FindsStep}

pub dp_applies : (system : System) → DoesApply system problem.sn step.dp
dp_applies system = (problem.dp (numbers_from 0 (dependency_pairs system.rules)) ∷ [], goes_on tt _ (holds refl) returned)

pub confluence_applies : (system : System) (p : ProofProblem) → (p ≡ problem.unr) ⊎ (p ≡ problem.unr_newman) → DoesApply system p step.confluence
confluence_applies system p e = elim e [
  | inl same ↦ subst (λ q. DoesApply system q step.confluence) (sym same) (problem.cr ∷ [], goes_on tt _ (holds refl) returned)
  | inr same ↦ subst (λ q. DoesApply system q step.confluence) (sym same) (problem.cr_newman ∷ [], goes_on tt _ (holds refl) returned)
]

module _ (system : System) (numbers : List ℕ) where
  pub subterm_applies : (projection : List (ℕ × ℕ)) → (left : List ℕ) × subterm_conditions (dependency_pairs system.rules) projection numbers (Ok left)
      → DoesApply system (problem.dp numbers) (step.subterm projection)
  subterm_applies projection h = (problem_if_any h.0, goes_on tt _ (holds refl) (goes_on h.0 _ h.1 returned))

  pub poly_applies : (entries : List (ℕ × List ℕ)) → (left : List ℕ) × pair_conditions (poly_comparing entries) system.rules (dependency_pairs system.rules) numbers (Ok left)
      → DoesApply system (problem.dp numbers) (step.poly entries)
  poly_applies entries h = (problem_if_any h.0, goes_on tt _ (holds refl) (goes_on h.0 _ h.1 returned))

  pub lpo_applies : (entries : List PathEntry) → (left : List ℕ) × pair_conditions (lpo_comparing entries) system.rules (dependency_pairs system.rules) numbers (Ok left)
      → DoesApply system (problem.dp numbers) (step.lpo entries)
  lpo_applies entries h = (problem_if_any h.0, goes_on tt _ (holds refl) (goes_on h.0 _ h.1 returned))

  pub kbo_applies : (entries : List KboEntry) → (left : List ℕ) × pair_conditions (kbo_comparing entries) system.rules (dependency_pairs system.rules) numbers (Ok left)
      → DoesApply system (problem.dp numbers) (step.kbo entries)
  kbo_applies entries h = (problem_if_any h.0, goes_on tt _ (holds refl) (goes_on h.0 _ h.1 returned))

  pub usable_applies : (entries : List (ℕ × List ℕ)) → (left : List ℕ) × usable_conditions (poly_comparing entries) system.rules (dependency_pairs system.rules) numbers (Ok left)
      → DoesApply system (problem.dp numbers) (step.usable_poly entries)
  usable_applies entries h = (problem_if_any h.0, goes_on tt _ (holds refl) (goes_on h.0 _ h.1 returned))

  pub graph_applies : (items : List GroupOrSingle) → ComponentsPass → AreComponentsOf system numbers items → DoesApply system (problem.dp numbers) (step.graph items)
  graph_applies items law are =
      (group_problems (groups_of items), goes_on tt _ (holds refl) (goes_on (groups_of items) _ (law system.rules (dependency_pairs system.rules) numbers items are) returned))

-- ---- a step that is found

-- the strategy finds the step for the same problem of the same system
pub finds_for : (prepared system : System) (budget : ℕ) (s : Strategy) (p q : ProofProblem) (made st : ProofStep) → prepared ≡ system → p ≡ q → made ≡ st
    → FindsStep system budget s q st → FindsStep prepared budget s p made
finds_for prepared system budget s p q made st same is e h =
    subst (λ x. FindsStep x budget s p made) (sym same)
    (subst (λ x. FindsStep system budget s x made) (sym is) (subst (λ x. FindsStep system budget s q x) (sym e) h))

-- findings that are true where the strategy finds the step are true
pub found_for : (prepared system : System) (budget : ℕ) (s : Strategy) (p : ProofProblem) (st : ProofStep) (findings : Findings) → prepared ≡ system
    → AreTrueIfFound prepared p st findings → Finds system budget s p st → AreTrueFindings system budget s p findings
found_for prepared system budget s p st findings same are finds =
    subst (λ x. AreTrueFindings x budget s p findings) same (are budget s (subst (λ x. Finds x budget s p st) (sym same) finds))

-- the same of what a call answers, where the step is always found
pub found_always : (prepared system : System) (s : Strategy) (p : ProofProblem) (st : ProofStep) (result : Result Findings OutOfMemory) → prepared ≡ system
    → ((budget : ℕ) → Finds system budget s p st) → IfOk result (AreTrueIfFound prepared p st)
    → IfOk result (λ findings. (budget : ℕ) → AreTrueFindings system budget s p findings)
found_always prepared system s p st (Ok findings) same finds are = λ budget. found_for prepared system budget s p st findings same are (finds budget)
found_always prepared system s p st (Err fault) same finds are = tt

pub confluence_found : (system : System) (budget : ℕ) (p : ProofProblem) → (p ≡ problem.unr) ⊎ (p ≡ problem.unr_newman)
    → Finds system budget strategy.Confluence p step.confluence
confluence_found system budget p e = elim e [
  | inl same ↦ subst (λ x. Finds system budget strategy.Confluence x step.confluence) (sym same) confluence_is_found
  | inr same ↦ subst (λ x. Finds system budget strategy.Confluence x step.confluence) (sym same) newman_confluence_is_found
]

pub failed_for : (system : System) (budget : ℕ) (s : Strategy) (p q : ProofProblem) (failure : Failure) → p ≡ q → Fails system budget s q failure → Fails system budget s p failure
failed_for system budget s p q failure is fails = subst (λ x. Fails system budget s x failure) (sym is) fails
