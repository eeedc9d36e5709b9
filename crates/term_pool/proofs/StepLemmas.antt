-- The parts of a step put together, and what its faults exclude.
use Rattle.std.proofs.Common.{◌≡◌, ◌≢◌, ℕ, ◌<◌, List, length, get_or, Some, IsTrue, slice_get, refl}
use Rattle.std.proofs.lemmas.Option.{slice_get_read}
use Rattle.trs_defs.specs.Tree.{Tree}
use Rattle.trs_defs.specs.Size.{within_limits}
use Rattle.trs_defs.specs.Substitution.{apply}
use Rattle.trs_defs.specs.Position.{subterm_at, replaced_at}
use Rattle.trs_defs.specs.System.{RewriteRule, System, IsSystem}
use Rattle.trs_defs.specs.Path.{StepsAt}
use Rattle.trs_defs.proofs.Places.{steps_at_once}
use Rattle.term_pool.specs.Placing.{IsTooLargePut}
use Rattle.term_pool.specs.Steps.{IsStepFault, IsTooLarge}
use Rattle.term_pool.specs.declared.steps.StepFault.{StepFault}
use Rattle.term_pool.specs.declared.steps.StepFault.TheVariants as fault

-- the rule that a look-up lent
pub rule_numbered : (rules lent : List RewriteRule) (k : ℕ) (rule : RewriteRule) (left right : Tree)
    → lent ≡ rules → k < length lent → rule ≡ get_or lent k rule → record { left = left; right = right } ≡ rule → slice_get rules k ≡ Some (record { left = left; right = right })
rule_numbered rules lent k rule left right same h is view = rw (← same, view) (slice_get_read lent (length lent) k rule refl h is)

module _ (rules : List RewriteRule) (p : List ℕ) (k : ℕ) (t part left right : Tree) (s : ℕ → Tree)
    (numbered : slice_get rules k ≡ Some (record { left = left; right = right })) (there : subterm_at p t ≡ Some part) (matched : apply s left ≡ part) where
  pub step_to : (u : Tree) → replaced_at p t (apply s right) ≡ Some u → StepsAt rules p k t u
  step_to u is = record { rule = record { left = left; right = right }; numbered = numbered; substitution = s; from = rw matched there; to = is }

  pub step_too_large : IsTooLargePut p t (apply s right) → IsTooLarge rules p k t
  step_too_large h = record { result = h.result; steps = step_to h.result h.put; large = h.large }

-- No fault comes where there is a step.
pub fault_excludes : (system : System) (p : List ℕ) (k : ℕ) (t u : Tree) (f : StepFault) → IsSystem system → IsStepFault system.rules p k t f → f ≢ fault.OutOfMemory
    → StepsAt system.rules p k t u → IsTrue (within_limits u) → ⊥
fault_excludes system p k t u fault.NoRule valid h n s w = absurd cc
fault_excludes system p k t u fault.NoPosition valid h n s w = absurd cc
fault_excludes system p k t u fault.NoMatch valid h n s w =
    let same : h.rule ≡ s.rule = cc in
    h.none (s.substitution, rw same cc)
fault_excludes system p k t u fault.TooLarge valid h n s w =
    let same = steps_at_once system p k t h.result u valid h.steps s in
    absurd cc
fault_excludes system p k t u fault.OutOfMemory valid h n s w = n refl
