-- What the calls on steps answer.
use Rattle.std.specs.Prelude.{◌≡◌, ℕ, List, false, Some, None, IsSome, slice_get}
use Rattle.trs_defs.specs.Tree.{Tree}
use Rattle.trs_defs.specs.Size.{within_limits}
use Rattle.trs_defs.specs.Substitution.{IsInstance}
use Rattle.trs_defs.specs.Position.{subterm_at}
use Rattle.trs_defs.specs.System.{RewriteRule}
use Rattle.trs_defs.specs.Path.{StepsAt}
use Rattle.trs_core.specs.declared.applying.ApplySize.{ApplySize}
use Rattle.trs_core.specs.declared.applying.ApplySize.TheVariants as size
use Rattle.term_pool.specs.declared.steps.StepFault.{StepFault}
use Rattle.term_pool.specs.declared.steps.StepFault.TheVariants.{NoPosition, NoMatch, NoRule, TooLarge, OutOfMemory}

abbrev pub fault_of_size : ApplySize → StepFault
fault_of_size size.TooLarge = TooLarge
fault_of_size size.OutOfMemory = OutOfMemory

-- the rule and the position are there, and the subterm at it is no instance of the rule's left side
pub record HasNoMatch (rules : List RewriteRule) (p : List ℕ) (k : ℕ) (t : Tree) : Type 0 where
  pub rule : RewriteRule
  pub numbered : slice_get rules k ≡ Some rule
  pub part : Tree
  pub there : subterm_at p t ≡ Some part
  pub none : IsInstance rule.left part → ⊥

-- the step is there, and its result passes the limits
pub record IsTooLarge (rules : List RewriteRule) (p : List ℕ) (k : ℕ) (t : Tree) : Type 0 where
  pub result : Tree
  pub steps : StepsAt rules p k t result
  pub large : within_limits result ≡ false

-- why no step is made; want of memory needs no cause
abbrev pub IsStepFault : List RewriteRule → List ℕ → ℕ → Tree → StepFault → Type 0
IsStepFault rules p k t NoRule = slice_get rules k ≡ None
IsStepFault rules p k t NoPosition = IsSome (slice_get rules k) × (subterm_at p t ≡ None)
IsStepFault rules p k t NoMatch = HasNoMatch rules p k t
IsStepFault rules p k t TooLarge = IsTooLarge rules p k t
IsStepFault rules p k t OutOfMemory = Unit {0}
