-- What a run of a path answers.
use Rattle.std.specs.Prelude.{◌≡◌, ◌≢◌, ℕ, List, Some, take, slice_get}
use Rattle.trs_defs.specs.Tree.{Tree}
use Rattle.trs_defs.specs.System.{RewriteRule}
use Rattle.trs_defs.specs.Path.{PlacedRule, Follows}
use Rattle.term_pool.specs.declared.steps.StepFault.{StepFault}
use Rattle.term_pool.specs.declared.steps.StepFault.TheVariants as steps
use Rattle.term_pool.specs.declared.paths.PathFault.{PathFault}
use Rattle.term_pool.specs.declared.paths.PathFault.TheVariants.{At, OutOfMemory}
use Rattle.term_pool.specs.Steps.{IsStepFault}

-- the steps before number k can be made, and step k can not, for this reason
pub record PathStops (rules : List RewriteRule) (path : List PlacedRule) (t : Tree) (k : ℕ) (f : StepFault) : Type 0 where
  pub made : Tree
  pub follows : Follows rules (take k path) t made
  pub step : PlacedRule
  pub there : slice_get path k ≡ Some step
  pub fault : IsStepFault rules step.place step.rule made f
  pub no_memory : f ≢ steps.OutOfMemory

abbrev pub IsPathFault : List RewriteRule → List PlacedRule → Tree → PathFault → Type 0
IsPathFault rules path t (At k f) = PathStops rules path t k f
IsPathFault rules path t OutOfMemory = Unit {0}

-- want of memory has no place
abbrev pub fault_at : ℕ → StepFault → PathFault
fault_at k steps.OutOfMemory = OutOfMemory
fault_at k steps.NoRule = At k steps.NoRule
fault_at k steps.NoPosition = At k steps.NoPosition
fault_at k steps.NoMatch = At k steps.NoMatch
fault_at k steps.TooLarge = At k steps.TooLarge
