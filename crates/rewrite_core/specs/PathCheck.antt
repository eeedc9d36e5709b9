-- Paths that a step of a proof must follow.
use Rattle.std.specs.Prelude.{◌≡◌, ℕ, List, Result, Ok, Err}
use Rattle.trs_defs.specs.Tree.{Tree}
use Rattle.trs_defs.specs.System.{RewriteRule}
use Rattle.trs_defs.specs.Path.{PlacedRule, Follows}
use Rattle.term_pool.specs.declared.steps.StepFault.{StepFault}
use Rattle.term_pool.specs.declared.steps.StepFault.TheVariants as step
use Rattle.term_pool.specs.declared.paths.PathFault.{PathFault}
use Rattle.term_pool.specs.declared.paths.PathFault.TheVariants as fault
use Rattle.rewrite_core.specs.declared.checks.refusals.StepRefused.{StepRefused}
use Rattle.rewrite_core.specs.declared.checks.refusals.StepRefused.TheVariants.{Path}
use Rattle.rewrite_core.specs.declared.checks.refusals.CheckFault.{CheckFault}
use Rattle.rewrite_core.specs.declared.checks.refusals.CheckFault.TheVariants.{Refused, OutOfMemory}
use Rattle.term_pool.specs.Paths.{PathStops}

abbrev pub number_of_fault : StepFault → ℕ
number_of_fault step.NoPosition = 1
number_of_fault step.NoMatch = 2
number_of_fault step.NoRule = 3
number_of_fault step.TooLarge = 4
number_of_fault step.OutOfMemory = 5

-- the path from t is followed up to step k, which is refused for the fault of this number
pub record IsStopped (rules : List RewriteRule) (path : List PlacedRule) (t : Tree) (k fault : ℕ) : Type 0 where
  pub cause : StepFault
  pub stops : PathStops rules path t k cause
  pub number : fault ≡ number_of_fault cause

-- path number `path` of item number `item` must be followed from the start, and its end is the value
pub data Runs (rules : List RewriteRule) (start : Tree) (steps : List PlacedRule) (item path : ℕ) : Result Tree StepRefused → Type 0 where
  followed : (end : Tree) → Follows rules steps start end → Runs rules start steps item path (Ok end)
  stopped : (k fault : ℕ) → IsStopped rules steps start k fault → Runs rules start steps item path (Err (Path item path k fault))

-- what is answered where this path of this item is not followed
abbrev pub path_refusal : ℕ → ℕ → PathFault → CheckFault
path_refusal item path (fault.At k cause) = Refused (Path item path k (number_of_fault cause))
path_refusal item path fault.OutOfMemory = OutOfMemory
