-- Systems within the limits.
use Rattle.std.specs.Prelude.{ℕ, List}
use Rattle.trs_defs.specs.System.{RewriteRule, System, IsSystem}
use Rattle.trs_core.specs.SystemLimits.{IsWithinLimits, HaveSmallVariables}

-- an arity table and rules as one
abbrev pub system : List ℕ → List RewriteRule → System
system arities rules = record { arities = arities; rules = rules }

-- a system, within the limits, whose variables have numbers below 65,536
pub record IsValid (system : System) : Type 0 where
  pub is_system : IsSystem system
  pub within_limits : IsWithinLimits system
  pub small_variables : HaveSmallVariables system.rules
