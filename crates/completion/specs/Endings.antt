-- How a run of completion ends, and what an ending says of the equations.
use Rattle.std.specs.Prelude.{List}
use Rattle.trs_defs.specs.Tree.{Tree}
use Rattle.trs_defs.specs.System.{RewriteRule, System}
use Rattle.trs_defs.specs.Step.{Step}
use Rattle.trs_defs.specs.Claims.{IsTerminating, IsConfluent}
use Rattle.completion.specs.Conversion.{Converted, HaveSameConversions}

pub data Ending : Type 0 where
  Done : List RewriteRule → Ending
  Unorientable : Tree → Tree → Ending
  Spent : Ending
  Limit : Ending

-- the equations' arity table with these rules
abbrev pub with_rules : System → List RewriteRule → System
with_rules equations rules = record { arities = equations.arities; rules = rules }

-- the rules are a terminating and confluent system, and convert what the equations convert
pub record IsConvergentFor (equations : System) (rules : List RewriteRule) : Type 0 where
  pub terminating : IsTerminating (with_rules equations rules)
  pub confluent : IsConfluent (with_rules equations rules)
  pub conversions : HaveSameConversions rules equations.rules

-- rules that end it are convergent; of a pair that ends it, which the equations convert, neither side is greater
abbrev pub IsRightEnding : System → (Tree → Tree → Type 0) → Ending → Type 0
IsRightEnding equations greater (Done rules) = IsConvergentFor equations rules
IsRightEnding equations greater (Unorientable s t) = Converted (Step equations.rules) s t × (greater s t → ⊥) × (greater t s → ⊥)
IsRightEnding equations greater Spent = Unit {0}
IsRightEnding equations greater Limit = Unit {0}
