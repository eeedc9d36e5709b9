-- The checks of one rule, in order.
use Rattle.std.specs.Prelude.{◌≡◌, ℕ, List, Some, None}
use Rattle.trs_defs.specs.Variable.{IsVariable}
use Rattle.trs_defs.specs.WellFormed.{IsWellFormed}
use Rattle.trs_defs.specs.System.{RewriteRule}
use Rattle.trs_core.specs.SystemLimits.{HasSmallVariables}
use Rattle.trs_core.specs.Occurrences.{extra_variable}
use Rattle.trs_core.specs.declared.faults.TrsFault.{TrsFault}
use Rattle.trs_core.specs.declared.faults.TrsFault.TheVariants.{LeftIsVariable, ExtraVariable, WrongArity, BadVariable, TooMany, OutOfMemory}

-- no check finds a fault
pub record IsFaultless (arities : List ℕ) (r : RewriteRule) : Type 0 where
  pub left_no_variable : IsVariable r.left → ⊥
  pub no_extra : extra_variable r ≡ None
  pub left_well_formed : IsWellFormed arities r.left
  pub right_well_formed : IsWellFormed arities r.right
  pub left_small : HasSmallVariables r.left
  pub right_small : HasSmallVariables r.right

-- the first check that finds a fault in rule number k finds this one
abbrev pub IsFirstRuleFault : List ℕ → RewriteRule → ℕ → TrsFault → Type 0
IsFirstRuleFault arities r k (LeftIsVariable i) = (i ≡ k) × IsVariable r.left
IsFirstRuleFault arities r k (ExtraVariable i v) = (i ≡ k) × (IsVariable r.left → ⊥) × (extra_variable r ≡ Some v)
IsFirstRuleFault arities r k (WrongArity i) =
    (i ≡ k) × (IsVariable r.left → ⊥) × (extra_variable r ≡ None) × (IsWellFormed arities r.left → IsWellFormed arities r.right → ⊥)
IsFirstRuleFault arities r k (BadVariable i) =
    (i ≡ k) × (IsVariable r.left → ⊥) × (extra_variable r ≡ None) × IsWellFormed arities r.left × IsWellFormed arities r.right
    × (HasSmallVariables r.left → HasSmallVariables r.right → ⊥)
IsFirstRuleFault arities r k TooMany = ⊥
IsFirstRuleFault arities r k OutOfMemory = Unit {0}
