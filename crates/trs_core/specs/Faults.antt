-- The faults of an arity table and a list of rules that are no system within the limits.
use Rattle.std.specs.Prelude.{◌≡◌, ◌≤◌, ℕ, ◌+◌, ◌*◌, List, Some, slice_get}
use Rattle.trs_defs.specs.Variable.{IsVariable}
use Rattle.trs_defs.specs.WellFormed.{IsWellFormed}
use Rattle.trs_defs.specs.System.{RewriteRule, System}
use Rattle.trs_core.specs.SystemLimits.{IsWithinLimits, HasSmallVariables}
use Rattle.trs_core.specs.Occurrences.{extra_variable}
use Rattle.trs_core.specs.declared.faults.TrsFault.{TrsFault}
use Rattle.trs_core.specs.declared.faults.TrsFault.TheVariants.{LeftIsVariable, ExtraVariable, WrongArity, BadVariable, TooMany, OutOfMemory}

-- the rule has this fault, whatever the number in it
abbrev pub IsRuleFault : List ℕ → RewriteRule → TrsFault → Type 0
IsRuleFault arities r (LeftIsVariable i) = IsVariable r.left
IsRuleFault arities r (ExtraVariable i v) = extra_variable r ≡ Some v
IsRuleFault arities r (WrongArity i) = IsWellFormed arities r.left → IsWellFormed arities r.right → ⊥
IsRuleFault arities r (BadVariable i) = HasSmallVariables r.left → HasSmallVariables r.right → ⊥
IsRuleFault arities r TooMany = ⊥
IsRuleFault arities r OutOfMemory = ⊥

-- rule number i has the fault
abbrev HasFaultAt : System → ℕ → TrsFault → Type 0
HasFaultAt s i fault = (r : RewriteRule) × (slice_get s.rules i ≡ Some r) × IsRuleFault s.arities r fault

-- what the fault says holds of the system; want of memory says nothing of it
abbrev pub HasSystemFault : System → TrsFault → Type 0
HasSystemFault s (LeftIsVariable i) = HasFaultAt s i (LeftIsVariable i)
HasSystemFault s (ExtraVariable i v) = HasFaultAt s i (ExtraVariable i v)
HasSystemFault s (WrongArity i) = HasFaultAt s i (WrongArity i)
HasSystemFault s (BadVariable i) = HasFaultAt s i (BadVariable i)
HasSystemFault s TooMany = IsWithinLimits s → ⊥
HasSystemFault s OutOfMemory = ⊥

-- which fault comes first: too many, and then by rules, and in a rule in this order
abbrev pub test_number : TrsFault → ℕ
test_number TooMany = 0
test_number (LeftIsVariable i) = 4 * i + 1
test_number (ExtraVariable i v) = 4 * i + 2
test_number (WrongArity i) = 4 * i + 3
test_number (BadVariable i) = 4 * i + 4
test_number OutOfMemory = 0

-- the system has the fault, and none that comes before it
pub record IsFirstFault (s : System) (fault : TrsFault) : Type 0 where
  pub holds : HasSystemFault s fault
  pub first : (other : TrsFault) → HasSystemFault s other → test_number fault ≤ test_number other
