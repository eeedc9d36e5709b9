-- The variables seen so far, as a set and as a list.
use Rattle.std.specs.Prelude.{◌≡◌, ℕ, List}
use Rattle.trs_defs.specs.Variable.{is_listed}
use Rattle.trs_core.specs.VariableSet.{holds}
use Rattle.trs_core.specs.declared.variable_set.VariableSet.{VariableSet}

-- the set has the items of the list, and no others
abbrev pub HasItems : VariableSet → List ℕ → Type 0
HasItems seen items = (v : ℕ) → holds seen v ≡ is_listed v items
