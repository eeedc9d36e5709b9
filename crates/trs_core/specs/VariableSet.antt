-- Sets of variables: the first ones, and others.
use Rattle.std.specs.Prelude.{ℕ, Bool, ◌||◌, nat_lt}
use Rattle.std.specs.Ordering.{nat_cmp}
use Rattle.std.specs.BTreeSet.{contains}
use Rattle.trs_core.specs.declared.variable_set.VariableSet.{VariableSet}

-- whether v is in the set
abbrev pub holds : VariableSet → ℕ → Bool
holds set v = nat_lt v set.first || contains nat_cmp set.others v
