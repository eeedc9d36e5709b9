-- The ids of variables in a pool, by their numbers.
use Rattle.std.specs.Prelude.{◌≡◌, ℕ, List, Some, slice_get}
use Rattle.trs_defs.specs.Tree.{Tree, var}
use Rattle.term_pool.specs.Pooled.{StandsFor}
use Rattle.crit_pairs.specs.declared.numbered_variables.NumberedVariables.{NumberedVariables}

-- each id that is known stands for the variable of its place
pub record AreVariableIds (pool : List Tree) (variables : NumberedVariables) : Type 0 where
  pub each : (k id : ℕ) → slice_get variables.ids.items k ≡ Some (Some id) → StandsFor pool id (var k)
