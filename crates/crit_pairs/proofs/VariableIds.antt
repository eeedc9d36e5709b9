-- The ids of variables in a pool that has grown.
use Rattle.std.proofs.Common.{List}
use Rattle.trs_defs.specs.Tree.{Tree, var}
use Rattle.term_pool.specs.Pooled.{Extends}
use Rattle.crit_pairs.specs.declared.numbered_variables.NumberedVariables.{NumberedVariables}
use Rattle.crit_pairs.specs.NumberedVariables.{AreVariableIds}

pub variable_ids_on : (old new : List Tree) (variables : NumberedVariables) → Extends old new → AreVariableIds old variables → AreVariableIds new variables
variable_ids_on old new variables kept h = record { each = λ k id at. kept.kept id (var k) (h.each k id at) }
