-- Sides of rules in a pool.
use Rattle.std.specs.Prelude.{◌≡◌, ◌+◌, ℕ, List, All, map}
use Rattle.trs_defs.specs.Tree.{Tree, var}
use Rattle.trs_defs.specs.Variable.{variables_of}
use Rattle.trs_defs.specs.Substitution.{apply}
use Rattle.trs_defs.specs.Renaming.{shifted}
use Rattle.term_pool.specs.Pooled.{StandsFor, tree_at}
use Rattle.crit_pairs.specs.Meeting.{solution}
use Rattle.crit_pairs.specs.Numbered.{placed}
use Rattle.crit_pairs.specs.declared.binding_table.Bindings.{Bindings}
use Rattle.crit_pairs.specs.declared.pooled_side.PooledSide.{PooledSide}
use Rattle.crit_pairs.specs.declared.pooled_side.PooledVariable.{PooledVariable}

-- the id stands for the variable
abbrev pub HasOwnId : List Tree → PooledVariable → Type 0
HasOwnId pool x = StandsFor pool x.id (var x.number)

-- the numbers of the listed variables
abbrev pub numbers_of : List PooledVariable → List ℕ
numbers_of xs = map (λ (x : PooledVariable). x.number) xs

-- the side is this term, and its variables are listed, each once
pub record IsPooledSide (pool : List Tree) (t : Tree) (side : PooledSide) : Type 0 where
  pub stands : StandsFor pool side.id t
  pub ids : All (HasOwnId pool) side.variables.items
  pub listed : numbers_of side.variables.items ≡ variables_of t

-- the term of the side
abbrev pub side_tree : List Tree → PooledSide → Tree
side_tree pool side = tree_at pool side.id

-- the instance of the side, whose variables behind this number are meant
abbrev pub side_instance : Bindings → ℕ → List Tree → PooledSide → Tree
side_instance bindings from pool side = apply (solution bindings) (shifted from (side_tree pool side))

-- the instance of a variable of the side, with the places of its variables among the names for them
abbrev pub value_of : Bindings → ℕ → List ℕ → ℕ → Tree
value_of bindings from names v = placed names (solution bindings (from + v))
