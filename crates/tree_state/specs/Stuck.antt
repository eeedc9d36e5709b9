-- The stuck nodes of a board, and what is reported of them.
use Rattle.std.specs.Prelude.{◌&&◌, ℕ, Bool, true, false, List, [], ◌∷◌, Option, Some, None, slice_get}
use Rattle.std.specs.Option.{is_none}
use Rattle.tree_definitions.specs.strategies.declared.failure.Failure.TheVariants.{Spent}
use Rattle.tree_definitions.specs.strategies.declared.strategy.Strategy.{Strategy}
use Rattle.tree_definitions.specs.declared.mark.Mark.{Mark}
use Rattle.tree_definitions.specs.declared.mark.Mark.TheVariants.{Failed}
use Rattle.tree_definitions.specs.States.{TreeNode}
use Rattle.tree_state.specs.Parts.{all_failed}

-- whether there is a node, open, of which all strategies have failed
abbrev pub is_stuck : Option TreeNode → Bool
is_stuck None = false
is_stuck (Some node) = is_none node.decision && all_failed node.marks

abbrev pub is_stuck_at : List TreeNode → ℕ → Bool
is_stuck_at nodes n = is_stuck (slice_get nodes n)

-- whether a strategy failed by its budget
abbrev pub is_spent : Mark → Bool
is_spent (Failed Spent) = true
is_spent _ = false

-- the strategies in order, and whether each failed by its budget
abbrev pub failures : List Strategy → List Mark → List (Strategy × Bool)
failures [] marks = []
failures (s ∷ strategies) [] = []
failures (s ∷ strategies) (m ∷ marks) = (s, is_spent m) ∷ failures strategies marks
