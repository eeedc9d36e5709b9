-- Comparisons that are remembered.
use Rattle.std.specs.Prelude.{ℕ, List, All}
use Rattle.path_lpo.specs.Comparison.{IsComparison}
use Rattle.path_lpo.specs.Graph.{tree_at}
use Rattle.path_lpo.specs.declared.nodes.Node.{Node}
use Rattle.path_lpo.specs.declared.memo.Known.{Known}
use Rattle.path_lpo.specs.declared.comparison.Comparison.{Comparison}

-- the comparison is that of the terms of the graph
abbrev pub IsTrueOf : (ℕ → ℕ) → List Node → Known → Type 0
IsTrueOf rank nodes k = IsComparison rank (tree_at nodes k.left) (tree_at nodes k.right) k.comparison

abbrev pub AreTrueOf : (ℕ → ℕ) → List Node → List Known → Type 0
AreTrueOf rank nodes known = All (IsTrueOf rank nodes) known

abbrev pub AreAlwaysTrue : List Known → Type 0
AreAlwaysTrue known = (rank : ℕ → ℕ) (nodes : List Node) → AreTrueOf rank nodes known

-- the new ones are true where the old ones are
abbrev pub StaysTrue : List Known → List Known → Type 0
StaysTrue old new = (rank : ℕ → ℕ) (nodes : List Node) → AreTrueOf rank nodes old → AreTrueOf rank nodes new

-- the terms of the numbers compare so, if what is known is true
abbrev pub IsKnown : List Known → ℕ → ℕ → Comparison → Type 0
IsKnown known s t c = (rank : ℕ → ℕ) (nodes : List Node) → AreTrueOf rank nodes known → IsComparison rank (tree_at nodes s) (tree_at nodes t) c

-- the new ones are true where the old ones are, and the terms of the numbers compare so
abbrev pub Remembers : List Known → ℕ → ℕ → Comparison → List Known → Type 0
Remembers old s t c new =
    (rank : ℕ → ℕ) (nodes : List Node) → AreTrueOf rank nodes old → IsComparison rank (tree_at nodes s) (tree_at nodes t) c → AreTrueOf rank nodes new
