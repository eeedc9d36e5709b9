-- The nodes of pairs, one after another.
use Rattle.std.specs.Prelude.{◌≡◌, ◌++◌, ℕ, List, [], ◌∷◌, length, Option, Some, slice_get}
use Rattle.std.specs.List.{AllZip}
use Rattle.trs_defs.specs.System.{RewriteRule}
use Rattle.trs_caps.specs.HoledTree.{HoledTree}
use Rattle.pair_theory.specs.DependencyPair.{DependencyPair, pairs_of}
use Rattle.dp_graph.specs.CapRows.{AreCaps}
use Rattle.dp_graph.specs.GraphNodes.{IsSideNode}
use Rattle.dp_graph.specs.SameLefts.{IsNoted, IsNotedOr, NotesAt}
use Rattle.dp_graph.specs.declared.cap_rows.End.{End}
use Rattle.dp_graph.specs.declared.graph.Node.{Node}
use Rattle.dp_graph.specs.declared.nodes.Nodes.{Nodes}

-- each node has the number of one with its row
abbrev pub ShareRows : List Node → Type 0
ShareRows nodes = (n : ℕ) (node : Node) → slice_get nodes n ≡ Some node → (other : Node) × (slice_get nodes node.first ≡ Some other) × (other.row ≡ node.row)

-- the node is that of a pair with this rule and this root on its left side, whose right side has this end
pub record IsNodeAt (caps : List ℕ) (rule from : ℕ) (end : End) (node : Node) : Type 0 where
  pub rule_is : node.rule ≡ rule
  pub from_is : node.from ≡ from
  pub to_is : node.to ≡ end.symbol
  pub row_is : (r : ℕ) → slice_get caps end.cap ≡ Some r → node.row ≡ r

-- the node of one pair more
pub record AddsNode (rule from : ℕ) (end : End) (old new : Nodes) : Type 0 where
  pub node : Node
  pub nodes : new.nodes.items ≡ old.nodes.items ++ node ∷ []
  pub is : IsNodeAt old.caps.caps.items rule from end node
  pub caps : new.caps ≡ old.caps
  pub first : IsNotedOr old.seen.items node.row (length old.nodes.items) node.first
  pub notes : NotesAt node.row node.first old.seen.items new.seen.items

-- each node has the number of one with its row, and so have the rows that were seen
pub record AreShared (nodes : List Node) (seen : List (Option ℕ)) : Type 0 where
  pub shared : ShareRows nodes
  pub noted : (r j : ℕ) → IsNoted seen r j → (node : Node) × (slice_get nodes j ≡ Some node) × (node.row ≡ r)

-- the nodes of pairs with this rule and this root on their left sides, whose right sides have these ends, are added
pub record AddsNodes (rule from : ℕ) (ends : List End) (old new : Nodes) : Type 0 where
  pub added : List Node
  pub grown : new.nodes.items ≡ old.nodes.items ++ added
  pub each : AllZip (IsNodeAt old.caps.caps.items rule from) ends added
  pub caps : new.caps ≡ old.caps
  pub seen : AreShared old.nodes.items old.seen.items → AreShared new.nodes.items new.seen.items

-- The nodes are those of these pairs, by the rules that are noted for left sides. Each has the number of one with its row.
pub record AreNodes (rules : List RewriteRule) (lefts : List (Option ℕ)) (pairs : List DependencyPair) (nodes : Nodes) : Type 0 where
  pub caps : List HoledTree
  pub are : AreCaps rules lefts nodes.caps caps
  pub each : AllZip (IsSideNode rules lefts nodes.caps.rows.rows.items) pairs nodes.nodes.items
  pub shared : AreShared nodes.nodes.items nodes.seen.items

-- the nodes of the pairs of a rule are added, if rule number j, or none, is noted for its left side
abbrev pub AddsRule : List RewriteRule → List (Option ℕ) → RewriteRule → Option ℕ → Nodes → Nodes → Type 0
AddsRule rules lefts rule j old new =
    (k : ℕ) (pairs : List DependencyPair) → slice_get rules k ≡ Some rule → slice_get lefts k ≡ Some j → AreNodes rules lefts pairs old
    → AreNodes rules lefts (pairs ++ pairs_of rules rule.left rule.right) new
