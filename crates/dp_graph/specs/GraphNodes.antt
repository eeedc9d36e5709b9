-- The pairs of a graph, with the rows of the left sides to which edges lead from them.
use Rattle.std.specs.Prelude.{◌≡◌, ◌≤◌, ◌↔◌, ℕ, false, List, length, Option, Some, None, Vec, slice_get}
use Rattle.std.specs.List.{AllZip}
use Rattle.std.specs.declared.alloc.Global.{Global}
use Rattle.trs_defs.specs.System.{RewriteRule, System, IsSystem}
use Rattle.trs_caps.specs.HoledTree.{HoledTree, HoledTrees, symbol}
use Rattle.trs_caps.specs.HoledCap.{AreHoledCaps}
use Rattle.pair_theory.specs.Marked.{Marked, plain}
use Rattle.pair_theory.specs.DependencyPair.{DependencyPair, dependency_pairs}
use Rattle.dp_graph.specs.Edge.{IsEdge}
use Rattle.dp_graph.specs.SameLefts.{HaveSameLefts, IsNoted}
use Rattle.dp_graph.specs.WordRows.{HasWords}
use Rattle.dp_graph.specs.FlagRows.{IsRow}
use Rattle.dp_graph.specs.declared.graph.Node.{Node}

-- the side's symbol over the caps of its arguments
abbrev pub IsEndOf : List RewriteRule → Marked → HoledTree → Type 0
IsEndOf rules side c = (caps : HoledTrees) × AreHoledCaps rules false side.args caps × (c ≡ symbol side.symbol caps)

-- row number n is that of the cap of the pair's right side
abbrev pub IsRowAt : List RewriteRule → List (Option ℕ) → List (Vec ℕ Global) → ℕ → DependencyPair → Type 0
IsRowAt rules lefts rows n p =
    (c : HoledTree) × IsEndOf rules p.to c × ((flags : List ℕ) × HasWords rows n flags × IsRow rules lefts c flags)

-- the same edges lead from pair number n as from this one
abbrev pub LeadsAs : List RewriteRule → ℕ → DependencyPair → Type 0
LeadsAs rules n p =
    (q : DependencyPair) × (slice_get (dependency_pairs rules) n ≡ Some q)
    × ((k : ℕ) (r : DependencyPair) → slice_get (dependency_pairs rules) k ≡ Some r → IsEdge rules p r ↔ IsEdge rules q r)

-- the node is that of this pair
pub record IsNodeOf (rules : List RewriteRule) (p : DependencyPair) (node : Node) : Type 0 where
  pub rule : RewriteRule
  pub numbered : slice_get rules node.rule ≡ Some rule
  pub rule_left : rule.left ≡ plain p.from
  pub from : node.from ≡ p.from.symbol
  pub to : node.to ≡ p.to.symbol
  pub first : LeadsAs rules node.first p

-- the node of pair number n, or none
abbrev pub IsNodeFor : System → ℕ → Option Node → Type 0
IsNodeFor system n None = slice_get (dependency_pairs system.rules) n ≡ None
IsNodeFor system n (Some node) =
    (p : DependencyPair) × (slice_get (dependency_pairs system.rules) n ≡ Some p) × IsNodeOf system.rules p node

-- the node has the roots of this pair, the row of its right side, and the rule that is noted for its left side
pub record IsSideNode (rules : List RewriteRule) (lefts : List (Option ℕ)) (rows : List (Vec ℕ Global)) (p : DependencyPair) (node : Node) : Type 0 where
  pub number : ℕ
  pub rule : RewriteRule
  pub numbered : slice_get rules number ≡ Some rule
  pub left : rule.left ≡ plain p.from
  pub noted : IsNoted lefts number node.rule
  pub from : node.from ≡ p.from.symbol
  pub to : node.to ≡ p.to.symbol
  pub row : IsRowAt rules lefts rows node.row p

-- the nodes are those of the pairs of the system, in order; from that of another pair with its row the same edges lead
pub record AreNodesOf (system : System) (nodes : List Node) (rows : List (Vec ℕ Global)) : Type 0 where
  pub valid : IsSystem system
  pub symbols : length system.arities ≤ 4095
  pub lefts : List (Option ℕ)
  pub same : HaveSameLefts system.rules lefts
  pub each : AllZip (IsSideNode system.rules lefts rows) (dependency_pairs system.rules) nodes
  pub first : (n : ℕ) (node : Node) (p : DependencyPair) → slice_get nodes n ≡ Some node → slice_get (dependency_pairs system.rules) n ≡ Some p
      → LeadsAs system.rules node.first p
