-- The edges of the dependency graph, estimated by caps. (Giesl, Thiemann and Schneider-Kamp, Proving and disproving
-- termination of higher-order functions, 2005.)
use Rattle.std.specs.Prelude.{◌≡◌, ◌≤◌, ◌↔◌, ℕ, Bool, false, List, Some, IsTrue, length, slice_get}
use Rattle.trs_defs.specs.System.{RewriteRule, System, IsSystem}
use Rattle.trs_defs.specs.Tree.{Tree}
use Rattle.trs_defs.specs.Substitution.{apply_all}
use Rattle.trs_caps.specs.HoledTree.{HoledTree, HoledTrees, EachFits}
use Rattle.trs_caps.specs.HoledCap.{IsHoledCap, AreHoledCaps, MeetsLeft}
use Rattle.pair_theory.specs.Marked.{mark}
use Rattle.pair_theory.specs.DependencyPair.{DependencyPair}
use Rattle.pair_theory.specs.PairGraph.{CoversSteps}

-- the cap of the first pair's marked right side, no variable fixed, unifies with the second one's marked left side, renamed apart
abbrev pub IsEdge : List RewriteRule → DependencyPair → DependencyPair → Type 0
IsEdge rules p q = (cap : HoledTree) × IsHoledCap rules false (mark p.to) cap × MeetsLeft cap (mark q.from)

-- the test holds where there is an edge from pair number i to pair number j
abbrev pub HoldsAtEdges : List RewriteRule → List DependencyPair → (ℕ → ℕ → Bool) → Type 0
HoldsAtEdges rules pairs test =
    (i j : ℕ) (p q : DependencyPair) → slice_get pairs i ≡ Some p → slice_get pairs j ≡ Some q → IsEdge rules p q → IsTrue (test i j)

-- a test that holds where there is an edge covers chain steps
abbrev pub EdgesCoverChainSteps : Type 0
EdgesCoverChainSteps =
    (system : System) (pairs : List DependencyPair) (test : ℕ → ℕ → Bool) → IsSystem system
    → HoldsAtEdges system.rules pairs test → CoversSteps system pairs test

-- the roots agree, and some instance of the second left side's arguments fits the caps of the first right side's arguments
abbrev pub MeetsByArguments : List RewriteRule → DependencyPair → DependencyPair → Type 0
MeetsByArguments rules p q =
    (p.to.symbol ≡ q.from.symbol) × (caps : HoledTrees) × AreHoledCaps rules false p.to.args caps
    × (σ : ℕ → Tree) × EachFits caps (apply_all σ q.from.args)

-- edges are just these, where marks (from 4,096 on) pass all symbols
abbrev pub EdgesAreByArguments : Type 0
EdgesAreByArguments =
    (system : System) (p q : DependencyPair) → IsSystem system → length system.arities ≤ 4095
    → IsEdge system.rules p q ↔ MeetsByArguments system.rules p q
