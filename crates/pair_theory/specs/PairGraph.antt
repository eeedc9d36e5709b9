-- Groups of pairs along a graph. (Arts and Giesl, 2000; Giesl, Thiemann and Schneider-Kamp, 2005: the
-- dependency graph processor.)
use Rattle.std.specs.Prelude.{◌≡◌, ◌≤◌, ◌<◌, ℕ, List, Bool, Some, IsTrue, slice_get}
use Rattle.trs_defs.specs.Member.{In}
use Rattle.trs_defs.specs.Tree.{Tree, Trees}
use Rattle.trs_defs.specs.Substitution.{apply_all}
use Rattle.trs_defs.specs.Cap.{Caps, EachFits}
use Rattle.trs_defs.specs.System.{System, Among}
use Rattle.pair_theory.specs.Marked.{Marked}
use Rattle.pair_theory.specs.DependencyPair.{DependencyPair}
use Rattle.pair_theory.specs.Chain.{ChainStep}
use Rattle.pair_theory.specs.PairProblem.{IsFiniteProblem}

-- l -> r is pair number i, counted from 0
abbrev pub PairNumbered : List DependencyPair → ℕ → Marked → Marked → Type 0
PairNumbered pairs i l r = slice_get pairs i ≡ Some (record { from = l; to = r })

-- where a step by one pair and then one by another are possible, there is an edge
abbrev pub CoversSteps : System → List DependencyPair → (ℕ → ℕ → Bool) → Type 0
CoversSteps system pairs edge =
    (i j : ℕ) (u v w : Marked) → ChainStep (Among system.rules) (PairNumbered pairs i) u v
    → ChainStep (Among system.rules) (PairNumbered pairs j) v w → IsTrue (edge i j)

-- a group is done: a finite problem has each of its pairs, or no edge leads from a pair of it to a pair of it
pub data GroupEnds (system : System) (pairs : List DependencyPair) (edge : ℕ → ℕ → Bool) (group : ℕ → ℕ) (k : ℕ) : Type 0 where
  by_problem : (members : List DependencyPair)
      → ((i : ℕ) (p : DependencyPair) → slice_get pairs i ≡ Some p → group i ≡ k → In p members)
      → IsFiniteProblem system members → GroupEnds system pairs edge group k
  by_no_edge : ((i j : ℕ) (p q : DependencyPair) → slice_get pairs i ≡ Some p → slice_get pairs j ≡ Some q
      → group i ≡ k → group j ≡ k → IsTrue (edge i j) → ⊥) → GroupEnds system pairs edge group k

-- the groups stand in order: no edge leads from a pair to a pair of an earlier group, and each group is done
pub record IsGrouped (system : System) (pairs : List DependencyPair) (edge : ℕ → ℕ → Bool) (group : ℕ → ℕ) (groups : ℕ) : Type 0 where
  pub numbers : (i : ℕ) (p : DependencyPair) → slice_get pairs i ≡ Some p → group i < groups
  pub onward : (i j : ℕ) (p q : DependencyPair) → slice_get pairs i ≡ Some p → slice_get pairs j ≡ Some q → IsTrue (edge i j)
      → group i ≤ group j
  pub done : (k : ℕ) → k < groups → GroupEnds system pairs edge group k

-- the estimate by caps: where the roots agree, and some instance of the next left side's arguments fits the caps of the
-- right side's arguments, there is an edge (Giesl, Thiemann and Schneider-Kamp, 2005)
abbrev pub IsCapEstimate : System → List DependencyPair → (ℕ → ℕ → Bool) → Type 0
IsCapEstimate system pairs edge =
    (i j : ℕ) (p q : DependencyPair) → slice_get pairs i ≡ Some p → slice_get pairs j ≡ Some q
    → p.to.symbol ≡ q.from.symbol → (cs : Trees) × Caps (Among system.rules) p.to.args cs
    × ((σ : ℕ → Tree) → EachFits cs (apply_all σ q.from.args) → IsTrue (edge i j))
