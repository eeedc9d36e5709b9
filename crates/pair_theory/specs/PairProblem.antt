-- Problems of dependency pairs, and when they are finite. (Giesl, Thiemann and Schneider-Kamp, The dependency pair
-- framework, 2005: no endless minimal chain.)
use Rattle.std.specs.Prelude.{ℕ, List, IsTrue}
use Rattle.pair_theory.specs.Accessible.{Acc}
use Rattle.trs_defs.specs.Member.{In}
use Rattle.trs_defs.specs.Tree.{Tree}
use Rattle.trs_defs.specs.Variable.{some_has_var}
use Rattle.trs_defs.specs.WellFormed.{IsWellFormed}
use Rattle.trs_defs.specs.System.{System, Among}
use Rattle.trs_defs.specs.Every.{Every}
use Rattle.pair_theory.specs.Terminates.{Terminates}
use Rattle.pair_theory.specs.Marked.{Marked, plain}
use Rattle.pair_theory.specs.DependencyPair.{DependencyPair}
use Rattle.pair_theory.specs.Chain.{ChainStep}

-- Each marked well-formed term whose arguments terminate is accessible under chain steps. Accessible is the least
-- predicate and has no number: a term has finitely many candidates for a next term, but which of them have terminating
-- arguments can't be decided, so from bounds for each of the next terms no bound can be computed.
abbrev pub ChainsEnd : List ℕ → (Tree → Tree → Type 0) → (Marked → Marked → Type 0) → Type 0
ChainsEnd arities rule pair =
    (u : Marked) → IsWellFormed arities (plain u) → Every (Terminates rule) u.args → Acc (ChainStep rule pair) u

-- l -> r is one of the pairs
abbrev pub PairAmong : List DependencyPair → Marked → Marked → Type 0
PairAmong pairs l r = In (record { from = l; to = r }) pairs

-- the problem of these pairs and the system's rules is finite
abbrev pub IsFiniteProblem : System → List DependencyPair → Type 0
IsFiniteProblem system pairs = ChainsEnd system.arities (Among system.rules) (PairAmong pairs)

-- both sides are well-formed, and the left one has each variable of the right one
pub record IsPair (arities : List ℕ) (p : DependencyPair) : Type 0 where
  pub from_well_formed : IsWellFormed arities (plain p.from)
  pub to_well_formed : IsWellFormed arities (plain p.to)
  pub variables : (v : ℕ) → IsTrue (some_has_var v p.to.args) → IsTrue (some_has_var v p.from.args)
