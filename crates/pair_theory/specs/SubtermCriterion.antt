-- What the subterm criterion asks of a pair. (Hirokawa and Middeldorp, Tyrolean termination tool: techniques and features, 2007.)
use Rattle.std.specs.Prelude.{◌≡◌, ℕ, Some}
use Rattle.trs_defs.specs.Tree.{Tree}
use Rattle.trs_defs.specs.Position.{argument_at}
use Rattle.pair_theory.specs.Marked.{plain}
use Rattle.pair_theory.specs.DependencyPair.{DependencyPair}

-- the arguments of both sides at the place, counted from 1, of their marked symbols are related
pub record Projects (place : ℕ → ℕ) (related : Tree → Tree → Type 0) (p : DependencyPair) : Type 0 where
  pub left : Tree
  pub right : Tree
  pub left_there : argument_at (plain p.from) (place p.from.symbol) ≡ Some left
  pub right_there : argument_at (plain p.to) (place p.to.symbol) ≡ Some right
  pub relation : related left right
