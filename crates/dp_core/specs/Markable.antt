-- Pairs whose roots can be marked.
use Rattle.std.specs.Prelude.{◌<◌}
use Rattle.pair_theory.specs.DependencyPair.{DependencyPair}

-- the roots of both sides have numbers below 4,096, so that no mark has the number of a symbol
pub record IsMarkable (p : DependencyPair) : Type 0 where
  pub from : p.from.symbol < 4096
  pub to : p.to.symbol < 4096
