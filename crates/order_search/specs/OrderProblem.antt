-- What an order is looked for over, in a problem: symbols, and the rules and marked pairs that are to fall.
use Rattle.std.specs.Prelude.{◌≡◌, ℕ, ◌<◌, ◌≤◌, ◌+◌, ◌^◌, List, ◌++◌, All, length, map}
use Rattle.trs_defs.specs.System.{RewriteRule, System}
use Rattle.pair_theory.specs.DependencyPair.{DependencyPair}
use Rattle.pair_theory.specs.ReductionPair.{marked_rule}
use Rattle.order_search.specs.Distinct.{AreDistinct}
use Rattle.order_search.specs.OrderSpace.{AreCovered}
use Rattle.order_search.specs.OrderRow.{AreOfOrder}

-- they are those of the problem of the pairs of these numbers
pub record IsOrderProblem (system : System) (numbers arities symbols : List ℕ) (rules marked : List RewriteRule) : Type 0 where
  pub pairs : List DependencyPair
  pub of_problem : AreOfOrder system numbers pairs symbols
  pub arities_are : arities ≡ system.arities
  pub rules_are : rules ≡ system.rules
  pub marked_are : marked ≡ map marked_rule pairs

-- no symbol stands twice, each symbol of the rules and the marked pairs stands among them, and there are few of each
pub record IsSearchable (symbols : List ℕ) (rules marked : List RewriteRule) : Type 0 where
  pub distinct : AreDistinct symbols
  pub covered : AreCovered symbols (rules ++ marked)
  pub small_symbols : All (λ f. f < 8192) symbols
  pub few_symbols : length symbols ≤ 8192
  pub few_falling : length rules + length marked + 1 < 2 ^ 31
