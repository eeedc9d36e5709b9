-- What the strategy usable looks for in a problem, given by the numbers of its pairs, and when it fails.
use Rattle.std.specs.Prelude.{ℕ, List, ◌++◌, map}
use Rattle.trs_defs.specs.System.{RewriteRule, System}
use Rattle.pair_theory.specs.DependencyPair.{DependencyPair, dependency_pairs}
use Rattle.pair_theory.specs.ReductionPair.{marked_rule}
use Rattle.assign_search.specs.Puzzle.{Puzzle}
use Rattle.order_search.specs.dp_core.Numbered.{ArePairsOf, AreItemsOf}
use Rattle.order_search.specs.dp_core.Symbols.{symbols_of_rules, symbols_below_roots}
use Rattle.usable_rules.specs.AreUsable.{AreUsableRules}
use Rattle.order_search.specs.Slots.{Search, puzzle_of}
use Rattle.order_search.specs.OrderSpace.{OrderConstraint}
use Rattle.order_search.specs.OrderRow.{AreSymbols}
use Rattle.order_search.specs.OrderOver.{IsOrderOver}
use Rattle.poly_find.specs.PolyRow.{poly_search, poly_entry}

-- the pairs of the problem, its usable rules, and the symbols that an interpretation needs values for: those of the
-- usable rules and below the roots of the pairs, ascending, and behind them the marked roots
pub record AreOfUsable (system : System) (numbers : List ℕ) (pairs : List DependencyPair) (rules : List RewriteRule) (symbols : List ℕ) : Type 0 where
  pub taken : ArePairsOf (dependency_pairs system.rules) numbers pairs
  pub rule_numbers : List ℕ
  pub usable : AreUsableRules system.rules pairs rule_numbers
  pub chosen : AreItemsOf system.rules rule_numbers rules
  pub are_symbols : AreSymbols (symbols_of_rules rules ++ symbols_below_roots pairs) pairs symbols

-- the search for a linear interpretation over these symbols, rules and pairs
abbrev pub usable_search : System → List DependencyPair → List RewriteRule → List ℕ → Search OrderConstraint
usable_search system pairs rules symbols = poly_search system.arities symbols rules (map marked_rule pairs)

-- the entries of the symbols are those of the first solution, within the budget
pub record FindsUsable (system : System) (numbers : List ℕ) (budget : ℕ) (entries : List (ℕ × List ℕ)) : Type 0 where
  pub pairs : List DependencyPair
  pub rules : List RewriteRule
  pub symbols : List ℕ
  pub of_problem : AreOfUsable system numbers pairs rules symbols
  pub found : IsOrderOver (poly_entry system.arities) (usable_search system pairs rules symbols) budget symbols entries

-- the search ends in this way
pub record FailsUsable (system : System) (numbers : List ℕ) (ends : Puzzle → Type 0) : Type 0 where
  pub pairs : List DependencyPair
  pub rules : List RewriteRule
  pub symbols : List ℕ
  pub of_problem : AreOfUsable system numbers pairs rules symbols
  pub fails : ends (puzzle_of (usable_search system pairs rules symbols))
