-- What a strategy by an order looks for in a problem, given by the numbers of its pairs, and when it fails.
use Rattle.std.specs.Prelude.{◌≡◌, ℕ, ◌+◌, List, ◌++◌, map}
use Rattle.trs_defs.specs.System.{System}
use Rattle.pair_theory.specs.DependencyPair.{DependencyPair, dependency_pairs}
use Rattle.assign_search.specs.Puzzle.{Puzzle}
use Rattle.dp_core.specs.Numbered.{ArePairsOf}
use Rattle.dp_core.specs.Symbols.{symbols_of_rules}
use Rattle.dp_core.specs.SubtermConditions.{roots_of}
use Rattle.order_search.specs.Slots.{Table, Search, table_of, puzzle_of}
use Rattle.order_search.specs.Outcome.{IsFirst}
use Rattle.order_search.specs.Ascending.{AreAscending}
use Rattle.order_search.specs.OrderSpace.{OrderConstraint}

-- the symbols of the rules, ascending, and behind them the marked roots of the pairs
pub record AreSymbols (unmarked : List ℕ) (pairs : List DependencyPair) (symbols : List ℕ) : Type 0 where
  pub plain : List ℕ
  pub roots : List ℕ
  pub are_plain : AreAscending unmarked plain
  pub are_roots : AreAscending (roots_of pairs) roots
  pub together : symbols ≡ plain ++ map (λ f. f + 4096) roots

-- the pairs of the problem, and the symbols that an order needs values for
pub record AreOfOrder (system : System) (numbers : List ℕ) (pairs : List DependencyPair) (symbols : List ℕ)
    : Type 0 where
  pub taken : ArePairsOf (dependency_pairs system.rules) numbers pairs
  pub are_symbols : AreSymbols (symbols_of_rules system.rules) pairs symbols

module _ {Entry : Type 0} (system : System) (numbers : List ℕ) (search : List DependencyPair → List ℕ → Search OrderConstraint) where
  -- the entries of the symbols are those of the first solution, within the budget
  pub record FindsOrder (entry : Table → ℕ → Entry) (budget : ℕ) (entries : List Entry) : Type 0 where
    pub pairs : List DependencyPair
    pub symbols : List ℕ
    pub of_problem : AreOfOrder system numbers pairs symbols
    pub values : List ℕ
    pub first : IsFirst budget values (puzzle_of (search pairs symbols))
    pub are : entries ≡ map (entry (table_of (search pairs symbols).slots values)) symbols

-- the search ends in this way
pub record FailsOrder (system : System) (numbers : List ℕ) (search : List DependencyPair → List ℕ → Search OrderConstraint)
    (ends : Puzzle → Type 0) : Type 0 where
  pub pairs : List DependencyPair
  pub symbols : List ℕ
  pub of_problem : AreOfOrder system numbers pairs symbols
  pub fails : ends (puzzle_of (search pairs symbols))
