-- What is found over given symbols, rules and marked pairs.
use Rattle.std.specs.Prelude.{◌≡◌, ℕ, List, map}
use Rattle.trs_defs.specs.System.{RewriteRule, System}
use Rattle.pair_theory.specs.DependencyPair.{DependencyPair}
use Rattle.pair_theory.specs.ReductionPair.{marked_rule}
use Rattle.order_search.specs.Slots.{Table, Search, table_of, puzzle_of}
use Rattle.order_search.specs.Outcome.{IsFirst}
use Rattle.order_search.specs.OrderSpace.{OrderConstraint}

abbrev pub SearchOver : Type 0
SearchOver = (arities symbols : List ℕ) (rules pairs : List RewriteRule) → Search OrderConstraint

-- of a system, over these pairs and symbols
abbrev pub search_of : SearchOver → System → List DependencyPair → List ℕ → Search OrderConstraint
search_of over system pairs symbols = over system.arities symbols system.rules (map marked_rule pairs)

-- the entries of the symbols are those of the first solution, within the budget
pub record IsOrderOver {Entry : Type 0} (entry : Table → ℕ → Entry) (search : Search OrderConstraint) (budget : ℕ) (symbols : List ℕ) (entries : List Entry)
    : Type 0 where
  pub values : List ℕ
  pub first : IsFirst budget values (puzzle_of search)
  pub are : entries ≡ map (entry (table_of search.slots values)) symbols
