-- What the strategy lpo looks for.
use Rattle.std.specs.Prelude.{ℕ, List, [], map}
use Rattle.trs_defs.specs.System.{System}
use Rattle.pair_theory.specs.DependencyPair.{DependencyPair}
use Rattle.pair_theory.specs.ReductionPair.{marked_rule}
use Rattle.path_lpo.specs.Table.{PathEntry}
use Rattle.order_search.specs.Slots.{Table, Search, table_of}
use Rattle.order_search.specs.OrderOver.{SearchOver}
use Rattle.order_search.specs.OrderSpace.{OrderConstraint, order_search, slots_of, arity_with_mark}
use Rattle.lpo_find.specs.LpoSpace.{lpo_family, filter_by, rank_by}

-- the entry that a table says for a symbol
abbrev pub lpo_entry : (ℕ → ℕ) → Table → ℕ → PathEntry
lpo_entry arity table f = record { symbol = f; rank = rank_by table f; filter = filter_by arity table f }

-- the same, by a list of arities
abbrev pub path_entry : List ℕ → Table → ℕ → PathEntry
path_entry arities table f = lpo_entry (arity_with_mark arities) table f

-- over these symbols, rules and marked pairs
abbrev pub path_search : SearchOver
path_search arities symbols rules pairs = order_search (lpo_family (arity_with_mark arities)) symbols [] rules pairs

-- of a system, over these pairs and symbols
abbrev pub lpo_search : System → List DependencyPair → List ℕ → Search OrderConstraint
lpo_search system pairs symbols = path_search system.arities symbols system.rules (map marked_rule pairs)

-- the entries that values in the order of the slots say for the symbols
abbrev pub entries_of : List ℕ → List ℕ → List ℕ → List PathEntry
entries_of arities symbols values = map (lpo_entry (arity_with_mark arities) (table_of (slots_of (λ _. 2) symbols) values)) symbols
