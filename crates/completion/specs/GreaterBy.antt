-- The order of a table, and tables that are for all symbols.
use Rattle.std.specs.Prelude.{◌≡◌, ℕ, List, Some, IsTrue, slice_get}
use Rattle.trs_defs.specs.Tree.{Tree}
use Rattle.order_theory.specs.ArgumentFilter.{PathStrict}
use Rattle.path_lpo.specs.pair_order.Entries.{has_entry}
use Rattle.path_lpo.specs.Table.{PathEntry, symbol_of, rank_in, filter_in}

-- s is greater than t by the path order of these entries
abbrev pub GreaterBy : List PathEntry → Tree → Tree → Type 0
GreaterBy order = PathStrict (rank_in order) (filter_in order)

-- each symbol of the arity table has an entry
abbrev pub HasEntryForEach : List ℕ → List PathEntry → Type 0
HasEntryForEach arities order = (f n : ℕ) → slice_get arities f ≡ Some n → IsTrue (has_entry symbol_of order f)
