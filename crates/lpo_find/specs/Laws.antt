-- What the finder finds meets the conditions of its kind of step.
use Rattle.std.specs.Prelude.{ℕ, List, Ok}
use Rattle.trs_defs.specs.System.{System, IsSystem}
use Rattle.pair_theory.specs.DependencyPair.{dependency_pairs}
use Rattle.order_theory.specs.ArgumentFilter.{PathWeak, PathStrict}
use Rattle.path_lpo.specs.pair_order.Entries.{has_entry}
use Rattle.path_lpo.specs.Table.{PathEntry, symbol_of, rank_in, filter_in}
use Rattle.order_search.specs.dp_core.PairConditions.{comparing_by, pair_conditions}
use Rattle.order_search.specs.OrderSpace.{arity_with_mark}
use Rattle.order_search.specs.OrderRow.{FindsOrder}
use Rattle.lpo_find.specs.LpoRow.{lpo_search, lpo_entry}

-- these entries are found for the problem of these pairs
abbrev pub FindsLpo : System → List ℕ → ℕ → List PathEntry → Type 0
FindsLpo system numbers budget entries =
    FindsOrder system numbers (lpo_search system) (lpo_entry (arity_with_mark system.arities)) budget entries

-- some pairs remain by the order of these entries
abbrev pub OrderApplies : System → List ℕ → List PathEntry → Type 0
OrderApplies system numbers entries =
    (left : List ℕ) × pair_conditions
    (comparing_by (has_entry symbol_of entries) (λ s t. ⊥) (PathWeak (rank_in entries) (filter_in entries)) (PathStrict (rank_in entries) (filter_in entries)))
    system.rules (dependency_pairs system.rules) numbers (Ok left)

abbrev pub FoundOrdersApply : Type 0
FoundOrdersApply =
    (system : System) (numbers : List ℕ) (budget : ℕ) (entries : List PathEntry) → IsSystem system
    → FindsLpo system numbers budget entries → OrderApplies system numbers entries
