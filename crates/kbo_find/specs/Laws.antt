-- What the finder finds meets the conditions of its kind of step.
use Rattle.std.specs.Prelude.{ℕ, List, Ok}
use Rattle.trs_defs.specs.System.{System, IsSystem}
use Rattle.pair_theory.specs.DependencyPair.{dependency_pairs}
use Rattle.order_theory.specs.KnuthBendix.{KnuthWeak, KnuthGreater}
use Rattle.kbo_order.specs.pair_order.Entries.{has_entry}
use Rattle.kbo_order.specs.declared.entries.KboEntry.{KboEntry}
use Rattle.kbo_order.specs.Table.{symbol_of, weight_in, rank_in}
use Rattle.kbo_order.specs.TooBig.{EitherIsBig}
use Rattle.order_search.specs.dp_core.PairConditions.{comparing_by, pair_conditions}
use Rattle.order_search.specs.OrderRow.{FindsOrder}
use Rattle.order_search.specs.OrderOver.{search_of}
use Rattle.kbo_find.specs.KboRow.{kbo_search, kbo_entry}

-- these entries are found for the problem of these pairs
abbrev pub FindsKbo : System → List ℕ → ℕ → List KboEntry → Type 0
FindsKbo system numbers budget entries = FindsOrder system numbers (search_of kbo_search system) (kbo_entry system.arities) budget entries

-- some pairs remain by the order of these entries
abbrev pub OrderApplies : System → List ℕ → List KboEntry → Type 0
OrderApplies system numbers entries =
    (left : List ℕ) × pair_conditions
    (comparing_by (has_entry symbol_of entries) (EitherIsBig (weight_in entries)) (KnuthWeak (weight_in entries) (rank_in entries))
    (KnuthGreater (weight_in entries) (rank_in entries)))
    system.rules (dependency_pairs system.rules) numbers (Ok left)

abbrev pub FoundOrdersApply : Type 0
FoundOrdersApply =
    (system : System) (numbers : List ℕ) (budget : ℕ) (entries : List KboEntry) → IsSystem system
    → FindsKbo system numbers budget entries → OrderApplies system numbers entries
