-- What the finder finds meets the conditions of its kind of step.
use Rattle.std.specs.Prelude.{ℕ, ◌≤◌, List, Ok, length}
use Rattle.trs_defs.specs.System.{System, IsSystem}
use Rattle.pair_theory.specs.DependencyPair.{dependency_pairs}
use Rattle.order_theory.specs.LinearInterpretation.{LinearWeak, LinearStrict}
use Rattle.poly_lin.specs.pair_order.Entries.{has_entry}
use Rattle.poly_lin.specs.Table.{symbol_of, coefficient_in}
use Rattle.poly_lin.specs.TooBig.{EitherIsBig}
use Rattle.order_search.specs.dp_core.PairConditions.{comparing_by, pair_conditions}
use Rattle.order_search.specs.OrderRow.{FindsOrder}
use Rattle.order_search.specs.OrderOver.{search_of}
use Rattle.poly_find.specs.PolyRow.{poly_search, poly_entry}

-- these entries are found for the problem of these pairs
abbrev pub FindsPoly : System → List ℕ → ℕ → List (ℕ × List ℕ) → Type 0
FindsPoly system numbers budget entries = FindsOrder system numbers (search_of poly_search system) (poly_entry system.arities) budget entries

-- some pairs remain by the interpretation of these entries
abbrev pub OrderApplies : System → List ℕ → List (ℕ × List ℕ) → Type 0
OrderApplies system numbers entries =
    (left : List ℕ) × pair_conditions
    (comparing_by (has_entry symbol_of entries) (EitherIsBig (coefficient_in entries)) (LinearWeak (coefficient_in entries)) (LinearStrict (coefficient_in entries)))
    system.rules (dependency_pairs system.rules) numbers (Ok left)

-- of a system with at most 4,095 symbols, as each one within the limits
abbrev pub FoundOrdersApply : Type 0
FoundOrdersApply =
    (system : System) (numbers : List ℕ) (budget : ℕ) (entries : List (ℕ × List ℕ)) → IsSystem system → length system.arities ≤ 4095
    → FindsPoly system numbers budget entries → OrderApplies system numbers entries
