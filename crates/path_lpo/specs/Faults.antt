-- The faults of entries that make no table.
use Rattle.std.specs.Prelude.{◌≡◌, ℕ, List, IsTrue}
use Rattle.trs_defs.specs.Variable.{is_listed}
use Rattle.pair_order.specs.FirstFault as first
use Rattle.path_lpo.specs.Table.{PathEntry, symbol_of, IsProper}
use Rattle.path_lpo.specs.declared.faults.TableFault.{TableFault}
use Rattle.path_lpo.specs.declared.faults.TableFault.TheVariants.{Twice, BadFilter, OutOfMemory}

-- the entry, behind those of some symbols, has the fault
abbrev pub IsEntryFault : List ℕ → PathEntry → TableFault → Type 0
IsEntryFault earlier e (Twice f) = (f ≡ e.symbol) × IsTrue (is_listed f earlier)
IsEntryFault earlier e (BadFilter f) = (f ≡ e.symbol) × (IsProper e.filter → ⊥)
IsEntryFault earlier e OutOfMemory = ⊥

-- entry number k has the fault
abbrev pub HasFaultAt : List PathEntry → ℕ → TableFault → Type 0
HasFaultAt entries k fault = first.HasFaultAt symbol_of IsEntryFault entries k fault

-- which fault of an entry comes first
abbrev pub number : TableFault → ℕ
number (Twice f) = 1
number OutOfMemory = 3
number (BadFilter f) = 4
