-- The faults of entries that make no table.
use Rattle.std.specs.Prelude.{◌≡◌, ◌⊎◌, ℕ, List, Bool, IsTrue, nat_lt}
use Rattle.std.specs.List.{list_any}
use Rattle.trs_defs.specs.Variable.{is_listed}
use Rattle.pair_order.specs.FirstFault as first
use Rattle.poly_lin.specs.Table.{symbol_of}
use Rattle.poly_lin.specs.declared.faults.TableFault.{TableFault}
use Rattle.poly_lin.specs.declared.faults.TableFault.TheVariants.{Twice, TooBig, OutOfMemory}

-- whether a coefficient passes 2^63 - 1
abbrev pub has_big : List ℕ → Bool
has_big coefficients = list_any (nat_lt 9223372036854775807) coefficients

-- the entry, behind those of some symbols, has the fault
abbrev pub IsEntryFault : List ℕ → ℕ × List ℕ → TableFault → Type 0
IsEntryFault earlier e (Twice f) = (f ≡ e.0) × (IsTrue (is_listed f earlier) ⊎ (f ≡ 8191))
IsEntryFault earlier e (TooBig f) = (f ≡ e.0) × IsTrue (has_big e.1)
IsEntryFault earlier e OutOfMemory = ⊥

-- entry number k has the fault
abbrev pub HasFaultAt : List (ℕ × List ℕ) → ℕ → TableFault → Type 0
HasFaultAt entries k fault = first.HasFaultAt symbol_of IsEntryFault entries k fault

-- which fault of an entry comes first
abbrev pub number : TableFault → ℕ
number (Twice f) = 1
number (TooBig f) = 2
number OutOfMemory = 3
