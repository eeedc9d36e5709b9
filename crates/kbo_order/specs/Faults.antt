-- The faults of entries that make no Knuth-Bendix order.
use Rattle.std.specs.Prelude.{◌≡◌, ◌≢◌, ◌≤◌, ◌<◌, ◌^◌, ℕ, List, All, IsTrue}
use Rattle.trs_defs.specs.Variable.{is_listed}
use Rattle.pair_order.specs.FirstFault as first
use Rattle.kbo_order.specs.Table.{symbol_of}
use Rattle.kbo_order.specs.declared.entries.KboEntry.{KboEntry}
use Rattle.kbo_order.specs.declared.faults.KboFault.{KboFault}
use Rattle.kbo_order.specs.declared.faults.KboFault.TheVariants.{Twice, ConstantTooLight, TooBig, UnaryNotTop, OutOfMemory}

-- the entry, behind those of some symbols, has the fault
abbrev pub IsEntryFault : List ℕ → KboEntry → KboFault → Type 0
IsEntryFault earlier e (Twice f) = (f ≡ e.symbol) × IsTrue (is_listed f earlier)
IsEntryFault earlier e (ConstantTooLight f) = (f ≡ e.symbol) × (e.arity ≡ 0) × (e.weight ≡ 0)
IsEntryFault earlier e (TooBig f) = (f ≡ e.symbol) × (2 ^ 63 ≤ e.weight)
IsEntryFault earlier e (UnaryNotTop f) = ⊥
IsEntryFault earlier e OutOfMemory = ⊥

abbrev pub IsRankedBelow : KboEntry → KboEntry → Type 0
IsRankedBelow e other = other.symbol ≢ e.symbol → other.rank < e.rank

-- with one argument and weight 0, its rank is above that of each other entry
abbrev pub IsOnTop : List KboEntry → KboEntry → Type 0
IsOnTop entries e = e.arity ≡ 1 → e.weight ≡ 0 → All (IsRankedBelow e) entries

abbrev pub IsTopFault : List KboEntry → List ℕ → KboEntry → KboFault → Type 0
IsTopFault entries earlier e (UnaryNotTop f) = (f ≡ e.symbol) × (IsOnTop entries e → ⊥)
IsTopFault entries earlier e other = ⊥

-- entry number k has the fault, of those that are looked for first, or of the others
abbrev pub HasFaultAt : List KboEntry → ℕ → KboFault → Type 0
HasFaultAt entries k fault = first.HasFaultAt symbol_of IsEntryFault entries k fault

abbrev pub HasTopFaultAt : List KboEntry → ℕ → KboFault → Type 0
HasTopFaultAt entries k fault = first.HasFaultAt symbol_of (IsTopFault entries) entries k fault

-- which fault of an entry comes first
abbrev pub number : KboFault → ℕ
number (Twice f) = 1
number (ConstantTooLight f) = 2
number (TooBig f) = 3
number (UnaryNotTop f) = 4
number OutOfMemory = 5

pub record IsFaultless (entries : List KboEntry) : Type 0 where
  pub none : (k : ℕ) (fault : KboFault) → HasFaultAt entries k fault → ⊥
  pub none_on_top : (k : ℕ) (fault : KboFault) → HasTopFaultAt entries k fault → ⊥

-- symbols that are not on top are looked for where no entry has another fault
abbrev pub IsFirstFault : List KboEntry → KboFault → Type 0
IsFirstFault entries (UnaryNotTop f) =
    ((k : ℕ) (fault : KboFault) → HasFaultAt entries k fault → ⊥) × first.IsFirstFault (HasTopFaultAt entries) number (UnaryNotTop f)
IsFirstFault entries fault = first.IsFirstFault (HasFaultAt entries) number fault
