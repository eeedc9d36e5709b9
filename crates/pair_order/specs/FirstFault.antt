-- Which fault of a table's entries comes first: that of the least place, and there that of the least number.
use Rattle.std.specs.Prelude.{◌≡◌, ◌≤◌, ◌<◌, ℕ, ◌⊎◌, List, Some, map, take, slice_get}

-- entry number k has the fault; it stands behind the symbols of the entries before it
abbrev pub HasFaultAt : {E F : Type 0} → (E → ℕ) → (List ℕ → E → F → Type 0) → List E → ℕ → F → Type 0
HasFaultAt {E = E} symbol_of has_fault entries k fault =
    (e : E) × (slice_get entries k ≡ Some e) × has_fault (map symbol_of (take k entries)) e fault

-- of the faults of an entry this is the first
pub record IsFirstOfEntry {E F : Type 0} (has_fault : List ℕ → E → F → Type 0) (number : F → ℕ) (earlier : List ℕ) (e : E) (fault : F) : Type 0 where
  pub holds : has_fault earlier e fault
  pub first : (other : F) → has_fault earlier e other → number fault ≤ number other

-- the entry at some place has the fault, and no fault comes before it
pub record IsFirstFault {F : Type 0} (has_fault : ℕ → F → Type 0) (number : F → ℕ) (fault : F) : Type 0 where
  pub place : ℕ
  pub holds : has_fault place fault
  pub first : (k : ℕ) (other : F) → has_fault k other → (place < k) ⊎ ((place ≡ k) × (number fault ≤ number other))
