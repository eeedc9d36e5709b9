-- Lists of variables whose places are found by slots.
use Rattle.std.specs.Prelude.{◌≡◌, ℕ, ◌+◌, ◌-◌, ◌*◌, if◌then◌else◌, List, Some, ltb, slice_get}
use Rattle.crit_pairs.specs.declared.binding_table.Binding.{Binding}

-- the variables of rules have even slots, and those of rules that are renamed apart odd ones
abbrev pub slot_of : ℕ → ℕ
slot_of v = if ltb v 65536 then v * 2 else (v - 65536) * 2 + 1

-- the variable that a binding binds
abbrev pub bound_variable : Binding → ℕ
bound_variable b = b.variable

-- the variable that a name names: it is the variable itself
abbrev pub named_variable : ℕ → ℕ
named_variable v = v

-- at the slot of each item's variable stands the item's place
pub record ArePlaced {X : Type 0} (variable : X → ℕ) (places : List ℕ) (items : List X) : Type 0 where
  pub placed : (k : ℕ) (x : X) → slice_get items k ≡ Some x → slice_get places (slot_of (variable x)) ≡ Some k

-- what stands at slots stays, but for this slot
pub record KeepsOthers (slot : ℕ) (old new : List ℕ) : Type 0 where
  pub kept : (s k : ℕ) → slice_get old s ≡ Some k → (s ≡ slot → ⊥) → slice_get new s ≡ Some k
