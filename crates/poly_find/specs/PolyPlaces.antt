-- The slots of a search for a linear interpretation by their numbers, and values of the slots of one symbol.
use Rattle.std.specs.Prelude.{ℕ, ◌+◌, List, [], ◌∷◌, map, get_or}
use Rattle.std.proofs.Common.{zero, suc}
use Rattle.order_search.specs.Slots.{Slot}
use Rattle.order_search.specs.OrderSpace.{slots_of, arity_with_mark}

-- how many parts a symbol has: its constant and its coefficients
abbrev pub parts_by : List ℕ → ℕ → ℕ
parts_by arities f = arity_with_mark arities f + 1

abbrev pub owner_of : Slot → ℕ
owner_of s = s.symbol

-- the symbol of each slot
abbrev pub owners_of : List ℕ → List ℕ → List ℕ
owners_of arities symbols = map owner_of (slots_of (parts_by arities) symbols)

-- n values from one slot on
abbrev pub values_at : List ℕ → ℕ → ℕ → List ℕ
values_at values start zero = []
values_at values start (suc n) = get_or values start 0 ∷ values_at values (suc start) n

-- how many slots come before those of symbol number i
abbrev pub starts : (ℕ → ℕ) → List ℕ → ℕ → ℕ
starts parts [] i = 0
starts parts (f ∷ fs) zero = 0
starts parts (f ∷ fs) (suc i) = parts f + starts parts fs i
