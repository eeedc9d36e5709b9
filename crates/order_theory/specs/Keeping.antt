-- Filters that keep all places, by which the path order is that of the terms themselves.
use Rattle.std.specs.Prelude.{◌≡◌, ℕ, List, [], ◌∷◌, Some, slice_get}
use Rattle.std.proofs.Common.{zero, suc}
use Rattle.order_theory.specs.ArgumentFilter.{ArgumentFilter, Keep}

-- so many places, in order, from one on
abbrev pub places_from : ℕ → ℕ → List ℕ
places_from place zero = []
places_from place (suc n) = place ∷ places_from (suc place) n

-- the filter keeps all places of each symbol of the arity table
abbrev pub KeepsAllPlaces : List ℕ → (ℕ → ArgumentFilter) → Type 0
KeepsAllPlaces arities filter = (f n : ℕ) → slice_get arities f ≡ Some n → filter f ≡ Keep (places_from 1 n)
