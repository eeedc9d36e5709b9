-- Lists of places, one for each place.
use Rattle.std.specs.Prelude.{◌≡◌, ℕ, zero, suc, List, [], ◌∷◌, ◌++◌, length, Option, Some, None, slice_get}
use Rattle.dp_graph.specs.PutOut.{led_by}

-- so many lists, and no place in them
pub record AreEmpty (n : ℕ) (lists : List (List ℕ)) : Type 0 where
  pub count : length lists ≡ n
  pub none : (k : ℕ) (list : List ℕ) → slice_get lists k ≡ Some list → list ≡ []

-- list number k has the place behind its others, and the other lists are as before
pub record PutsBehind (old new : List (List ℕ)) (k place : ℕ) : Type 0 where
  pub count : length new ≡ length old
  pub here : (list : List ℕ) → slice_get old k ≡ Some list → slice_get new k ≡ Some (list ++ place ∷ [])
  pub others : (l : ℕ) → (l ≡ k → ⊥) → slice_get new l ≡ slice_get old l

-- 0, 1, .. below n
abbrev pub places_below : ℕ → List ℕ
places_below zero = []
places_below (suc n) = places_below n ++ n ∷ []

-- a number that is there before the others
abbrev pub before_others : Option ℕ → List ℕ → List ℕ
before_others None ns = ns
before_others (Some n) ns = n ∷ ns

-- the numbers at those of the places that have one
abbrev pub numbers_of : List ℕ → List ℕ → List ℕ
numbers_of numbers [] = []
numbers_of numbers (w ∷ places) = before_others (slice_get numbers w) (numbers_of numbers places)

-- the list of each place has the places that it leads, in order
pub record AreLed (leaders : List ℕ) (led : List (List ℕ)) : Type 0 where
  pub count : length led ≡ length leaders
  pub each : (v : ℕ) (places : List ℕ) → slice_get led v ≡ Some places → places ≡ led_by v (places_below (length leaders)) leaders
