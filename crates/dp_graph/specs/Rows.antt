-- The edges of a graph by places: for each place the places to which steps lead. The places of pairs come first, and behind
-- them those of rules, then those of right sides, which stand between pairs: an edge depends on a right and a left side alone.
use Rattle.std.specs.Prelude.{◌≡◌, ◌<◌, ◌≤◌, ◌↔◌, ◌⊎◌, ℕ, List, length, Some, slice_get}
use Rattle.trs_defs.specs.Member.{In}
use Rattle.trs_defs.specs.System.{System}
use Rattle.pair_theory.specs.DependencyPair.{dependency_pairs}
use Rattle.dp_graph.specs.GraphConditions.{HasEdge}

-- an edge leads from pair number m to pair number n
abbrev pub EdgeOf : System → ℕ → ℕ → Type 0
EdgeOf system m n = HasEdge system.rules (dependency_pairs system.rules) m n

-- the two places have numbers between which the relation holds
abbrev pub AtPlaces : (ℕ → ℕ → Type 0) → List ℕ → ℕ → ℕ → Type 0
AtPlaces edge numbers i j = (m : ℕ) × (n : ℕ) × (slice_get numbers i ≡ Some m) × (slice_get numbers j ≡ Some n) × edge m n

-- place j stands in the row of place i
abbrev pub Follows : List (List ℕ) → ℕ → ℕ → Type 0
Follows rows i j = (row : List ℕ) × (slice_get rows i ≡ Some row) × In j row

-- the places of rows have rows
abbrev pub StayWithin : List (List ℕ) → Type 0
StayWithin rows = (i j : ℕ) → Follows rows i j → j < length rows

-- a step leads from a place of so many pairs to one behind them, or from there to a lesser place
abbrev pub IsBetween : ℕ → ℕ → ℕ → ℕ → Type 0
IsBetween pairs all i j = (i < pairs × (pairs ≤ j × j < all)) ⊎ (pairs ≤ i × j < i)

-- steps lead from place i behind the pairs by others to place k, which is the first of a pair
pub data LeadsOn (pairs : ℕ) (rows : List (List ℕ)) : ℕ → ℕ → Type 0 where
  at_once : {i k : ℕ} → pairs ≤ i → Follows rows i k → k < pairs → LeadsOn pairs rows i k
  by_way : {i j k : ℕ} → pairs ≤ i → Follows rows i j → LeadsOn pairs rows j k → LeadsOn pairs rows i k

-- steps lead from place i, which is that of a pair, by places behind the pairs to place k
abbrev pub LeadsByOthers : ℕ → List (List ℕ) → ℕ → ℕ → Type 0
LeadsByOthers pairs rows i k = i < pairs × ((j : ℕ) × Follows rows i j × LeadsOn pairs rows j k)

-- From each pair steps lead, by way of its right side and of rules, to those pairs to whose numbers its number has the relation.
pub record AreRows (edge : ℕ → ℕ → Type 0) (numbers : List ℕ) (rows : List (List ℕ)) : Type 0 where
  pub count : length numbers ≤ length rows
  pub between : (i j : ℕ) → Follows rows i j → IsBetween (length numbers) (length rows) i j
  pub exact : (i k : ℕ) → LeadsByOthers (length numbers) rows i k ↔ AtPlaces edge numbers i k
