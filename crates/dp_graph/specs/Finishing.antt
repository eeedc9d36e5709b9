-- A walk in depth, and the order in which it finishes places. (Sharir, 1981.)
use Rattle.std.specs.Prelude.{◌≡◌, ◌<◌, ◌⊎◌, ℕ, ◌+◌, ◌-◌, ◌*◌, ◌++◌, Bool, true, false, List, [], ◌∷◌, length, replicate, Some, slice_get, slice_set}
use Rattle.trs_defs.specs.Member.{In}
use Rattle.trs_defs.specs.Run.{Run}
use Rattle.dp_core.specs.Flags.{unset}
use Rattle.dp_graph.specs.Rows.{Follows}
use Rattle.dp_graph.specs.Leaders.{AreMutual}
use Rattle.dp_graph.specs.declared.finishing.Walk.{Walk}

-- place u is connected with one that stands behind number k of the list
abbrev pub IsMutualBehind : List (List ℕ) → List ℕ → ℕ → ℕ → Type 0
IsMutualBehind rows places k u = (m : ℕ) × (w : ℕ) × k < m × (slice_get places m ≡ Some w) × AreMutual rows u w

-- place u is connected with one that stands before number k of the list
abbrev pub IsMutualBefore : List (List ℕ) → List ℕ → ℕ → ℕ → Type 0
IsMutualBefore rows places k u = (m : ℕ) × (w : ℕ) × m < k × (slice_get places m ≡ Some w) × AreMutual rows u w

-- Each place is there, and of what leads to a place, what that place does not lead to is connected with a later one.
pub record IsFinishingOrder (rows : List (List ℕ)) (order : List ℕ) : Type 0 where
  pub all : (i : ℕ) → i < length rows → In i order
  pub places : (i : ℕ) → In i order → i < length rows
  pub before : (k x u : ℕ) → slice_get order k ≡ Some x → Run (Follows rows) u x → Run (Follows rows) x u ⊎ IsMutualBehind rows order k u

-- What holds at each moment of the walk, of the places that were entered, how many of its row were tried for each place, the
-- way and the finished places.
pub record IsWalk (rows : List (List ℕ)) (entered : List Bool) (next way finished : List ℕ) : Type 0 where
  pub count : length entered ≡ length rows
  pub nexts : length next ≡ length rows
  pub seen : (i : ℕ) → slice_get entered i ≡ Some true → In i finished ⊎ In i way
  pub met : (i : ℕ) → In i finished ⊎ In i way → slice_get entered i ≡ Some true
  pub followed : (i j : ℕ) → In i finished → Follows rows i j → slice_get entered j ≡ Some true
  pub tried : (i m n j : ℕ) (row : List ℕ) → slice_get next i ≡ Some n → m < n → slice_get rows i ≡ Some row → slice_get row m ≡ Some j
      → slice_get entered j ≡ Some true
  pub leads : (k m u v : ℕ) → k < m → slice_get way k ≡ Some u → slice_get way m ≡ Some v → Run (Follows rows) u v
  pub back : (k v u : ℕ) → slice_get way k ≡ Some v → In u finished → Run (Follows rows) u v
      → Run (Follows rows) v u ⊎ IsMutualBefore rows way k u
  pub order : (k x u : ℕ) → slice_get finished k ≡ Some x → Run (Follows rows) u x
      → Run (Follows rows) x u ⊎ (IsMutualBehind rows finished k u
      ⊎ (IsMutualBefore rows way (length way) u ⊎ (slice_get entered u ≡ Some true → ⊥)))

abbrev pub IsWalkOf : List (List ℕ) → Walk → Type 0
IsWalkOf rows walk = IsWalk rows walk.entered.items walk.next.items walk.way.items walk.finished.items

-- no place of so many was entered
pub record IsStart (places : ℕ) (walk : Walk) : Type 0 where
  pub entered : walk.entered.items ≡ replicate places false
  pub next : walk.next.items ≡ replicate places 0
  pub way : walk.way.items ≡ []
  pub finished : walk.finished.items ≡ []

-- the place is entered, and the last of the way, unless it was entered or is none
abbrev pub Enters : List Bool → List Bool → List ℕ → List ℕ → ℕ → Type 0
Enters old new before after place =
    ((slice_get old place ≡ Some false) × (new ≡ slice_set old place true) × (after ≡ before ++ place ∷ []))
    ⊎ ((slice_get old place ≡ Some false → ⊥) × (new ≡ old) × (after ≡ before))

-- how many places of the rows were not tried
abbrev pub untried : List (List ℕ) → List ℕ → ℕ
untried [] next = 0
untried (row ∷ rows) [] = 0
untried (row ∷ rows) (n ∷ next) = (length row - n) + untried rows next

-- a bound of the steps that are left
abbrev pub effort : List (List ℕ) → List Bool → List ℕ → List ℕ → ℕ
effort rows entered next way = unset entered * 2 + (untried rows next + length way)

abbrev pub effort_of : List (List ℕ) → Walk → ℕ
effort_of rows walk = effort rows walk.entered.items walk.next.items walk.way.items
