-- Components that are put out one after another.
use Rattle.std.specs.Prelude.{◌≡◌, ◌<◌, ◌≤◌, ◌⊎◌, ℕ, ◌==◌, Bool, true, false, List, [], ◌∷◌, ◌++◌, length, replicate, Option, Some, None, slice_get}
use Rattle.pair_theory.specs.DependencyPair.{keep_if}
use Rattle.dp_graph.specs.declared.items.GraphItem.{GraphItem}
use Rattle.dp_graph.specs.GroupOrSingle.{GroupOrSingle, group, single, item_of}
use Rattle.dp_graph.specs.Rows.{Follows}

-- the numbers at the places that have this leader
abbrev pub led_by : ℕ → List ℕ → List ℕ → List ℕ
led_by v [] leaders = []
led_by v (n ∷ numbers) [] = []
led_by v (n ∷ numbers) (l ∷ leaders) = keep_if (l == v) n (led_by v numbers leaders)

-- an edge leads to the component of this leader from a place of another one that is not done
pub record IsBlocked (rows : List (List ℕ)) (leaders : List ℕ) (done : List Bool) (l : ℕ) : Type 0 where
  pub from : ℕ
  pub to : ℕ
  pub leader : ℕ
  pub undone : slice_get done from ≡ Some false
  pub follows : Follows rows from to
  pub of_other : slice_get leaders from ≡ Some leader
  pub of_this : slice_get leaders to ≡ Some l
  pub differ : leader ≡ l → ⊥

abbrev pub IsUndoneLeader : List ℕ → List Bool → ℕ → Type 0
IsUndoneLeader leaders done v = (slice_get leaders v ≡ Some v) × (slice_get done v ≡ Some false)

-- Where so many places are those of pairs: place u comes before place v, which is that of a pair. Rules come before pairs.
abbrev pub ComesBefore : ℕ → ℕ → ℕ → Type 0
ComesBefore pairs u v = v < pairs × (pairs ≤ u ⊎ u < v)

-- a leader that is neither done nor blocked, and before which no such one comes, if there is one
abbrev pub IsNextReady : ℕ → List (List ℕ) → List ℕ → List Bool → Option ℕ → Type 0
IsNextReady pairs rows leaders done None = (v : ℕ) → IsUndoneLeader leaders done v → IsBlocked rows leaders done v
IsNextReady pairs rows leaders done (Some v) =
    IsUndoneLeader leaders done v × (IsBlocked rows leaders done v → ⊥)
    × ((u : ℕ) → ComesBefore pairs u v → IsUndoneLeader leaders done u → IsBlocked rows leaders done u)

-- the item of a leader: a group of the numbers that it leads, where it leads another place; else its own number
abbrev pub IsItemOf : List ℕ → List ℕ → ℕ → GroupOrSingle → Type 0
IsItemOf numbers leaders v (group members) =
    (members ≡ led_by v numbers leaders) × ((w : ℕ) × (slice_get leaders w ≡ Some v) × (w ≡ v → ⊥))
IsItemOf numbers leaders v (single member) =
    (slice_get numbers v ≡ Some member) × ((w : ℕ) → slice_get leaders w ≡ Some v → w ≡ v)

-- the places of the leader are done too
pub record Finishes (v : ℕ) (leaders : List ℕ) (done new : List Bool) : Type 0 where
  pub count : length new ≡ length done
  pub led : (w : ℕ) → slice_get leaders w ≡ Some v → slice_get new w ≡ Some true
  pub others : (w : ℕ) → (slice_get leaders w ≡ Some v → ⊥) → slice_get new w ≡ slice_get done w

-- the leaders of the places that are not done, in an order in which they are ready
pub data ArePutOut (pairs : ℕ) (rows : List (List ℕ)) (leaders : List ℕ) : List Bool → List ℕ → Type 0 where
  all_done : {done : List Bool} → ((i : ℕ) → slice_get done i ≡ Some false → ⊥) → ArePutOut pairs rows leaders done []
  put_out : {done : List Bool} {vs : List ℕ} (v : ℕ) (new : List Bool) → IsNextReady pairs rows leaders done (Some v)
      → Finishes v leaders done new → ArePutOut pairs rows leaders new vs → ArePutOut pairs rows leaders done (v ∷ vs)

-- the leaders of all places
abbrev pub PutsOut : ℕ → List (List ℕ) → List ℕ → List ℕ → Type 0
PutsOut pairs rows leaders order = ArePutOut pairs rows leaders (replicate (length leaders) false) order

-- the items of the leaders that are pairs
pub data AreItemsOf (numbers leaders : List ℕ) : List ℕ → List GroupOrSingle → Type 0 where
  no_leaders : AreItemsOf numbers leaders [] []
  a_pair : {vs : List ℕ} {item : GroupOrSingle} {items : List GroupOrSingle} (v : ℕ) → v < length numbers → IsItemOf numbers leaders v item
      → AreItemsOf numbers leaders vs items → AreItemsOf numbers leaders (v ∷ vs) (item ∷ items)
  a_rule : {vs : List ℕ} {items : List GroupOrSingle} (v : ℕ) → length numbers ≤ v → AreItemsOf numbers leaders vs items
      → AreItemsOf numbers leaders (v ∷ vs) items

-- the item of the leader is added, if the leader is a pair
abbrev pub AddsItem : List ℕ → List ℕ → ℕ → List GraphItem → List GraphItem → Type 0
AddsItem numbers leaders v old new =
    (v < length numbers × ((item : GraphItem) × IsItemOf numbers leaders v (item_of item) × (new ≡ old ++ item ∷ [])))
    ⊎ (length numbers ≤ v × (new ≡ old))
