-- Components that wait for others, by their leaders.
use Rattle.std.specs.Prelude.{◌≡◌, ◌↔◌, ◌⊎◌, ℕ, Bool, true, false, cond, List, length, replicate, Option, Some, None, IsTrue, slice_get}
use Rattle.std.specs.Ordering.{nat_cmp}
use Rattle.std.specs.BTreeMap.{is_at}
use Rattle.std.specs.BTreeSet.{BTreeSet, contains}
use Rattle.trs_defs.specs.Member.{In}
use Rattle.dp_graph.specs.GraphConditions.{lists_of}
use Rattle.dp_graph.specs.PutOut.{ComesBefore}
use Rattle.dp_graph.specs.Rows.{Follows}
use Rattle.dp_graph.specs.declared.waiting.Waiting.{Waiting}

abbrev pub Has : BTreeSet ℕ → ℕ → Type 0
Has set k = IsTrue (contains nat_cmp set k)

-- the set has this number exactly if the truth value says so, and each other one as before
abbrev pub Sets : BTreeSet ℕ → BTreeSet ℕ → ℕ → Bool → Type 0
Sets old new k b = (q : ℕ) → contains nat_cmp new q ≡ cond (is_at (nat_cmp k) q) b (contains nat_cmp old q)

-- ---- what is waited for at first

-- the lists have besides what the relation says
pub record Adds (more : ℕ → ℕ → Type 0) (old new : List (List ℕ)) : Type 0 where
  pub count : length new ≡ length old
  pub exact : (l k : ℕ) → Follows new l k ↔ (Follows old l k ⊎ more l k)

-- k leads to l, if they are these two, and differ
abbrev pub OneEdge : ℕ → ℕ → ℕ → ℕ → Type 0
OneEdge from to l k = (l ≡ to) × (k ≡ from) × (from ≡ to → ⊥)

-- an edge of the row of a place of leader k leads to a place of another leader l
abbrev pub RowEdges : List ℕ → ℕ → List ℕ → ℕ → ℕ → Type 0
RowEdges row from leaders l k = (j : ℕ) × In j row × (slice_get leaders j ≡ Some l) × (k ≡ from) × (from ≡ l → ⊥)

-- an edge leads from a place of leader k to one of another leader l
pub record LeadsTo (rows : List (List ℕ)) (leaders : List ℕ) (l k : ℕ) : Type 0 where
  pub from : ℕ
  pub to : ℕ
  pub follows : Follows rows from to
  pub of_other : slice_get leaders from ≡ Some k
  pub of_this : slice_get leaders to ≡ Some l
  pub differ : k ≡ l → ⊥

pub record AllEdges (rows : List (List ℕ)) (leaders : List ℕ) (lists : List (List ℕ)) : Type 0 where
  pub count : length lists ≡ length leaders
  pub exact : (l k : ℕ) → Follows lists l k ↔ LeadsTo rows leaders l k

-- no edge leads to the component of the leader from another one
abbrev pub IsFreeLeader : List ℕ → List (List ℕ) → ℕ → Type 0
IsFreeLeader leaders lists l = (slice_get leaders l ≡ Some l) × ((k : ℕ) → Follows lists l k → ⊥)

abbrev pub IsReadySet : (ℕ → Type 0) → BTreeSet ℕ → Type 0
IsReadySet ready set = (l : ℕ) → Has set l ↔ ready l

abbrev pub AddsIf : Bool → ℕ → BTreeSet ℕ → BTreeSet ℕ → Type 0
AddsIf adds v old new = (l : ℕ) → Has new l ↔ (Has old l ⊎ (IsTrue adds × (l ≡ v)))

pub record AreAtFirst (rows : List (List ℕ)) (leaders : List ℕ) (waiting : Waiting) : Type 0 where
  pub blockers : AllEdges rows leaders (lists_of waiting.blockers.items)
  pub out : waiting.out.items ≡ replicate (length leaders) false
  pub ready : IsReadySet (IsFreeLeader leaders (lists_of waiting.blockers.items)) waiting.ready

-- ---- components that are put out

-- leader k is put out
abbrev pub IsOut : List Bool → ℕ → Type 0
IsOut out k = slice_get out k ≡ Some true

-- leader l waits for leader k, which is not put out
abbrev pub WaitsFor : Waiting → ℕ → ℕ → Type 0
WaitsFor waiting l k = Follows (lists_of waiting.blockers.items) l k × (IsOut waiting.out.items k → ⊥)

abbrev pub WaitsForNone : Waiting → ℕ → Type 0
WaitsForNone waiting l = (k : ℕ) → WaitsFor waiting l k → ⊥

-- for each leader the same ones are waited for
abbrev pub WaitAlike : Waiting → Waiting → Type 0
WaitAlike old new = (new.blockers ≡ old.blockers) × (new.out ≡ old.out)

-- One of those that are ready, before which none of them comes, is so no more, if there is one.
abbrev pub TakesOut : ℕ → Waiting → Waiting → Option ℕ → Type 0
TakesOut pairs old new None = ((l : ℕ) → Has old.ready l → ⊥) × WaitAlike old new
TakesOut pairs old new (Some v) =
    Has old.ready v × ((l : ℕ) → Has old.ready l → ComesBefore pairs l v → ⊥) × ((l : ℕ) → Has new.ready l ↔ (Has old.ready l × (l ≡ v → ⊥)))
    × WaitAlike old new

-- of a list those that are not put out are left; the truth value says whether there are none
pub record Trims (out : List Bool) (old new : List ℕ) (none : Bool) : Type 0 where
  pub less : (k : ℕ) → In k new → In k old
  pub kept : (k : ℕ) → In k old → (IsOut out k → ⊥) → In k new
  pub none_left : IsTrue none ↔ ((k : ℕ) → In k new → IsOut out k)

-- all wait for the same as before, and those of these leaders that wait for none are ready
pub record LooksAt (old new : Waiting) (leaders : ℕ → Type 0) : Type 0 where
  pub count : length new.blockers.items ≡ length old.blockers.items
  pub out : new.out ≡ old.out
  pub waits : (l k : ℕ) → WaitsFor new l k ↔ WaitsFor old l k
  pub ready : (l : ℕ) → Has new.ready l ↔ (Has old.ready l ⊎ (leaders l × WaitsForNone new l))

-- none waits for leader v any more, and those of the released leaders that wait for none are ready
pub record Releases (old new : Waiting) (v : ℕ) (released : ℕ → Type 0) : Type 0 where
  pub count : length new.blockers.items ≡ length old.blockers.items
  pub outs : length new.out.items ≡ length old.out.items
  pub waits : (l k : ℕ) → WaitsFor new l k ↔ (WaitsFor old l k × (k ≡ v → ⊥))
  pub ready : (l : ℕ) → Has new.ready l ↔ (Has old.ready l ⊎ (released l × WaitsForNone new l))

-- one of these leaders, but not leader v
abbrev pub Other : ℕ → (ℕ → Type 0) → ℕ → Type 0
Other v leaders l = leaders l × (l ≡ v → ⊥)

abbrev pub IsOne : ℕ → ℕ → Type 0
IsOne l m = m ≡ l

-- a leader of a place of the row
abbrev pub OfRow : List ℕ → List ℕ → ℕ → Type 0
OfRow leaders row l = (j : ℕ) × In j row × (slice_get leaders j ≡ Some l)

-- a leader of a place to which an edge leads from one of these places
abbrev pub OfRows : List (List ℕ) → List ℕ → List ℕ → ℕ → Type 0
OfRows rows leaders places l = (w : ℕ) × (j : ℕ) × In w places × Follows rows w j × (slice_get leaders j ≡ Some l)
