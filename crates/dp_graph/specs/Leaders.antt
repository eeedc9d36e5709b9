-- The least places of components.
use Rattle.std.specs.Prelude.{◌≡◌, ◌<◌, ◌≤◌, ◌⊎◌, ℕ, Bool, true, false, List, length, Some, slice_get}
use Rattle.trs_defs.specs.Member.{In}
use Rattle.trs_defs.specs.Run.{Run}
use Rattle.dp_graph.specs.Rows.{Follows}
use Rattle.dp_graph.specs.FoundPlaces.{AreCollected}

-- a path leads from each place to the other
abbrev pub AreMutual : List (List ℕ) → ℕ → ℕ → Type 0
AreMutual rows i j = Run (Follows rows) i j × Run (Follows rows) j i

-- place l is the least of those that are connected with place i
pub record IsLeader (rows : List (List ℕ)) (i l : ℕ) : Type 0 where
  pub connected : AreMutual rows i l
  pub least : (j : ℕ) → AreMutual rows i j → l ≤ j

-- ranks of the leaders, which fall along no edge and rise along each one that leads to another component
pub record AreRanked (rows : List (List ℕ)) (leaders : List ℕ) : Type 0 where
  pub rank : ℕ → ℕ
  pub rises : (i j a b : ℕ) → Follows rows i j → slice_get leaders i ≡ Some a → slice_get leaders j ≡ Some b → (a ≡ b → ⊥) → rank a < rank b

-- each place has its leader
pub record AreLeaders (rows : List (List ℕ)) (leaders : List ℕ) : Type 0 where
  pub count : length leaders ≡ length rows
  pub each : (i l : ℕ) → slice_get leaders i ≡ Some l → IsLeader rows i l
  pub ranked : AreRanked rows leaders

-- the least of these places is the leader of all of them now
pub record Leads (component old new : List ℕ) : Type 0 where
  pub count : length new ≡ length old
  pub leader : ℕ
  pub there : In leader component
  pub least : (w : ℕ) → In w component → leader ≤ w
  pub led : (w : ℕ) → In w component → slice_get new w ≡ Some leader
  pub others : (w : ℕ) → (In w component → ⊥) → slice_get new w ≡ slice_get old w

-- what leads back to place v, through places whose flags were not set, has its leader now
pub record LeadsAll (back : List (List ℕ)) (v : ℕ) (flags new_flags : List Bool) (old new : List ℕ) : Type 0 where
  pub unset : slice_get flags v ≡ Some false
  pub component : List ℕ
  pub are : AreCollected back flags new_flags v component
  pub leads : Leads component old new

-- the same, unless place v has its leader
abbrev pub LeadsFrom : List (List ℕ) → ℕ → List Bool → List Bool → List ℕ → List ℕ → Type 0
LeadsFrom back v flags new_flags old new =
    ((slice_get flags v ≡ Some true) × (new_flags ≡ flags) × (new ≡ old)) ⊎ LeadsAll back v flags new_flags old new
