-- Places that are found, and flags that tell which.
use Rattle.std.specs.Prelude.{◌≡◌, ◌<◌, ◌↔◌, ◌⊎◌, ℕ, ◌+◌, ◌++◌, Bool, true, false, List, Some, length, slice_get}
use Rattle.trs_defs.specs.Member.{In}
use Rattle.trs_defs.specs.Run.{Run}
use Rattle.dp_core.specs.Flags.{unset}
use Rattle.dp_graph.specs.Rows.{Follows}

-- beside those that were set before, the flags of exactly the found places are set; each is found once
pub record AreFound (before flags : List Bool) (found : List ℕ) : Type 0 where
  pub once : length found + unset flags ≡ unset before
  pub places : length flags ≡ length before
  pub marked : (k : ℕ) → slice_get flags k ≡ Some true → (slice_get before k ≡ Some true) ⊎ In k found
  pub kept : (k : ℕ) → slice_get before k ≡ Some true → slice_get flags k ≡ Some true
  pub found_marked : (k : ℕ) → In k found → slice_get flags k ≡ Some true
  pub fresh : (k : ℕ) → In k found → slice_get before k ≡ Some false

-- of the wanted places those are found behind the others whose flags were not set
pub record Finds (wanted : ℕ → Type 0) (old new : List Bool) (before after : List ℕ) : Type 0 where
  pub more : List ℕ
  pub grown : after ≡ before ++ more
  pub are : AreFound old new more
  pub only : (j : ℕ) → In j more → wanted j
  pub all : (j : ℕ) → wanted j → j < length old → slice_get new j ≡ Some true

-- a step to a place whose flag is not set
abbrev pub FollowsFree : List (List ℕ) → List Bool → ℕ → ℕ → Type 0
FollowsFree rows flags i j = Follows rows i j × (slice_get flags j ≡ Some false)

-- found is what a path leads to from one place, through places whose flags were not set
pub record AreCollected (rows : List (List ℕ)) (before flags : List Bool) (start : ℕ) (found : List ℕ) : Type 0 where
  pub are : AreFound before flags found
  pub exact : (k : ℕ) → In k found ↔ Run (FollowsFree rows before) start k
