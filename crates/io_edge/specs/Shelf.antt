-- What a shelf means, and what a call of it may change.
use Rattle.std.specs.Prelude.{◌≡◌, ◌≢◌, ◌≤◌, ◌+◌, ℕ, List, length, Result, Ok, Err}
use Rattle.io_edge.specs.Edge.{next_count, Rose, RoseBy}
use Rattle.io_edge.specs.Telling.{Telling, told, absent, CanBe, CanPass}
use Rattle.io_edge.specs.declared.fault.FetchFault.{FetchFault}
use Rattle.io_edge.specs.declared.fault.FetchFault.TheVariants.{TooLong, Failed, OutOfMemory}

pub record ShelfMeaning : Type 0 where
  -- what the shelf tells of the text under a name
  pub tells : List ℕ → Telling
  -- how many faults there were under a name
  pub faults : List ℕ → ℕ
  -- how many bytes were read under a name
  pub bytes : List ℕ → ℕ

-- the shelf tells that this text stands under a name
abbrev pub Told : ShelfMeaning → List ℕ → List ℕ → Type 0
Told shelf name text = shelf.tells name ≡ told text

-- the shelf tells that no text stands under a name: within a limit, reading ends with a fault
abbrev pub ToldAbsent : ShelfMeaning → ℕ → List ℕ → Type 0
ToldAbsent shelf limit name = (front : List ℕ) × (shelf.tells name ≡ absent front) × (length front ≤ limit)

-- this text may stand under a name: the shelf tells nothing, or this text
abbrev pub MayBe : ShelfMeaning → List ℕ → List ℕ → Type 0
MayBe shelf name text = CanBe (shelf.tells name) text

-- more bytes than a limit may stand under a name: the shelf tells nothing, or more
abbrev pub MayPass : ℕ → ShelfMeaning → List ℕ → Type 0
MayPass limit shelf name = CanPass limit (shelf.tells name)

-- the shelf tells the same texts as before
abbrev pub TellsTheSame : ShelfMeaning → ShelfMeaning → Type 0
TellsTheSame before now = (q : List ℕ) → now.tells q ≡ before.tells q

-- no count falls, and only that of one name may change
pub record CountsRise (before now : List ℕ → ℕ) (name : List ℕ) : Type 0 where
  pub later : (q : List ℕ) → before q ≤ now q
  pub others : (q : List ℕ) → q ≢ name → now q ≡ before q

-- a failure raised the count of faults of its name by one, and any other answer left all of them
abbrev pub CountsFault : {X : Type 0} → Result X FetchFault → (List ℕ → ℕ) → (List ℕ → ℕ) → List ℕ → Type 0
CountsFault (Err Failed) before now name = now name ≡ next_count (before name)
CountsFault (Err OutOfMemory) before now name = (q : List ℕ) → now q ≡ before q
CountsFault (Err TooLong) before now name = (q : List ℕ) → now q ≡ before q
CountsFault (Ok x) before now name = (q : List ℕ) → now q ≡ before q

-- a fault came under a name: its count rose
abbrev pub FaultRose : ShelfMeaning → ShelfMeaning → List ℕ → Type 0
FaultRose before now name = Rose (before.faults name) (now.faults name)

-- bytes were read past a limit under a name: their count rose by more than the limit
abbrev pub ReadPast : ℕ → ShelfMeaning → ShelfMeaning → List ℕ → Type 0
ReadPast limit before now name = RoseBy (limit + 1) (before.bytes name) (now.bytes name)

-- no count fell
pub record NoCountFell (before now : ShelfMeaning) : Type 0 where
  pub faults : (q : List ℕ) → before.faults q ≤ now.faults q
  pub bytes : (q : List ℕ) → before.bytes q ≤ now.bytes q

-- the shelf can be asked again: it tells the same texts, and no count fell
pub record CanAskAgain (before now : ShelfMeaning) : Type 0 where
  pub told : TellsTheSame before now
  pub counts : NoCountFell before now

-- nothing was counted under a name
abbrev pub IsUntouched : ShelfMeaning → ShelfMeaning → List ℕ → Type 0
IsUntouched before now name = (now.faults name ≡ before.faults name) × (now.bytes name ≡ before.bytes name)
