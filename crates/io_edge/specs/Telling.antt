-- What is told of a text before it is read, and of what is left while it is read.
use Rattle.std.specs.Prelude.{◌≡◌, ◌<◌, ◌≤◌, ℕ, List, [], ◌++◌, length}
use Rattle.io_edge.specs.Edge.{count_after}

pub data Telling : Type 0 where
  -- nothing
  untold : Telling
  -- that there is none: reading ends with a fault behind these bytes, before the first where nothing is there at all
  absent : List ℕ → Telling
  -- that it is this
  told : List ℕ → Telling

-- this text may be there
abbrev pub CanBe : Telling → List ℕ → Type 0
CanBe untold text = Unit {0}
CanBe (absent front) text = ⊥
CanBe (told whole) text = text ≡ whole

-- more bytes than a limit may be there
abbrev pub CanPass : ℕ → Telling → Type 0
CanPass limit untold = Unit {0}
CanPass limit (absent front) = limit < length front
CanPass limit (told whole) = limit < length whole

-- so many bytes may be there, or more
abbrev pub CanGive : ℕ → Telling → Type 0
CanGive n untold = Unit {0}
CanGive n (absent front) = n ≤ length front
CanGive n (told whole) = n ≤ length whole

-- these bytes were read, and this is told of what is left
abbrev pub Gives : Telling → List ℕ → Telling → Type 0
Gives untold bytes left = Unit {0}
Gives (absent front) bytes left = (rest : List ℕ) × (front ≡ bytes ++ rest) × (left ≡ absent rest)
Gives (told whole) bytes left = (rest : List ℕ) × (whole ≡ bytes ++ rest) × (left ≡ told rest)

-- nothing is left
abbrev pub IsAtEnd : Telling → Type 0
IsAtEnd untold = Unit {0}
IsAtEnd (absent front) = ⊥
IsAtEnd (told whole) = whole ≡ []

-- a fault comes next
abbrev pub IsAtFault : Telling → Type 0
IsAtFault untold = Unit {0}
IsAtFault (absent front) = front ≡ []
IsAtFault (told whole) = ⊥

-- a fault may come behind so many bytes
abbrev pub CanFailBehind : ℕ → Telling → Type 0
CanFailBehind n untold = Unit {0}
CanFailBehind n (absent front) = length front ≡ n
CanFailBehind n (told whole) = ⊥

-- a fault came within a limit, and the bytes before it were counted
abbrev pub BreaksOff : ℕ → Telling → ℕ → ℕ → Type 0
BreaksOff limit telling before now = (n : ℕ) × CanFailBehind n telling × (n ≤ limit) × (now ≡ count_after n before)
