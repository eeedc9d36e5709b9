-- What a sink means, and what a call of it leaves.
use Rattle.std.specs.Prelude.{◌≡◌, ◌≤◌, ℕ, List, [], ◌∷◌, ◌++◌, take, Option, Some, None}
use Rattle.std.specs.Io.KnownBytes.{Appends}
use Rattle.io_edge.specs.Edge.{next_count}

pub record SinkMeaning : Type 0 where
  -- the bytes that it has taken, where it tells them
  pub taken : Option (List ℕ)
  -- the pieces that it has taken whole and that have bytes, where it tells them
  pub pieces : Option (List (List ℕ))
  -- how many faults there were
  pub faults : ℕ
  -- how many calls of `put` there were
  pub puts : ℕ

-- a piece was appended to the bytes, where they are told
abbrev pub AppendsTo : SinkMeaning → List ℕ → SinkMeaning → Type 0
AppendsTo before piece now = Appends before.taken now.taken piece

-- a prefix of a piece was appended to the bytes, where they are told
abbrev pub AppendsPrefix : SinkMeaning → List ℕ → SinkMeaning → Type 0
AppendsPrefix before piece now = (n : ℕ) × Appends before.taken now.taken (take n piece)

-- known pieces grow by others
abbrev pub PiecesGrow : Option (List (List ℕ)) → List (List ℕ) → Option (List (List ℕ)) → Type 0
PiecesGrow None new now = Unit {0}
PiecesGrow (Some pieces) new None = ⊥
PiecesGrow (Some pieces) new (Some more) = more ≡ pieces ++ new

-- a piece as the pieces that it adds: none, if it has no byte
abbrev pub pieces_in : List ℕ → List (List ℕ)
pieces_in [] = []
pieces_in (b ∷ bs) = (b ∷ bs) ∷ []

-- these pieces were taken whole, where pieces are told
abbrev pub TakesPieces : SinkMeaning → List (List ℕ) → SinkMeaning → Type 0
TakesPieces before new now = PiecesGrow before.pieces new now.pieces

-- there was one call of `put`
abbrev pub IsOnePut : SinkMeaning → SinkMeaning → Type 0
IsOnePut before now = now.puts ≡ next_count before.puts

-- no count fell
abbrev pub NoSinkCountFell : SinkMeaning → SinkMeaning → Type 0
NoSinkCountFell before now = (before.faults ≤ now.faults) × (before.puts ≤ now.puts)
