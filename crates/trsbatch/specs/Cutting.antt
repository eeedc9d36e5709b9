-- A text that is cut at its first line feed.
use Rattle.std.specs.Prelude.{◌≡◌, ◌≢◌, ℕ, List, ◌∷◌, ◌++◌, Option, Some, None}
use Rattle.std.specs.List.{All}
use denote.Ref.{Bor}

-- no byte is a line feed
abbrev pub HasNoFeed : List ℕ → Type 0
HasNoFeed bytes = All (λ b. b ≢ 10) bytes

-- the first line, and what is behind its line feed, if it has one
abbrev pub IsCut : List ℕ → List ℕ → Option (Bor (List ℕ)) → Type 0
IsCut text line None = (text ≡ line) × HasNoFeed line
IsCut text line (Some behind) = (text ≡ line ++ 10 ∷ behind.now) × HasNoFeed line
