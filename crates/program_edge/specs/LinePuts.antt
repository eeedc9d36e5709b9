-- Texts that are put line by line.
use Rattle.std.specs.Prelude.{◌≡◌, ◌==◌, ◌<◌, ℕ, zero, suc, List, ◌∷◌, [], ◌++◌, take, length, if◌then◌else◌}
use Rattle.std.specs.List.{concat}
use Rattle.std.specs.Io.KnownBytes.{Appends}
use Rattle.io_edge.specs.Edge.{next_count}
use Rattle.io_edge.specs.Sink.{SinkMeaning, TakesPieces}

-- a byte before the first of some lines
abbrev pub before_first : ℕ → List (List ℕ) → List (List ℕ)
before_first b [] = (b ∷ []) ∷ []
before_first b (line ∷ lines) = (b ∷ line) ∷ lines

-- the lines of a text: it is split behind each line feed
abbrev pub lines_of : List ℕ → List (List ℕ)
lines_of [] = []
lines_of (b ∷ bs) = if b == 10 then (b ∷ []) ∷ lines_of bs else before_first b (lines_of bs)

-- the first line of a text, and what stands behind it
pub record IsFirstLine (text line behind : List ℕ) : Type 0 where
  pub whole : text ≡ line ++ behind
  pub lines : lines_of text ≡ line ∷ lines_of behind
  pub some : 0 < length line

-- a count after so many calls
abbrev pub after_calls : ℕ → ℕ → ℕ
after_calls zero count = count
after_calls (suc n) count = next_count (after_calls n count)

-- these pieces were put, each by one call
pub record ArePut (before : SinkMeaning) (pieces : List (List ℕ)) (now : SinkMeaning) : Type 0 where
  pub taken : TakesPieces before pieces now
  pub calls : now.puts ≡ after_calls (length pieces) before.puts

-- a front of these pieces was put, each by one call, and one more call put a prefix of the next
pub record IsFrontPut (before : SinkMeaning) (pieces : List (List ℕ)) (now : SinkMeaning) : Type 0 where
  pub front : List (List ℕ)
  pub next : List ℕ
  pub rest : List (List ℕ)
  pub split : pieces ≡ front ++ next ∷ rest
  pub taken : TakesPieces before front now
  pub size : ℕ
  pub bytes : Appends before.taken now.taken (concat front ++ take size next)
  pub calls : now.puts ≡ after_calls (suc (length front)) before.puts
