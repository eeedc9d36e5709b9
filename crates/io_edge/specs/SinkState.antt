-- What a sink in memory is.
use Rattle.std.specs.Prelude.{ℕ, ◌-◌, ◌||◌, Bool, List, [], ◌∷◌, take, drop, length, nat_lt, Some}
use Rattle.io_edge.specs.Sink.{SinkMeaning}
use Rattle.io_edge.specs.ShelfState.{is_failing}

pub record SinkState : Type 0 where
  -- how many bytes it has room for in all
  pub room : ℕ
  -- the numbers of the calls that fail, from 0
  pub failing : List ℕ
  -- how many calls there were
  pub calls : ℕ
  -- the bytes that it has taken
  pub bytes : List ℕ
  -- the pieces that it has taken and that have bytes
  pub pieces : List (List ℕ)
  -- how many faults there were
  pub faults : ℕ

-- what it means: it tells its bytes and its pieces
abbrev pub sink_meaning : SinkState → SinkMeaning
sink_meaning s = record { taken = Some s.bytes; pieces = Some s.pieces; faults = s.faults; puts = s.calls }

-- bytes, cut into pieces of these sizes
abbrev pub cut_by : List ℕ → List ℕ → List (List ℕ)
cut_by [] bytes = []
cut_by (n ∷ sizes) bytes = take n bytes ∷ cut_by sizes (drop n bytes)

-- the next call fails at a piece: it is to fail, or there is no room
abbrev pub refuses : SinkState → List ℕ → Bool
refuses s piece = is_failing s.failing s.calls || nat_lt (s.room - length s.bytes) (length piece)
