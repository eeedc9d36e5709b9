-- What putting a piece into a sink leaves.
use Rattle.std.specs.Prelude.{ℕ, List, [], Result, Ok, Err}
use Rattle.io_edge.specs.Edge.{Rose}
use Rattle.io_edge.specs.Sink.{SinkMeaning, AppendsTo, AppendsPrefix, pieces_in, TakesPieces, IsOnePut, NoSinkCountFell}
use Rattle.program_edge.specs.LinePuts.{lines_of, ArePut, IsFrontPut}

-- the piece was appended; or a prefix of it was, and the count of faults rose; no count fell
abbrev pub Puts : {X E : Type 0} → Result X E → SinkMeaning → List ℕ → SinkMeaning → Type 0
Puts (Ok x) before piece now = AppendsTo before piece now × NoSinkCountFell before now
Puts (Err e) before piece now = AppendsPrefix before piece now × Rose before.faults now.faults × NoSinkCountFell before now

-- by one call the piece was taken, or none
abbrev pub PutsOne : {X E : Type 0} → Result X E → SinkMeaning → List ℕ → SinkMeaning → Type 0
PutsOne (Ok x) before piece now = TakesPieces before (pieces_in piece) now × IsOnePut before now
PutsOne (Err e) before piece now = TakesPieces before [] now × IsOnePut before now

-- the lines of the text were put one by one; or some of them were, and a prefix of the next
abbrev pub PutsLines : {X E : Type 0} → Result X E → SinkMeaning → List ℕ → SinkMeaning → Type 0
PutsLines (Ok x) before text now = ArePut before (lines_of text) now
PutsLines (Err e) before text now = IsFrontPut before (lines_of text) now
