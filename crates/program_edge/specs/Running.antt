-- Runs of a program: the status that one has, and what it leaves to another.
use Rattle.std.specs.Prelude.{◌≡◌}
use Rattle.io_edge.specs.Shelf.{ShelfMeaning, CanAskAgain}
use Rattle.io_edge.specs.Sink.{SinkMeaning, NoSinkCountFell}
use Rattle.program_edge.specs.declared.status.Status.{Status}
use Rattle.program_edge.specs.declared.status.Status.TheVariants as status

-- this status, unless a fault or want of memory came
abbrev pub IsOr : Status → Status → Type 0
IsOr wanted status.ReadFault = Unit {0}
IsOr wanted status.WriteFault = Unit {0}
IsOr wanted status.OutOfMemory = Unit {0}
IsOr wanted s = s ≡ wanted

-- the program can be run again, on this shelf and this sink
abbrev pub CanRunAgain : ShelfMeaning → ShelfMeaning → SinkMeaning → SinkMeaning → Type 0
CanRunAgain before now taken later = CanAskAgain before now × NoSinkCountFell taken later
