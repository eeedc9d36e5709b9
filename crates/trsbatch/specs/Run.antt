-- What a run promises of its status, and what the arguments of a host ask for.
use Rattle.std.specs.Prelude.{◌≡◌, ℕ, map, drop, Option, None, Result, Ok, Err, String, string_bytes}
use Rattle.std.specs.declared.alloc.Global.{Global}
use Rattle.std.specs.declared.io.Error.{Error}
use Rattle.std.specs.declared.vec.IntoIter.{IntoIter}
use Rattle.std.specs.Vec.Iter.{into_iter_items}
use Rattle.io_edge.specs.Edge.{Rose}
use Rattle.io_edge.specs.Shelf.{ShelfMeaning}
use Rattle.io_edge.specs.Sink.{SinkMeaning}
use Rattle.program_edge.specs.declared.status.Status.{Status}
use Rattle.program_edge.specs.declared.status.Status.TheVariants as status
use Rattle.program_edge.specs.Statuses.{code_of}
use Rattle.trsbatch.specs.Words.{BatchAsked, batch_of}
use Rattle.program_edge.specs.Running.{CanRunAgain}
use Rattle.trsbatch.specs.Output.{Writes, AnswersOnly, TouchesOnlyNeeded}

-- the clauses of `run_batch`
pub record IsRun (request : Option BatchAsked) (before now : ShelfMeaning) (s : Status) (taken later : SinkMeaning) : Type 0 where
  pub output : Writes request before now s taken later
  pub write : s ≡ status.WriteFault → Rose taken.faults later.faults
  pub only : AnswersOnly request before s
  pub untouched : TouchesOnlyNeeded request before now
  pub again : CanRunAgain before now taken later

-- a run ended with this exit code
abbrev pub EndsWith : Option BatchAsked → ShelfMeaning → ShelfMeaning → ℕ → SinkMeaning → SinkMeaning → Type 0
EndsWith request before now code taken later =
    (s : Status) × (code ≡ code_of s) × IsRun request before now s taken later

-- what the arguments of a host ask for: the first names the program, and arguments that are not text ask for nothing
abbrev pub batch_given : Result (IntoIter (String Global) Global) Error → Option BatchAsked
batch_given (Ok arguments) = batch_of (map string_bytes (drop 1 (into_iter_items arguments)))
batch_given (Err e) = None
