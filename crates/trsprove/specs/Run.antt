-- What a run promises of its status, and what the arguments of a host ask for.
use Rattle.std.specs.Prelude.{◌≡◌, ℕ, map, drop, Option, None, Result, Ok, Err, String, string_bytes}
use Rattle.std.specs.declared.alloc.Global.{Global}
use Rattle.std.specs.declared.io.Error.{Error}
use Rattle.std.specs.declared.vec.IntoIter.{IntoIter}
use Rattle.std.specs.Vec.Iter.{into_iter_items}
use Rattle.io_edge.specs.Edge.{Rose}
use Rattle.io_edge.specs.Shelf.{ShelfMeaning}
use Rattle.io_edge.specs.Sink.{SinkMeaning}
use Rattle.command_line.specs.Request.{Asked, request_of}
use Rattle.program_edge.specs.declared.status.Status.{Status}
use Rattle.program_edge.specs.declared.status.Status.TheVariants as status
use Rattle.program_edge.specs.Running.{CanRunAgain}
use Rattle.trsprove.specs.Output.{Writes, AnswersOnly, TouchesOnlyNeeded, AnswersNoAbsence}
use Rattle.trsprove.specs.Truth.{IsTrueAnswer}
use Rattle.trsprove.specs.Completeness.{NoFaultRose, IsComplete}
use Rattle.program_edge.specs.Statuses.{code_of}

-- the clauses of `run`
pub record IsRun (request : Option Asked) (before now : ShelfMeaning) (s : Status) (taken later : SinkMeaning) : Type 0 where
  pub output : Writes request before now s taken later
  pub write : s ≡ status.WriteFault → Rose taken.faults later.faults
  pub only : AnswersOnly request before s
  pub truth : s ≡ status.Answered → IsTrueAnswer request before taken later
  pub untouched : TouchesOnlyNeeded request before now
  pub absent : AnswersNoAbsence request before s
  pub complete : NoFaultRose before now taken later → IsComplete request before s
  pub again : CanRunAgain before now taken later

-- a run ended with this exit code
abbrev pub EndsWith : Option Asked → ShelfMeaning → ShelfMeaning → ℕ → SinkMeaning → SinkMeaning → Type 0
EndsWith request before now code taken later =
    (s : Status) × (code ≡ code_of s) × IsRun request before now s taken later

-- what the arguments of a host ask for: the first names the program, and arguments that are not text ask for nothing
abbrev pub request_given : Result (IntoIter (String Global) Global) Error → Option Asked
request_given (Ok arguments) = request_of (map string_bytes (drop 1 (into_iter_items arguments)))
request_given (Err e) = None
