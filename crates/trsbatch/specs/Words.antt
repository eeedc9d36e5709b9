-- What the words of the program ask for.
use Rattle.std.specs.Prelude.{◌≡◌, ℕ, List, Option, Some, None, Result, Ok, Err}
use Rattle.command_line.specs.Request.{Asked, certifies, proves, completes, samples, request_of}
use Rattle.command_line.specs.declared.Question.{Question}
use Rattle.command_line.specs.declared.Refused.{Refused}
use Rattle.command_line.specs.declared.Refused.TheVariants.{Usage, OutOfMemory}
use Rattle.trsbatch.specs.declared.words.Batch.{Batch}

-- a question about the problems of a list
pub record BatchAsked : Type 0 where
  pub question : Question
  -- the name of the list
  pub list : List ℕ
  pub workers : ℕ
  pub budget : ℕ

-- a question about a problem, asked about the problems of a list
abbrev pub asked_of_list : Option Asked → Option BatchAsked
asked_of_list (Some (proves question list workers budget)) =
    Some (record { question = question; list = list; workers = workers; budget = budget })
asked_of_list (Some (certifies wanted problem certificate)) = None
asked_of_list (Some (completes problem order budget)) = None
asked_of_list (Some (samples size workers budget)) = None
asked_of_list None = None

-- what the words ask for: those that ask `trsprove` a question about a problem, with the list in the problem's place
abbrev pub batch_of : List (List ℕ) → Option BatchAsked
batch_of words = asked_of_list (request_of words)

abbrev pub batch_view : Batch → BatchAsked
batch_view b = record { question = b.question; list = b.list.now; workers = b.workers; budget = b.budget }

abbrev pub AnswersBatch : Result Batch Refused → Option BatchAsked → Type 0
AnswersBatch (Ok b) asked = asked ≡ Some (batch_view b)
AnswersBatch (Err Usage) asked = asked ≡ None
AnswersBatch (Err OutOfMemory) asked = Unit {0}
