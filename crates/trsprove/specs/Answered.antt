-- What is promised of an answer before it is written.
use Rattle.std.specs.Prelude.{Option, Result, IfOk}
use Rattle.io_edge.specs.Shelf.{ShelfMeaning, CanAskAgain}
use Rattle.command_line.specs.Request.{Asked}
use Rattle.trsprove.specs.declared.answer.Answer.{Answer}
use Rattle.trsprove.specs.Answers.{status_of, text_of}
use Rattle.trsprove.specs.Output.{IsAnswer, AnswersOnly, TouchesOnlyNeeded}

-- the answer, if memory sufficed for it, has its cause and is the defined one; no other text was touched than those that are
-- needed, and the shelf can be asked again
pub record IsAnswered {E : Type 0} (request : Option Asked) (before now : ShelfMeaning) (r : Result Answer E) : Type 0 where
  pub answer : IfOk r (λ a. IsAnswer request before now (status_of a) (text_of a))
  pub only : IfOk r (λ a. AnswersOnly request before (status_of a))
  pub untouched : TouchesOnlyNeeded request before now
  pub again : CanAskAgain before now
