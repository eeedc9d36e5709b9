-- What is answered to a question about the system of a problem text.
use Rattle.std.specs.Prelude.{◌≡◌, ◌≢◌, ℕ, List}
use Rattle.names_text.specs.Named.{NamedSystem}
use Rattle.ari_text.specs.Problem.{SaysSystem, IsProblemRefused}
use Rattle.ari_text.specs.declared.fault.AriFault.{AriFault}
use Rattle.ari_text.specs.declared.fault.AriFault.TheVariants as ari
use Rattle.command_line.specs.declared.Question.{Question}
use Rattle.command_line.specs.declared.Question.TheVariants as word
use Rattle.conclusion.specs.tree_definitions.declared.question.Question as tree
use Rattle.conclusion.specs.tree_definitions.declared.question.Question.TheVariants as goals
use Rattle.conclusion.specs.Concludes.{Concludes}
use Rattle.conclusion.specs.SerialText.{IsSerialText}
use Rattle.program_edge.specs.declared.asking.Conclusion.{Conclusion}
use Rattle.program_edge.specs.declared.asking.Conclusion.TheVariants as conclusion
use Rattle.program_edge.specs.declared.status.Status.{Status}
use Rattle.program_edge.specs.declared.status.Status.TheVariants as status
use Rattle.program_edge.specs.Lines.{refused_line}

-- the question of the proof tree
abbrev pub question_of : Question → tree.Question
question_of word.Termination = goals.Termination
question_of word.Confluence = goals.Confluence
question_of word.Unique = goals.Unique

-- the text answers the question, and is that of the serial history where there is one worker
pub record IsAnsweredBy (workers : ℕ) (named : NamedSystem) (question : tree.Question) (budget : ℕ) (text : List ℕ) : Type 0 where
  pub concludes : Concludes named question budget text
  pub serial : workers ≡ 1 → IsSerialText named question budget text

-- what is answered to a question about the system of a problem text, by the searches of so many workers within a budget: a
-- status, and the text that is written
pub data IsConclusion (problem : List ℕ) (question : Question) (workers budget : ℕ) : Status → List ℕ → Type 0 where
  no_system : (fault : AriFault) → IsProblemRefused problem fault → fault ≢ ari.OutOfMemory
      → IsConclusion problem question workers budget status.Refused (refused_line fault)
  concluded : {text : List ℕ} (named : NamedSystem) → SaysSystem problem named
      → IsAnsweredBy workers named (question_of question) budget text
      → IsConclusion problem question workers budget status.Answered text

-- the status and the text of an answer
abbrev pub conclusion_status : Conclusion → Status
conclusion_status (conclusion.Concluded text) = status.Answered
conclusion_status (conclusion.Refused fault) = status.Refused

abbrev pub conclusion_text : Conclusion → List ℕ
conclusion_text (conclusion.Concluded text) = text.items
conclusion_text (conclusion.Refused fault) = refused_line fault
