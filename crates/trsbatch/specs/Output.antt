-- What the program answers: a status and a text, by what its words ask for and by the texts under their names.
use Rattle.std.specs.Prelude.{◌≡◌, ◌<◌, ◌≤◌, ◌⊎◌, ◌+◌, ◌&&◌, ℕ, Bool, true, false, cond, List, [], ◌∷◌, length, Option, Some, None, Contains}
use Rattle.std.specs.List.{AllZip}
use Rattle.std.specs.Str.{bytes_eq}
use Rattle.io_edge.specs.Edge.{RoseBy}
use Rattle.io_edge.specs.Shelf.{ShelfMeaning, Told, ToldAbsent, MayBe, MayPass, FaultRose, ReadPast, IsUntouched}
use Rattle.io_edge.specs.Sink.{SinkMeaning, AppendsTo, AppendsPrefix}
use Rattle.command_line.specs.declared.Question.{Question}
use Rattle.program_edge.specs.declared.status.Status.{Status}
use Rattle.program_edge.specs.declared.status.Status.TheVariants as status
use Rattle.program_edge.specs.Lines.{too_long_line, read_fault_line}
use Rattle.program_edge.specs.LinePuts.{lines_of, ArePut, IsFrontPut}
use Rattle.program_edge.specs.Fetching.{most_problem_bytes}
use Rattle.program_edge.specs.Conclusions.{IsConclusion}
use Rattle.program_edge.specs.Running.{IsOr}
use Rattle.trsbatch.specs.ListText.{SaysNames, IsListRefused}
use Rattle.trsbatch.specs.Words.{BatchAsked}
use Rattle.trsbatch.specs.Lines.{usage_line, list_refused_line}
use Rattle.trsbatch.specs.Blocks.{PlainBlock, blocks_text}

-- the most bytes of the text of a list
abbrev pub most_list_bytes : ℕ
most_list_bytes = 1048576

-- why there is no text under a name: a fault came there, or more bytes than a limit may stand there and were read; with the
-- status and the line that say so
pub data IsMissing (limit : ℕ) (before now : ShelfMeaning) (name : List ℕ) : Status → List ℕ → Type 0 where
  by_fault : FaultRose before now name → IsMissing limit before now name status.ReadFault (read_fault_line name)
  by_length : MayPass limit before name → ReadPast limit before now name
      → IsMissing limit before now name status.TooLong (too_long_line name)

-- the status and the text of a block, with their cause: what one worker answers to the question for a text that may stand
-- under the name; or why there is none; or want of memory, with no text
pub data IsAnswered (question : Question) (budget : ℕ) (before now : ShelfMeaning) (name : List ℕ) : Status → List ℕ → Type 0 where
  concluded : {s : Status} {text : List ℕ} (problem : List ℕ) → MayBe before name problem → length problem ≤ most_problem_bytes
      → IsConclusion problem question 1 budget s text → IsAnswered question budget before now name s text
  missing : {s : Status} {text : List ℕ} → IsMissing most_problem_bytes before now name s text
      → IsAnswered question budget before now name s text
  memory : IsAnswered question budget before now name status.OutOfMemory []

-- the block of a name
abbrev pub IsBlock : Question → ℕ → ShelfMeaning → ShelfMeaning → List ℕ → PlainBlock → Type 0
IsBlock question budget before now name b = (b.name ≡ name) × IsAnswered question budget before now name b.status b.text

abbrev pub is_read_fault : Status → Bool
is_read_fault status.ReadFault = true
is_read_fault s = false

-- how many blocks tell of a fault under a name
abbrev pub read_faults : List ℕ → List PlainBlock → ℕ
read_faults name [] = 0
read_faults name (b ∷ bs) = cond (is_read_fault b.status && bytes_eq b.name name) 1 0 + read_faults name bs

-- the blocks of a list, one for each name, in order; no more of them tell of a fault under a name than came there
pub record AreBlocks (asked : BatchAsked) (before now : ShelfMeaning) (names : List (List ℕ)) (blocks : List PlainBlock) : Type 0 where
  pub each : AllZip (IsBlock asked.question asked.budget before now) names blocks
  pub faults : (name : List ℕ) → RoseBy (read_faults name blocks) (before.faults name) (now.faults name)

-- a text of the list, within the limit
abbrev pub IsTextOf : List ℕ → (List ℕ → List ℕ → Type 0) → List ℕ → Type 0
IsTextOf list under text = under list text × (length text ≤ most_list_bytes)

-- the answer, with its cause: a status, and the text that is written
pub data IsAnswer (request : Option BatchAsked) (before now : ShelfMeaning) : Status → List ℕ → Type 0 where
  usage : request ≡ None → IsAnswer request before now status.Usage usage_line
  no_list : {s : Status} {text : List ℕ} (asked : BatchAsked) → request ≡ Some asked
      → IsMissing most_list_bytes before now asked.list s text → IsAnswer request before now s text
  refused : (asked : BatchAsked) (list : List ℕ) (line : ℕ) → request ≡ Some asked → IsTextOf asked.list (MayBe before) list
      → IsListRefused list line → IsAnswer request before now status.Refused (list_refused_line line)
  answered : (asked : BatchAsked) (list : List ℕ) (names : List (List ℕ)) (blocks : List PlainBlock) → request ≡ Some asked
      → IsTextOf asked.list (MayBe before) list → SaysNames list names → AreBlocks asked before now names blocks
      → IsAnswer request before now status.Answered (blocks_text blocks)

-- What a status says of the bytes that the sink took: they are the text, or, where writing failed, a front of a text. Where
-- blocks are written, each line is one put, and where writing failed, each line of a front is, and a prefix of the next.
abbrev pub Writes : Option BatchAsked → ShelfMeaning → ShelfMeaning → Status → SinkMeaning → SinkMeaning → Type 0
Writes request before now status.WriteFault taken later = (s : Status) × (text : List ℕ)
    × IsAnswer request before now s text × AppendsPrefix taken text later
    × (s ≡ status.Answered → IsFrontPut taken (lines_of text) later)
Writes request before now status.OutOfMemory taken later = later ≡ taken
Writes request before now s taken later = (text : List ℕ)
    × IsAnswer request before now s text × AppendsTo taken text later
    × (s ≡ status.Answered → ArePut taken (lines_of text) later)

-- the status that the words and what the shelf tells of the list ask for
pub data IsWanted (request : Option BatchAsked) (shelf : ShelfMeaning) : Status → Type 0 where
  for_usage : request ≡ None → IsWanted request shelf status.Usage
  for_absence : (asked : BatchAsked) → request ≡ Some asked → ToldAbsent shelf most_list_bytes asked.list
      → IsWanted request shelf status.ReadFault
  for_length : (asked : BatchAsked) (list : List ℕ) → request ≡ Some asked → Told shelf asked.list list
      → most_list_bytes < length list → IsWanted request shelf status.TooLong
  for_refusal : (asked : BatchAsked) (list : List ℕ) (line : ℕ) → request ≡ Some asked → IsTextOf asked.list (Told shelf) list
      → IsListRefused list line → IsWanted request shelf status.Refused
  for_names : (asked : BatchAsked) (list : List ℕ) (names : List (List ℕ)) → request ≡ Some asked
      → IsTextOf asked.list (Told shelf) list → SaysNames list names → IsWanted request shelf status.Answered

-- the status is the one that is asked for, unless a fault or want of memory came
abbrev pub AnswersOnly : Option BatchAsked → ShelfMeaning → Status → Type 0
AnswersOnly request shelf s = (wanted : Status) → IsWanted request shelf wanted → IsOr wanted s

-- the text under a name is needed: it is the list, or a name that a text of the list says
pub data IsNeeded (list : List ℕ) (before : ShelfMeaning) : List ℕ → Type 0 where
  as_list : IsNeeded list before list
  as_problem : {name : List ℕ} (text : List ℕ) (names : List (List ℕ)) → IsTextOf list (MayBe before) text → SaysNames text names
      → Contains names name → IsNeeded list before name

-- nothing is counted under a name, unless its text is needed
abbrev pub TouchesOnlyNeeded : Option BatchAsked → ShelfMeaning → ShelfMeaning → Type 0
TouchesOnlyNeeded request before now = (name : List ℕ)
    → IsUntouched before now name ⊎ ((asked : BatchAsked) × (request ≡ Some asked) × IsNeeded asked.list before name)
