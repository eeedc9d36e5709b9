-- What the program knows before it writes.
use Rattle.std.specs.Prelude.{◌≡◌, ◌⊎◌, ℕ, List, Contains}
use denote.Ref.{Bor}
use Rattle.io_edge.specs.Edge.{Rose}
use Rattle.io_edge.specs.Shelf.{ShelfMeaning, MayBe, IsUntouched}
use Rattle.io_edge.specs.Sink.{SinkMeaning, AppendsTo, AppendsPrefix}
use Rattle.program_edge.specs.declared.status.Status.{Status}
use Rattle.program_edge.specs.declared.status.Status.TheVariants as status
use Rattle.program_edge.specs.Fetching.{unfetched_status, unfetched_line}
use Rattle.program_edge.specs.LinePuts.{lines_of, ArePut, IsFrontPut}
use Rattle.trsbatch.specs.declared.answer.Answer.{Answer}
use Rattle.trsbatch.specs.declared.answer.Answer.TheVariants as answer
use Rattle.trsbatch.specs.declared.listed.Listed.{Listed}
use Rattle.trsbatch.specs.declared.listed.Listed.TheVariants as listed
use Rattle.trsbatch.specs.ListText.{SaysNames, IsListRefused}
use Rattle.trsbatch.specs.Lines.{usage_line, list_refused_line}
use Rattle.program_edge.specs.Words.{texts}
use Rattle.trsbatch.specs.Output.{most_list_bytes, IsTextOf, IsMissing, IsNeeded}
use Rattle.trsbatch.specs.Problems.{AreFetched}

-- what a list comes to: its problems, or the line that is refused, or why there is no list
abbrev pub IsListed : List ℕ → ShelfMeaning → ShelfMeaning → Listed → Type 0
IsListed list before now (listed.Problems problems) = (text : List ℕ) × (names : List (Bor (List ℕ)))
    × IsTextOf list (MayBe before) text × SaysNames text (texts names) × AreFetched before now names problems.items
IsListed list before now (listed.Refused line) = (text : List ℕ) × IsTextOf list (MayBe before) text × IsListRefused text line
IsListed list before now (listed.Missing u) = IsMissing most_list_bytes before now list (unfetched_status u) (unfetched_line u)

-- what the text of a list comes to
abbrev pub IsReadList : List ℕ → ShelfMeaning → ShelfMeaning → Listed → Type 0
IsReadList text before now (listed.Problems problems) = (names : List (Bor (List ℕ)))
    × SaysNames text (texts names) × AreFetched before now names problems.items
IsReadList text before now (listed.Refused line) = IsListRefused text line
IsReadList text before now (listed.Missing u) = ⊥

-- nothing was counted under a name that the text does not say
abbrev pub TouchesOnlyRead : List ℕ → ShelfMeaning → ShelfMeaning → Type 0
TouchesOnlyRead text before now = (name : List ℕ)
    → IsUntouched before now name ⊎ ((names : List (List ℕ)) × SaysNames text names × Contains names name)

-- nothing was counted under a name that is not needed
abbrev pub TouchesOnlyListed : List ℕ → ShelfMeaning → ShelfMeaning → Type 0
TouchesOnlyListed list before now = (name : List ℕ) → IsUntouched before now name ⊎ IsNeeded list before name

-- the status of an answer
abbrev pub status_of : Answer → Status
status_of (answer.Blocks text) = status.Answered
status_of answer.Usage = status.Usage
status_of (answer.Refused line) = status.Refused
status_of (answer.Missing u) = unfetched_status u

-- the text that is written for it
abbrev pub text_of : Answer → List ℕ
text_of (answer.Blocks text) = text.items
text_of answer.Usage = usage_line
text_of (answer.Refused line) = list_refused_line line
text_of (answer.Missing u) = unfetched_line u

-- a text with a status was written, or a front of it; where blocks are written, line by line
pub data IsWritten (s : Status) (text : List ℕ) (taken later : SinkMeaning) : Status → Type 0 where
  whole : AppendsTo taken text later → (s ≡ status.Answered → ArePut taken (lines_of text) later)
      → IsWritten s text taken later s
  part : AppendsPrefix taken text later → Rose taken.faults later.faults
      → (s ≡ status.Answered → IsFrontPut taken (lines_of text) later) → IsWritten s text taken later status.WriteFault
