-- What the program answers: a status and a text, by what its words ask for and by the texts under their names.
use Rattle.std.specs.Prelude.{◌≡◌, ◌⊎◌, ◌<◌, ◌≤◌, ℕ, List, Option, Some, None, length}
use Rattle.io_edge.specs.Shelf.{ShelfMeaning, Told, ToldAbsent, MayBe, MayPass, FaultRose, ReadPast, IsUntouched}
use Rattle.io_edge.specs.Sink.{SinkMeaning, AppendsTo, AppendsPrefix}
use Rattle.command_line.specs.Request.{Asked, certifies, proves, completes, samples}
use Rattle.command_line.specs.declared.Question.{Question}
use Rattle.command_line.specs.declared.Wanted.{Wanted}
use Rattle.program_edge.specs.declared.status.Status.{Status}
use Rattle.program_edge.specs.declared.status.Status.TheVariants as status
use Rattle.program_edge.specs.Lines.{too_long_line, read_fault_line}
use Rattle.program_edge.specs.LinePuts.{lines_of, ArePut, IsFrontPut}
use Rattle.program_edge.specs.Fetching.{most_problem_bytes}
use Rattle.program_edge.specs.Conclusions.{IsConclusion}
use Rattle.program_edge.specs.Running.{IsOr}
use Rattle.trsprove.specs.Lines.{usage_line}
use Rattle.trsprove.specs.Workers.{IsSampledBy}
use Rattle.trsprove.specs.Verdicts.{Verdict, most_certificate_bytes}
use Rattle.trsprove.specs.Completions.{IsCompletion, most_order_bytes}

-- it is asked to certify the text under a name for the problem under another, and to write what is wanted of it, and these
-- are texts under them
pub record AreFetched (request : Option Asked) (wanted : Wanted) (under : List ℕ → List ℕ → Type 0) (problem certificate : List ℕ) : Type 0 where
  pub problem_name : List ℕ
  pub certificate_name : List ℕ
  pub asked : request ≡ Some (certifies wanted problem_name certificate_name)
  pub problem_under : under problem_name problem
  pub certificate_under : under certificate_name certificate
  pub problem_size : length problem ≤ most_problem_bytes
  pub certificate_size : length certificate ≤ most_certificate_bytes

-- this question is asked about the problem under a name, within this budget, and this is a text under the name
pub record IsAsked (request : Option Asked) (question : Question) (budget : ℕ) (under : List ℕ → List ℕ → Type 0) (problem : List ℕ) : Type 0 where
  pub name : List ℕ
  pub workers : ℕ
  pub asked : request ≡ Some (proves question name workers budget)
  pub name_under : under name problem
  pub size : length problem ≤ most_problem_bytes

-- it is asked to complete the equations of the problem under a name by the order under another, within this budget, and these
-- are texts under them
pub record AreEquations (request : Option Asked) (budget : ℕ) (under : List ℕ → List ℕ → Type 0) (problem order : List ℕ) : Type 0 where
  pub problem_name : List ℕ
  pub order_name : List ℕ
  pub asked : request ≡ Some (completes problem_name order_name budget)
  pub problem_under : under problem_name problem
  pub order_under : under order_name order
  pub problem_size : length problem ≤ most_problem_bytes
  pub order_size : length order ≤ most_order_bytes

-- a text under a name is within a limit
abbrev pub IsWithin : ℕ → (List ℕ → List ℕ → Type 0) → List ℕ → Type 0
IsWithin limit under name = (text : List ℕ) × under name text × (length text ≤ limit)

-- a text under a name is too long
abbrev pub IsTooLong : ℕ → (List ℕ → List ℕ → Type 0) → List ℕ → Type 0
IsTooLong limit under name = (text : List ℕ) × under name text × (limit < length text)

-- the text under a name is needed, with so many bytes at most: that of the problem, or that of the certificate or the order
-- once the problem's is fetched; a question needs its problem alone
pub data IsNeeded (request : Option Asked) (is_fetched : List ℕ → Type 0) : List ℕ → ℕ → Type 0 where
  as_problem : (wanted : Wanted) (problem certificate : List ℕ) → request ≡ Some (certifies wanted problem certificate)
      → IsNeeded request is_fetched problem most_problem_bytes
  as_certificate : (wanted : Wanted) (problem certificate : List ℕ) → request ≡ Some (certifies wanted problem certificate)
      → is_fetched problem → IsNeeded request is_fetched certificate most_certificate_bytes
  as_question : (question : Question) (problem : List ℕ) (workers budget : ℕ) → request ≡ Some (proves question problem workers budget)
      → IsNeeded request is_fetched problem most_problem_bytes
  as_equations : (problem order : List ℕ) (budget : ℕ) → request ≡ Some (completes problem order budget)
      → IsNeeded request is_fetched problem most_problem_bytes
  as_order : (problem order : List ℕ) (budget : ℕ) → request ≡ Some (completes problem order budget)
      → is_fetched problem → IsNeeded request is_fetched order most_order_bytes

-- the answer: a status, and the text that is written
pub data Output (request : Option Asked) (under : List ℕ → List ℕ → Type 0) : Status → List ℕ → Type 0 where
  usage : request ≡ None → Output request under status.Usage usage_line
  too_long : (name : List ℕ) (limit : ℕ) → IsNeeded request (IsWithin most_problem_bytes under) name limit
      → IsTooLong limit under name → Output request under status.TooLong (too_long_line name)
  decided : {s : Status} {text : List ℕ} (wanted : Wanted) (problem certificate : List ℕ)
      → AreFetched request wanted under problem certificate → Verdict problem certificate wanted s text
      → Output request under s text
  answered : {s : Status} {text : List ℕ} (question : Question) (budget : ℕ) (problem : List ℕ)
      (asked : IsAsked request question budget under problem) → IsConclusion problem question asked.workers budget s text
      → Output request under s text
  completed : {s : Status} {text : List ℕ} (budget : ℕ) (problem order : List ℕ)
      → AreEquations request budget under problem order → IsCompletion problem order budget s text
      → Output request under s text
  sampled : {line : List ℕ} (size workers budget : ℕ) → request ≡ Some (samples size workers budget)
      → IsSampledBy workers size budget line → Output request under status.Answered line

-- the text of the problem was fetched under a name: no fault came, and a text within the limit may stand there
abbrev pub WasFetched : ShelfMeaning → ShelfMeaning → List ℕ → Type 0
WasFetched before now name = (now.faults name ≡ before.faults name) × IsWithin most_problem_bytes (MayBe before) name

-- a text that is written, with its status and its cause: the answer for the texts that may stand on the shelf, or what came
-- there
abbrev pub IsAnswer : Option Asked → ShelfMeaning → ShelfMeaning → Status → List ℕ → Type 0
IsAnswer request before now status.ReadFault text = (name : List ℕ) × (limit : ℕ)
    × IsNeeded request (WasFetched before now) name limit × FaultRose before now name × (text ≡ read_fault_line name)
IsAnswer request before now status.TooLong text = (name : List ℕ) × (limit : ℕ)
    × IsNeeded request (WasFetched before now) name limit × MayPass limit before name
    × ReadPast limit before now name × (text ≡ too_long_line name)
IsAnswer request before now status.WriteFault text = ⊥
IsAnswer request before now status.OutOfMemory text = ⊥
IsAnswer request before now s text = Output request (MayBe before) s text

-- the defined answer is a verdict: on a certificate, a question, equations or a sample
abbrev pub GivesVerdict : Status → Type 0
GivesVerdict s = (s ≡ status.Answered) ⊎ (s ≡ status.Rejected)

-- what a status says of the bytes that the sink took: they are the text, or, where writing failed, a front of a text; where
-- it gives a verdict, each line is one put, and where writing failed, each line of a front is, and a prefix of the next
abbrev pub Writes : Option Asked → ShelfMeaning → ShelfMeaning → Status → SinkMeaning → SinkMeaning → Type 0
Writes request before now status.WriteFault taken later = (s : Status) × (text : List ℕ)
    × IsAnswer request before now s text × AppendsPrefix taken text later
    × (GivesVerdict s → IsFrontPut taken (lines_of text) later)
Writes request before now status.OutOfMemory taken later = later ≡ taken
Writes request before now s taken later = (text : List ℕ)
    × IsAnswer request before now s text × AppendsTo taken text later
    × (GivesVerdict s → ArePut taken (lines_of text) later)

-- where the texts that the shelf tells have an answer, the status is that of the answer, faults and want of memory aside
abbrev pub AnswersOnly : Option Asked → ShelfMeaning → Status → Type 0
AnswersOnly request shelf s = (wanted : Status) (text : List ℕ) → Output request (Told shelf) wanted text → IsOr wanted s

-- where the shelf tells that a text that is needed is not there, no answer is given: it is a read fault, unless another
-- fault or want of memory comes
abbrev pub AnswersNoAbsence : Option Asked → ShelfMeaning → Status → Type 0
AnswersNoAbsence request shelf s = (name : List ℕ) (limit : ℕ)
    → IsNeeded request (IsWithin most_problem_bytes (Told shelf)) name limit → ToldAbsent shelf limit name
    → IsOr status.ReadFault s

-- nothing is counted under a name, unless its text is needed
abbrev pub TouchesOnlyNeeded : Option Asked → ShelfMeaning → ShelfMeaning → Type 0
TouchesOnlyNeeded request before now =
    (name : List ℕ) → IsUntouched before now name ⊎ ((limit : ℕ) × IsNeeded request (WasFetched before now) name limit)
