-- The problems of a list, as they are fetched one after the other, and what is answered for each.
use Rattle.std.specs.Prelude.{◌≡◌, ◌≤◌, ◌⊎◌, ◌+◌, ℕ, Bool, true, false, ◌&&◌, cond, List, [], ◌∷◌, length, Vec, Result, Ok, Err, IfOk, IsErrOf, String, string_bytes, Contains}
use Rattle.std.specs.declared.alloc.Global.{Global}
use Rattle.std.specs.List.{AllZip}
use Rattle.std.specs.Str.{bytes_eq}
use denote.Ref.{Bor}
use Rattle.io_edge.specs.Edge.{RoseBy}
use Rattle.io_edge.specs.Shelf.{ShelfMeaning, MayBe, MayPass, TellsTheSame, CountsRise, CountsFault, FaultRose, ReadPast, IsUntouched}
use Rattle.io_edge.specs.declared.fault.FetchFault.{FetchFault}
use Rattle.io_edge.specs.declared.fault.FetchFault.TheVariants as fetch
use Rattle.io_edge.specs.declared.fault.FetchFault.TheVariants.{TooLong}
use Rattle.command_line.specs.declared.Question.{Question}
use Rattle.program_edge.specs.declared.status.Status.{Status}
use Rattle.program_edge.specs.declared.status.Status.TheVariants as status
use Rattle.program_edge.specs.Fetching.{most_problem_bytes, IsUnfetched}
use Rattle.program_edge.specs.Conclusions.{IsConclusion}
use Rattle.trsbatch.specs.declared.problem.Problem.{Problem}
use Rattle.trsbatch.specs.declared.block.Block.{Block}
use Rattle.trsbatch.specs.Blocks.{PlainBlock}

-- ---- fetching

-- what a shelf does when it is asked for the text under a name
pub record IsAskedFor (before now : ShelfMeaning) (name : List ℕ) : Type 0 where
  pub told : TellsTheSame before now
  pub faults : CountsRise before.faults now.faults name
  pub read : CountsRise before.bytes now.bytes name

-- what is known of the answer
pub record Fetches (before now : ShelfMeaning) (name : List ℕ) (text : Result (Vec ℕ Global) FetchFault) : Type 0 where
  pub whole : IfOk text (λ v. MayBe before name v.items)
  pub bound : IfOk text (λ v. length v.items ≤ most_problem_bytes)
  pub too_long : IsErrOf text TooLong → MayPass most_problem_bytes before name
  pub counted : CountsFault text before.faults now.faults name
  pub long : IsErrOf text TooLong → ReadPast most_problem_bytes before now name

-- nothing was counted under other names
abbrev pub TouchesOnly : List (List ℕ) → ShelfMeaning → ShelfMeaning → Type 0
TouchesOnly names before now = (q : List ℕ) → IsUntouched before now q ⊎ Contains names q

-- what was fetched under a name: a text that may stand there, or the cause why there is none
abbrev pub IsFetched : ShelfMeaning → ShelfMeaning → List ℕ → Result (Vec ℕ Global) FetchFault → Type 0
IsFetched before now name (Ok text) = MayBe before name text.items × (length text.items ≤ most_problem_bytes)
IsFetched before now name (Err fetch.Failed) = FaultRose before now name
IsFetched before now name (Err fetch.TooLong) = MayPass most_problem_bytes before name × ReadPast most_problem_bytes before now name
IsFetched before now name (Err fetch.OutOfMemory) = Unit {0}

-- the problem of a name
abbrev pub IsProblemOf : ShelfMeaning → ShelfMeaning → List ℕ → Problem → Type 0
IsProblemOf before now name p = (string_bytes p.name ≡ name) × IsFetched before now name p.text

abbrev pub is_failed : Result (Vec ℕ Global) FetchFault → Bool
is_failed (Ok text) = false
is_failed (Err fetch.Failed) = true
is_failed (Err fetch.TooLong) = false
is_failed (Err fetch.OutOfMemory) = false

-- one, if the problem failed under a name
abbrev pub failure : List ℕ → Problem → ℕ
failure name p = cond (is_failed p.text && bytes_eq (string_bytes p.name) name) 1 0

-- how many of the problems failed under a name
abbrev pub failed_under : List ℕ → List Problem → ℕ
failed_under name [] = 0
failed_under name (p ∷ ps) = failure name p + failed_under name ps

-- the problems of names; no more of them failed under a name than faults came there
pub record AreFetched (before now : ShelfMeaning) (names : List (Bor (List ℕ))) (problems : List Problem) : Type 0 where
  pub each : AllZip (λ name p. IsProblemOf before now name.now p) names problems
  pub counted : (q : List ℕ) → RoseBy (failed_under q problems) (before.faults q) (now.faults q)

-- ---- answering

-- the text of a problem is within its limit, where it was fetched
abbrev pub FitsLimit : Result (Vec ℕ Global) FetchFault → Type 0
FitsLimit (Ok text) = length text.items ≤ most_problem_bytes
FitsLimit (Err fault) = Unit {0}

abbrev pub IsWithinLimit : Problem → Type 0
IsWithinLimit p = FitsLimit p.text

-- the answer for what was fetched under a name
abbrev pub IsAnswerTo : Question → ℕ → List ℕ → Result (Vec ℕ Global) FetchFault → Status → List ℕ → Type 0
IsAnswerTo question budget name (Ok text) s answer = IsConclusion text.items question 1 budget s answer
IsAnswerTo question budget name (Err fault) s answer = IsUnfetched fault name s answer

-- memory was wanting: there is no text
abbrev pub IsLost : Status → List ℕ → Type 0
IsLost s answer = (s ≡ status.OutOfMemory) × (answer ≡ [])

-- the block of a problem
abbrev pub IsBlockOf : Question → ℕ → Problem → Block → Type 0
IsBlockOf question budget p b =
    IsLost b.status b.text.items ⊎ IsAnswerTo question budget (string_bytes p.name) p.text b.status b.text.items

-- a block for each problem, in order
abbrev pub AreBlocksOf : Question → ℕ → List Problem → List Block → Type 0
AreBlocksOf question budget problems blocks = AllZip (IsBlockOf question budget) problems blocks

-- the blocks with the names of their problems
abbrev pub plain_block : Problem → Block → PlainBlock
plain_block p b = record { name = string_bytes p.name; status = b.status; text = b.text.items }

abbrev pub plain_blocks : List Problem → List Block → List PlainBlock
plain_blocks (p ∷ ps) (b ∷ bs) = plain_block p b ∷ plain_blocks ps bs
plain_blocks [] bs = []
plain_blocks (p ∷ ps) [] = []
