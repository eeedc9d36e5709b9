-- What is written, and the number of workers.
use Rattle.std.specs.Prelude.{◌≡◌, ◌≢◌, ℕ, List}
use Rattle.std.specs.List.{AllByRecursion}
use Rattle.io_edge.specs.Shelf.{ShelfMeaning, Told, MayBe, TellsTheSame}
use Rattle.command_line.specs.declared.Question.{Question}
use Rattle.program_edge.specs.declared.status.Status.{Status}
use Rattle.program_edge.specs.declared.status.Status.TheVariants as status
use Rattle.program_edge.specs.Conclusions.{IsConclusion}
use Rattle.trsbatch.specs.ListText.{SaysNames}
use Rattle.trsbatch.specs.Words.{BatchAsked}
use Rattle.trsbatch.specs.Blocks.{PlainBlock, blocks_text}
use Rattle.trsbatch.specs.Output.{IsTextOf, AreBlocks}

-- the shelf tells what stands under a name
abbrev pub Tells : ShelfMeaning → List ℕ → Type 0
Tells shelf name = (text : List ℕ) × Told shelf name text

-- and under each name of the list
abbrev pub TellsNamed : ShelfMeaning → List ℕ → Type 0
TellsNamed shelf list =
    (text : List ℕ) (names : List (List ℕ)) → Told shelf list text → SaysNames text names → AllByRecursion (Tells shelf) names

-- one worker has at most one text for the question about a problem text
abbrev pub HasOneText : Question → ℕ → List ℕ → Type 0
HasOneText question budget problem =
    (s : Status) (text other : List ℕ) → IsConclusion problem question 1 budget s text → IsConclusion problem question 1 budget s other
    → text ≡ other

-- neither a fault nor want of memory
abbrev pub IsWell : PlainBlock → Type 0
IsWell b = (b.status ≢ status.ReadFault) × (b.status ≢ status.OutOfMemory)

-- the text of the blocks of a list, of which none tells of a fault or of want of memory
pub record IsWhole (asked : BatchAsked) (before now : ShelfMeaning) (text : List ℕ) : Type 0 where
  pub list : List ℕ
  pub names : List (List ℕ)
  pub blocks : List PlainBlock
  pub read : IsTextOf asked.list (MayBe before) list
  pub says : SaysNames list names
  pub are : AreBlocks asked before now names blocks
  pub well : AllByRecursion IsWell blocks
  pub is : text ≡ blocks_text blocks

-- two such texts over one shelf that tells what is needed are the same, whatever the numbers of workers, where one worker has one
-- text for each problem
abbrev pub WrittenTextsAreOne : Type 0
WrittenTextsAreOne =
    (asked : BatchAsked) (workers : ℕ) (before now again later : ShelfMeaning) (text other : List ℕ)
    → Tells before asked.list → TellsNamed before asked.list → TellsTheSame before again
    → ((problem : List ℕ) → HasOneText asked.question asked.budget problem)
    → IsWhole asked before now text → IsWhole (record asked { workers = workers }) again later other → text ≡ other
