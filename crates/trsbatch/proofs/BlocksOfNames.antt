-- Blocks of problems, and blocks of names.
use Rattle.std.proofs.Common.{◌≡◌, ◌≤◌, ◌<◌, ◌+◌, ◌⊎◌, inl, inr, ℕ, Bool, true, false, cond, ◌&&◌, List, [], ◌∷◌, ◌++◌, length, map, Vec, Result, Ok, Err, refl, sym, ap, subst, ◌∙◌, arith, Global, string_bytes}
use Rattle.std.specs.List.{AllZip}
use Rattle.std.specs.Str.{bytes_eq}
use denote.Ref.{Bor}
use Rattle.io_edge.specs.Edge.{RoseBy}
use Rattle.io_edge.specs.Shelf.{ShelfMeaning, MayBe}
use Rattle.io_edge.specs.declared.fault.FetchFault.{FetchFault}
use Rattle.io_edge.specs.declared.fault.FetchFault.TheVariants as fetch
use Rattle.command_line.specs.declared.Question.{Question}
use Rattle.program_edge.specs.declared.status.Status.{Status}
use Rattle.program_edge.specs.declared.status.Status.TheVariants as status
use Rattle.program_edge.specs.Lines.{too_long_line, read_fault_line}
use Rattle.program_edge.specs.Fetching.{most_problem_bytes, IsUnfetched}
use Rattle.program_edge.specs.Conclusions.{IsConclusion, no_system, concluded as with_answer}
use Rattle.trsbatch.specs.declared.problem.Problem.{Problem}
use Rattle.trsbatch.specs.declared.block.Block.{Block}
use Rattle.trsbatch.specs.Words.{BatchAsked}
use Rattle.program_edge.specs.Words.{texts}
use Rattle.trsbatch.specs.Output.{IsMissing, by_fault, by_length, IsAnswered, concluded, missing, memory, IsBlock, is_read_fault, read_faults, AreBlocks}
use Rattle.trsbatch.specs.Problems.{IsFetched, IsProblemOf, is_failed, failure, failed_under, AreFetched, IsAnswerTo, IsLost, IsBlockOf, AreBlocksOf, plain_block, plain_blocks}

-- ---- the block of a problem is the block of its name

module _ (question : Question) (budget : ℕ) (before now : ShelfMeaning) (name : List ℕ) where
  missing_as : (s z : Status) (answer line : List ℕ) → s ≡ z → answer ≡ line → IsMissing most_problem_bytes before now name z line
      → IsAnswered question budget before now name s answer
  missing_as s z answer line e is h = rw e (rw is (missing h))

  lost_for : (s : Status) (answer : List ℕ) → IsLost s answer → IsAnswered question budget before now name s answer
  lost_for s answer (e, none) = rw e (rw none memory)

  answered_for : (text : Result (Vec ℕ Global) FetchFault) (s : Status) (answer : List ℕ) → IsFetched before now name text
      → IsAnswerTo question budget name text s answer → IsAnswered question budget before now name s answer
  answered_for (Ok text) s answer (maybe, size) h = concluded text.items maybe size h
  answered_for (Err fetch.Failed) s answer rose (e, is) = missing_as s status.ReadFault answer (read_fault_line name) e is (by_fault rose)
  answered_for (Err fetch.TooLong) s answer (passes, read) (e, is) = missing_as s status.TooLong answer (too_long_line name) e is (by_length passes read)
  answered_for (Err fetch.OutOfMemory) s answer h a = absurd a

  block_for : (p : Problem) (b : Block) → IsProblemOf before now name p → IsBlockOf question budget p b → IsBlock question budget before now name (plain_block p b)
  block_for p b (named, fetched) (inl lost) = (named, lost_for b.status b.text.items lost)
  block_for p b (named, fetched) (inr answer) =
      (named, answered_for p.text b.status b.text.items fetched (subst (λ (z : List ℕ). IsAnswerTo question budget z p.text b.status b.text.items) named answer))

blocks_for : (question : Question) (budget : ℕ) (before now : ShelfMeaning) (names : List (Bor (List ℕ))) (problems : List Problem) (blocks : List Block)
    → AllZip (λ name p. IsProblemOf before now name.now p) names problems → AreBlocksOf question budget problems blocks
    → AllZip (IsBlock question budget before now) (texts names) (plain_blocks problems blocks)
blocks_for question budget before now [] [] [] h k = tt
blocks_for question budget before now [] [] (b ∷ bs) h k = absurd k
blocks_for question budget before now [] (p ∷ ps) bs h k = absurd h
blocks_for question budget before now (n ∷ ns) [] bs h k = absurd h
blocks_for question budget before now (n ∷ ns) (p ∷ ps) [] h k = absurd k
blocks_for question budget before now (n ∷ ns) (p ∷ ps) (b ∷ bs) (h, hs) (k, ks) =
    (block_for question budget before now n.now p b h k, blocks_for question budget before now ns ps bs hs ks)

-- ---- no more blocks tell of a fault than problems failed

concluded_well : (problem : List ℕ) (question : Question) (budget : ℕ) (s : Status) (text : List ℕ) → IsConclusion problem question 1 budget s text → is_read_fault s ≡ false
concluded_well problem question budget s text (no_system fault h m) = refl
concluded_well problem question budget s text (with_answer named says by) = refl

no_fault : (s : Status) (test : Bool) (n : ℕ) → is_read_fault s ≡ false → cond (is_read_fault s && test) 1 0 ≤ n
no_fault s test n e = rw e (omega arith)

told_fault : (question : Question) (budget : ℕ) (name : List ℕ) (text : Result (Vec ℕ Global) FetchFault) (s : Status) (answer : List ℕ) (test : Bool)
    → IsAnswerTo question budget name text s answer → cond (is_read_fault s && test) 1 0 ≤ cond (is_failed text && test) 1 0
told_fault question budget name (Ok text) s answer test h = no_fault s test (cond (is_failed (Ok text) && test) 1 0) (concluded_well text.items question budget s answer h)
told_fault question budget name (Err fetch.Failed) s answer test (e, is) = rw e (omega arith)
told_fault question budget name (Err fetch.TooLong) s answer test (e, is) = rw e (omega arith)
told_fault question budget name (Err fetch.OutOfMemory) s answer test h = absurd h

one_fault : (question : Question) (budget : ℕ) (q : List ℕ) (p : Problem) (b : Block) → IsBlockOf question budget p b
    → cond (is_read_fault b.status && bytes_eq (string_bytes p.name) q) 1 0 ≤ failure q p
one_fault question budget q p b (inl (e, none)) = no_fault b.status (bytes_eq (string_bytes p.name) q) (failure q p) (ap is_read_fault e)
one_fault question budget q p b (inr answer) = told_fault question budget (string_bytes p.name) p.text b.status b.text.items (bytes_eq (string_bytes p.name) q) answer

few_faults : (question : Question) (budget : ℕ) (q : List ℕ) (problems : List Problem) (blocks : List Block) → AreBlocksOf question budget problems blocks
    → read_faults q (plain_blocks problems blocks) ≤ failed_under q problems
few_faults question budget q [] [] h = omega arith
few_faults question budget q [] (b ∷ bs) h = absurd h
few_faults question budget q (p ∷ ps) [] h = absurd h
few_faults question budget q (p ∷ ps) (b ∷ bs) (h, hs) =
    omega (arith, one_fault question budget q p b h, few_faults question budget q ps bs hs)

fewer_rose : (m n a b : ℕ) → m ≤ n → RoseBy n a b → RoseBy m a b
fewer_rose m n a b h k = omega arith

-- the blocks of the problems that were fetched under names are the blocks of the names
pub blocks_of_names : (asked : BatchAsked) (before now : ShelfMeaning) (names : List (Bor (List ℕ))) (problems : List Problem) (blocks : List Block)
    → AreFetched before now names problems → AreBlocksOf asked.question asked.budget problems blocks
    → AreBlocks asked before now (texts names) (plain_blocks problems blocks)
blocks_of_names asked before now names problems blocks fetched done = record {
  each = blocks_for asked.question asked.budget before now names problems blocks fetched.each done;
  faults = λ q. fewer_rose (read_faults q (plain_blocks problems blocks)) (failed_under q problems) (before.faults q) (now.faults q)
      (few_faults asked.question asked.budget q problems blocks done) (fetched.counted q);
}
