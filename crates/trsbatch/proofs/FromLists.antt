-- What the program answers, by what its list comes to.
use Rattle.std.proofs.Common.{◌≡◌, ◌≢◌, ◌≤◌, ◌⊎◌, inl, inr, ℕ, List, Option, Some, Result, Ok, Err, IfOk, IsErrOf, length, refl, sym, subst, ◌∙◌, arith, Contains, Vec, Global}
use Rattle.std.specs.List.{All}
use denote.Ref.{Bor}
use Rattle.io_edge.specs.Shelf.{ShelfMeaning, MayBe, MayPass, CanAskAgain, CountsRise, CountsFault, FaultRose, ReadPast, IsUntouched}
use Rattle.io_edge.specs.Edge.{next_count}
use Rattle.io_edge.specs.declared.fault.FetchFault.{FetchFault}
use Rattle.io_edge.specs.declared.fault.FetchFault.TheVariants as fetch
use Rattle.io_edge.proofs.Counting.{same_or_not}
use Rattle.program_edge.specs.declared.status.Status.{Status}
use Rattle.program_edge.specs.declared.status.Status.TheVariants as status
use Rattle.program_edge.specs.Fetching.{IsUnfetched, unfetched_status, unfetched_line}
use Rattle.program_edge.specs.declared.fetching.Unfetched.{Unfetched}
use Rattle.trsbatch.specs.ListText.{SaysNames}
use Rattle.trsbatch.specs.Words.{BatchAsked}
use Rattle.trsbatch.specs.Blocks.{blocks_text}
use Rattle.trsbatch.specs.Lines.{list_refused_line}
use Rattle.program_edge.specs.Words.{texts}
use Rattle.trsbatch.specs.Output.{most_list_bytes, IsMissing, by_fault, by_length, IsTextOf, IsAnswer, no_list, refused, answered, TouchesOnlyNeeded, IsNeeded, as_list, as_problem}
use Rattle.trsbatch.specs.Problems.{AreFetched, TouchesOnly, AreBlocksOf, plain_blocks, IsWithinLimit}
use Rattle.trsbatch.specs.Answers.{IsListed, IsReadList, TouchesOnlyRead, TouchesOnlyListed}
use Rattle.trsbatch.specs.declared.listed.Listed.{Listed}
use Rattle.trsbatch.specs.declared.listed.Listed.TheVariants as listed
use Rattle.trsbatch.specs.declared.problem.Problem.{Problem}
use Rattle.trsbatch.specs.declared.block.Block.{Block}
use Rattle.trsbatch.proofs.Fetching.{problems_before, untouched_twice, all_within}
use Rattle.trsbatch.proofs.BlocksOfNames.{blocks_of_names}

-- ---- the list

-- the line where there is no list
pub missing_list : (X : Type 0) (fault : FetchFault) (before now : ShelfMeaning) (list : List ℕ) (s : Status) (line : List ℕ) → IsUnfetched fault list s line
    → CountsFault {X = X} (Err fault) before.faults now.faults list → (IsErrOf {T = X} (Err fault) fetch.TooLong → MayPass most_list_bytes before list)
    → (IsErrOf {T = X} (Err fault) fetch.TooLong → ReadPast most_list_bytes before now list) → IsMissing most_list_bytes before now list s line
missing_list X fetch.Failed before now list s line (e, is) counted passes read =
    let now_is : now.faults list ≡ next_count (before.faults list) = counted in
    let rose : FaultRose before now list = omega (arith, now_is) in
    subst (λ z. IsMissing most_list_bytes before now list z line) (sym e) (subst (λ (z : List ℕ). IsMissing most_list_bytes before now list status.ReadFault z) (sym is) (by_fault rose))
missing_list X fetch.TooLong before now list s line (e, is) counted passes read =
    subst (λ z. IsMissing most_list_bytes before now list z line) (sym e)
    (subst (λ (z : List ℕ). IsMissing most_list_bytes before now list status.TooLong z) (sym is) (by_length (passes refl) (read refl)))
missing_list X fetch.OutOfMemory before now list s line h counted passes read = absurd h

-- what was read of a text that may be the list's
read_as_listed : (list text : List ℕ) (before middle now : ShelfMeaning) (l : Listed) → CanAskAgain before middle → MayBe before list text
    → length text ≤ most_list_bytes → IsReadList text middle now l → IsListed list before now l
read_as_listed list text before middle now (listed.Problems ps) again maybe size (names, says, fetched) =
    (text, names, (maybe, size), says, problems_before before middle again now names ps.items fetched)
read_as_listed list text before middle now (listed.Refused line) again maybe size h = (text, (maybe, size), h)
read_as_listed list text before middle now (listed.Missing u) again maybe size h = absurd h

pub read_ok : {E : Type 0} (list items text : List ℕ) (before middle now : ShelfMeaning) (r : Result Listed E) → CanAskAgain before middle → MayBe before list items
    → length items ≤ most_list_bytes → text ≡ items → IfOk r (λ l. IsReadList text middle now l) → IfOk r (λ l. IsListed list before now l)
read_ok list items text before middle now (Ok l) again maybe size is h =
    read_as_listed list items before middle now l again maybe size (subst (λ (z : List ℕ). IsReadList z middle now l) is h)
read_ok list items text before middle now (Err e) again maybe size is h = tt

-- ---- what is touched

pub touched_read : (text : List ℕ) (names : List (List ℕ)) (before now : ShelfMeaning) → SaysNames text names → TouchesOnly names before now
    → TouchesOnlyRead text before now
touched_read text names before now says h = λ q. go q (h q)
  where
    go : (q : List ℕ) → IsUntouched before now q ⊎ Contains names q → IsUntouched before now q ⊎ ((ns : List (List ℕ)) × SaysNames text ns × Contains ns q)
    go q (inl u) = inl u
    go q (inr c) = inr (names, says, c)

pub touched_list : (list : List ℕ) (before now : ShelfMeaning) → CountsRise before.faults now.faults list → CountsRise before.bytes now.bytes list
    → TouchesOnlyListed list before now
touched_list list before now faults read = λ q. go q (same_or_not q list)
  where
    go : (q : List ℕ) → (q ≡ list) ⊎ (q ≢ list) → IsUntouched before now q ⊎ IsNeeded list before q
    go q (inl e) = inr (subst (λ (z : List ℕ). IsNeeded list before z) (sym e) as_list)
    go q (inr ne) = inl (faults.others q ne, read.others q ne)

pub touched_both : (list items text : List ℕ) (before middle now : ShelfMeaning) → CountsRise before.faults middle.faults list → CountsRise before.bytes middle.bytes list
    → MayBe before list items → length items ≤ most_list_bytes → text ≡ items → TouchesOnlyRead text middle now → TouchesOnlyListed list before now
touched_both list items text before middle now faults read maybe size is h = λ q. go q (same_or_not q list) (subst (λ (z : List ℕ). TouchesOnlyRead z middle now) is h q)
  where
    go : (q : List ℕ) → (q ≡ list) ⊎ (q ≢ list) → IsUntouched middle now q ⊎ ((ns : List (List ℕ)) × SaysNames items ns × Contains ns q)
        → IsUntouched before now q ⊎ IsNeeded list before q
    go q (inl e) k = inr (subst (λ (z : List ℕ). IsNeeded list before z) (sym e) as_list)
    go q (inr ne) (inl u) = inl (untouched_twice before middle now q (faults.others q ne, read.others q ne) u)
    go q (inr ne) (inr (ns, says, c)) = inr (as_problem items ns (maybe, size) says c)

pub touched_asked : (asked : BatchAsked) (before now : ShelfMeaning) → TouchesOnlyListed asked.list before now → TouchesOnlyNeeded (Some asked) before now
touched_asked asked before now h = λ q. go q (h q)
  where
    go : (q : List ℕ) → IsUntouched before now q ⊎ IsNeeded asked.list before q
        → IsUntouched before now q ⊎ ((a : BatchAsked) × (Some asked ≡ Some a) × IsNeeded a.list before q)
    go q (inl u) = inl u
    go q (inr n) = inr (asked, refl, n)

pub touched_nothing : (request : Option BatchAsked) (shelf : ShelfMeaning) → TouchesOnlyNeeded request shelf shelf
touched_nothing request shelf = λ q. inl (refl, refl)

-- ---- the answer

-- the problems that are answered are those of the list
the_problems : (list : List ℕ) (before now : ShelfMeaning) (l : Listed) (ps : Vec Problem Global) (shown : List Problem) → IsListed list before now l
    → l ≡ listed.Problems ps → shown ≡ ps.items
    → (text : List ℕ) × (names : List (Bor (List ℕ))) × IsTextOf list (MayBe before) text × SaysNames text (texts names) × AreFetched before now names shown
the_problems list before now l ps shown h e is =
    let (text, names, of_list, says, fetched) = subst (IsListed list before now) e h in
    (text, names, of_list, says, subst (AreFetched before now names) (sym is) fetched)

pub listed_within : (list : List ℕ) (before now : ShelfMeaning) (l : Listed) (ps : Vec Problem Global) (shown : List Problem) → IsListed list before now l
    → l ≡ listed.Problems ps → shown ≡ ps.items → All IsWithinLimit shown
listed_within list before now l ps shown h e is =
    let (text, names, of_list, says, fetched) = the_problems list before now l ps shown h e is in all_within before now names shown fetched

pub blocks_answer : (asked : BatchAsked) (before now : ShelfMeaning) (l : Listed) (ps : Vec Problem Global) (answered_for shown : List Problem)
    (blocks shown_blocks : List Block) (text : List ℕ) → IsListed asked.list before now l → l ≡ listed.Problems ps → answered_for ≡ ps.items → shown ≡ ps.items
    → shown_blocks ≡ blocks → AreBlocksOf asked.question asked.budget answered_for blocks → text ≡ blocks_text (plain_blocks shown shown_blocks)
    → IsAnswer (Some asked) before now status.Answered text
blocks_answer asked before now l ps answered_for shown blocks shown_blocks text h e for_is is blocks_are done written =
    let (list, names, of_list, says, fetched) = the_problems asked.list before now l ps shown h e is in
    let same : answered_for ≡ shown = for_is ∙ sym is in
    let done_too : AreBlocksOf asked.question asked.budget shown shown_blocks =
    subst (AreBlocksOf asked.question asked.budget shown) (sym blocks_are) (subst (λ z. AreBlocksOf asked.question asked.budget z blocks) same done) in
    subst (IsAnswer (Some asked) before now status.Answered) (sym written)
    (answered asked list (texts names) (plain_blocks shown shown_blocks) refl of_list says (blocks_of_names asked before now names shown shown_blocks fetched done_too))

pub refused_answer : (asked : BatchAsked) (before now : ShelfMeaning) (line : ℕ) → IsListed asked.list before now (listed.Refused line)
    → IsAnswer (Some asked) before now status.Refused (list_refused_line line)
refused_answer asked before now line (list, of_list, h) = refused asked list line refl of_list h

pub missing_answer : (asked : BatchAsked) (before now : ShelfMeaning) (u : Unfetched) → IsListed asked.list before now (listed.Missing u)
    → IsAnswer (Some asked) before now (unfetched_status u) (unfetched_line u)
missing_answer asked before now u h = no_list asked refl h
