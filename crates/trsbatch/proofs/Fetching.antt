-- Problems that are fetched one after the other.
use Rattle.std.proofs.Common.{◌≡◌, ◌≢◌, ◌≤◌, ◌<◌, ◌+◌, ◌⊎◌, inl, inr, ℕ, true, false, cond, ◌&&◌, List, [], ◌∷◌, ◌++◌, length, Vec, Result, Ok, Err, refl, sym, subst, ◌∙◌, arith, Global, Contains, string_bytes, take, get_or}
use Rattle.std.specs.List.{AllZip, All}
use Rattle.std.specs.Str.{bytes_eq}
use Rattle.std.proofs.lemmas.Slice.Eq.{bytes_eq-Decides}
use Rattle.std.proofs.lemmas.Bool.{cases_Bool}
use Rattle.std.proofs.lemmas.List.{take_more, length-map, get_or-map}
use Rattle.std.proofs.lemmas.List.Elements.{All-from_recursion}
use Rattle.std.specs.List.{AllByRecursion as ByRecursion}
use denote.Ref.{Bor}
use Rattle.io_edge.specs.Edge.{RoseBy, next_count}
use Rattle.io_edge.specs.Telling.{CanBe, CanPass}
use Rattle.io_edge.specs.Shelf.{ShelfMeaning, MayBe, MayPass, CanAskAgain, CountsFault, IsUntouched}
use Rattle.io_edge.specs.declared.fault.FetchFault.{FetchFault}
use Rattle.io_edge.specs.declared.fault.FetchFault.TheVariants as fetch
use Rattle.io_edge.proofs.AskingAgain.{once_again}
use Rattle.io_edge.proofs.Counting.{same_or_not}
use Rattle.program_edge.specs.Fetching.{most_problem_bytes}
use Rattle.trsbatch.specs.declared.problem.Problem.{Problem}
use Rattle.trsbatch.proofs.Zipping.{zip_push}
use Rattle.program_edge.specs.Words.{texts}
use Rattle.trsbatch.specs.Problems.{IsAskedFor, Fetches, TouchesOnly, IsFetched, IsProblemOf, is_failed, failure, failed_under, AreFetched, FitsLimit, IsWithinLimit}

-- ---- what is said of a shelf is true of it before, where it tells the same and no count fell since

module _ (before middle : ShelfMeaning) (again : CanAskAgain before middle) where
  pub may_be_before : (name text : List ℕ) → MayBe middle name text → MayBe before name text
  may_be_before name text h = subst (λ o. CanBe o text) (again.told name) h

  pub may_pass_before : (limit : ℕ) (name : List ℕ) → MayPass limit middle name → MayPass limit before name
  may_pass_before limit name h = subst (CanPass limit) (again.told name) h

  fetched_before : (now : ShelfMeaning) (name : List ℕ) (text : Result (Vec ℕ Global) FetchFault) → IsFetched middle now name text → IsFetched before now name text
  fetched_before now name (Ok text) (maybe, size) = (may_be_before name text.items maybe, size)
  fetched_before now name (Err fetch.Failed) rose = omega (arith, again.counts.faults name, rose)
  fetched_before now name (Err fetch.TooLong) (passes, read) = (may_pass_before most_problem_bytes name passes, omega (arith, again.counts.bytes name, read))
  fetched_before now name (Err fetch.OutOfMemory) h = tt

  each_before : (now : ShelfMeaning) (names : List (Bor (List ℕ))) (problems : List Problem) → AllZip (λ name p. IsProblemOf middle now name.now p) names problems
      → AllZip (λ name p. IsProblemOf before now name.now p) names problems
  each_before now [] [] h = tt
  each_before now [] (p ∷ ps) h = absurd h
  each_before now (n ∷ ns) [] h = absurd h
  each_before now (n ∷ ns) (p ∷ ps) ((is, h), hs) = ((is, fetched_before now n.now p.text h), each_before now ns ps hs)

  pub problems_before : (now : ShelfMeaning) (names : List (Bor (List ℕ))) (problems : List Problem) → AreFetched middle now names problems
      → AreFetched before now names problems
  problems_before now names problems h = record {
    each = each_before now names problems h.each;
    counted = λ q. omega (arith, again.counts.faults q, h.counted q);
  }

-- ---- one name is asked for

contains_text : (names : List (Bor (List ℕ))) (i : ℕ) (d : Bor (List ℕ)) → i < length names → Contains (texts names) (get_or names i d).now
contains_text names i d within = (
  i,
  subst (λ n. i < n) (sym (length-map names (λ (w : Bor (List ℕ)). w.now))) within,
  get_or-map (λ (w : Bor (List ℕ)). w.now) names i d (get_or names i d).now within,
)

pub touches_none : (names : List (List ℕ)) (shelf : ShelfMeaning) → TouchesOnly names shelf shelf
touches_none names shelf = λ q. inl (refl, refl)

pub untouched_twice : (before middle now : ShelfMeaning) (q : List ℕ) → IsUntouched before middle q → IsUntouched middle now q → IsUntouched before now q
untouched_twice before middle now q (f, b) (g, c) = (g ∙ f, c ∙ b)

pub one_touched : (names : List (List ℕ)) (before middle now : ShelfMeaning) (name : List ℕ) → TouchesOnly names before middle → IsAskedFor middle now name
    → Contains names name → TouchesOnly names before now
one_touched names before middle now name so_far asked within = λ q. go q (same_or_not q name) (so_far q)
  where
    go : (q : List ℕ) → (q ≡ name) ⊎ (q ≢ name) → IsUntouched before middle q ⊎ Contains names q → IsUntouched before now q ⊎ Contains names q
    go q (inl e) h = inr (subst (λ (z : List ℕ). Contains names z) (sym e) within)
    go q (inr ne) (inl h) = inl (untouched_twice before middle now q h (asked.faults.others q ne, asked.read.others q ne))
    go q (inr ne) (inr h) = inr h

-- a name of the list is asked for
pub one_touched_at : (names : List (Bor (List ℕ))) (i : ℕ) (before middle now : ShelfMeaning) (d : Bor (List ℕ)) → i < length names
    → TouchesOnly (texts names) before middle → IsAskedFor middle now (get_or names i d).now → TouchesOnly (texts names) before now
one_touched_at names i before middle now d within so_far asked =
    one_touched (texts names) before middle now (get_or names i d).now so_far asked (contains_text names i d within)

-- ---- one more problem

fetched_later : (before middle now : ShelfMeaning) (name : List ℕ) (text : Result (Vec ℕ Global) FetchFault) → CanAskAgain middle now
    → IsFetched before middle name text → IsFetched before now name text
fetched_later before middle now name (Ok text) later h = h
fetched_later before middle now name (Err fetch.Failed) later h = omega (arith, later.counts.faults name, h)
fetched_later before middle now name (Err fetch.TooLong) later (passes, read) = (passes, omega (arith, later.counts.bytes name, read))
fetched_later before middle now name (Err fetch.OutOfMemory) later h = tt

fetched_now : (middle now : ShelfMeaning) (name : List ℕ) (text : Result (Vec ℕ Global) FetchFault) → Fetches middle now name text → IsFetched middle now name text
fetched_now middle now name (Ok text) h = (h.whole, h.bound)
fetched_now middle now name (Err fetch.Failed) h = let now_is : now.faults name ≡ next_count (middle.faults name) = h.counted in omega (arith, now_is)
fetched_now middle now name (Err fetch.TooLong) h = (h.too_long refl, h.long refl)
fetched_now middle now name (Err fetch.OutOfMemory) h = tt

-- a failure under a name is counted
counted_one : (text : Result (Vec ℕ Global) FetchFault) (name q : List ℕ) (n b : ℕ) (middle now : List ℕ → ℕ) → RoseBy n b (middle q) → middle q ≤ now q
    → CountsFault text middle now name → RoseBy (n + cond (is_failed text && bytes_eq name q) 1 0) b (now q)
counted_one (Ok text) name q n b middle now rose later counted = omega (arith, rose, later)
counted_one (Err fetch.TooLong) name q n b middle now rose later counted = omega (arith, rose, later)
counted_one (Err fetch.OutOfMemory) name q n b middle now rose later counted = omega (arith, rose, later)
counted_one (Err fetch.Failed) name q n b middle now rose later counted = go (cases_Bool (bytes_eq name q))
  where
    go : (bytes_eq name q ≡ true) ⊎ (bytes_eq name q ≡ false) → RoseBy (n + cond (bytes_eq name q) 1 0) b (now q)
    go (inl e) =
        let same : name ≡ q = (bytes_eq-Decides name q).0 e in
        let now_is : now q ≡ next_count (middle q) = subst (λ (z : List ℕ). now z ≡ next_count (middle z)) same counted in
        rw e (omega (arith, rose, now_is))
    go (inr e) = rw e (omega (arith, rose, later))

each_later : (before middle now : ShelfMeaning) (names : List (Bor (List ℕ))) (problems : List Problem) → CanAskAgain middle now
    → AllZip (λ name p. IsProblemOf before middle name.now p) names problems → AllZip (λ name p. IsProblemOf before now name.now p) names problems
each_later before middle now [] [] later h = tt
each_later before middle now [] (p ∷ ps) later h = absurd h
each_later before middle now (n ∷ ns) [] later h = absurd h
each_later before middle now (n ∷ ns) (p ∷ ps) later ((is, h), hs) = ((is, fetched_later before middle now n.now p.text later h), each_later before middle now ns ps later hs)

failed_after : (q : List ℕ) (problems : List Problem) (p : Problem) → failed_under q (problems ++ p ∷ []) ≡ failed_under q problems + failure q p
failed_after q [] p = omega arith
failed_after q (r ∷ rs) p = omega (arith, failed_after q rs p)

pub none_fetched : (shelf : ShelfMeaning) → AreFetched shelf shelf [] []
none_fetched shelf = record { each = tt; counted = λ q. omega arith }

pub one_fetched : (before middle now : ShelfMeaning) (names : List (Bor (List ℕ))) (problems : List Problem) (name : Bor (List ℕ)) (p : Problem)
    → CanAskAgain before middle → AreFetched before middle names problems → string_bytes p.name ≡ name.now → IsAskedFor middle now name.now
    → Fetches middle now name.now p.text → AreFetched before now (names ++ name ∷ []) (problems ++ p ∷ [])
one_fetched before middle now names problems name p again so_far is asked h =
    let later = once_again middle now name.now asked.told asked.faults asked.read in
    record {
      each = zip_push (λ n r. IsProblemOf before now n.now r) names problems name p (each_later before middle now names problems later so_far.each)
          (is, fetched_before before middle again now name.now p.text (fetched_now middle now name.now p.text h));
      counted = λ q.
          subst (λ n. RoseBy n (before.faults q) (now.faults q)) (sym (failed_after q problems p))
          (subst (λ (z : List ℕ). RoseBy (failed_under q problems + cond (is_failed p.text && bytes_eq z q) 1 0) (before.faults q) (now.faults q)) (sym is)
          (counted_one p.text name.now q (failed_under q problems) (before.faults q) middle.faults now.faults (so_far.counted q) (later.counts.faults q) h.counted));
    }

pub one_more_fetched : (before middle now : ShelfMeaning) (names : List (Bor (List ℕ))) (problems : List Problem) (i : ℕ) (d : Bor (List ℕ)) (p : Problem)
    → i < length names → CanAskAgain before middle → AreFetched before middle (take i names) problems → string_bytes p.name ≡ (get_or names i d).now
    → IsAskedFor middle now (get_or names i d).now → Fetches middle now (get_or names i d).now p.text
    → AreFetched before now (take (i + 1) names) (problems ++ p ∷ [])
one_more_fetched before middle now names problems i d p within again so_far is asked h =
    subst (λ ns. AreFetched before now ns (problems ++ p ∷ [])) (sym (take_more names i d within))
    (one_fetched before middle now (take i names) problems (get_or names i d) p again so_far is asked h)

-- ---- the texts that were fetched are within their limit

fits : (before now : ShelfMeaning) (name : List ℕ) (text : Result (Vec ℕ Global) FetchFault) → IsFetched before now name text → FitsLimit text
fits before now name (Ok text) (maybe, size) = size
fits before now name (Err fault) h = tt

all_fit : (before now : ShelfMeaning) (names : List (Bor (List ℕ))) (problems : List Problem) → AllZip (λ name p. IsProblemOf before now name.now p) names problems
    → ByRecursion IsWithinLimit problems
all_fit before now [] [] h = tt
all_fit before now [] (p ∷ ps) h = absurd h
all_fit before now (n ∷ ns) [] h = absurd h
all_fit before now (n ∷ ns) (p ∷ ps) ((is, h), hs) = (fits before now n.now p.text h, all_fit before now ns ps hs)

pub all_within : (before now : ShelfMeaning) (names : List (Bor (List ℕ))) (problems : List Problem) → AreFetched before now names problems → All IsWithinLimit problems
all_within before now names problems h = All-from_recursion IsWithinLimit problems (all_fit before now names problems h.each)
