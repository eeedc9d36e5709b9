-- What is known of a shelf after texts were fetched.
use Rattle.std.proofs.Common.{◌≡◌, ◌≢◌, ◌≤◌, ◌⊎◌, inl, inr, ℕ, List, length, Option, Some, Err, refl, sym, subst, ◌∙◌, arith}
use Rattle.io_edge.specs.Edge.{Rose, RoseBy}
use Rattle.io_edge.specs.Telling.{CanBe, CanPass}
use Rattle.io_edge.specs.Shelf.{ShelfMeaning, MayBe, MayPass, TellsTheSame, CountsRise, CountsFault, FaultRose, ReadPast, IsUntouched}
use Rattle.io_edge.specs.declared.fault.FetchFault.{FetchFault}
use Rattle.io_edge.specs.declared.fault.FetchFault.TheVariants as fetch
use Rattle.io_edge.proofs.Counting.{same_or_not}
use Rattle.program_edge.specs.names_text.Named.{NamedSystem}
use Rattle.program_edge.specs.conclusion.cert_text.ProofText.{ProofText}
use Rattle.command_line.specs.Request.{Asked, certifies}
use Rattle.command_line.specs.declared.Wanted.{Wanted}
use Rattle.program_edge.specs.declared.status.Status.{Status}
use Rattle.trsprove.specs.Output.{AreFetched, Output, decided, IsNeeded, as_problem, as_certificate, WasFetched, IsAnswer, TouchesOnlyNeeded}
use Rattle.program_edge.specs.Fetching.{most_problem_bytes, IsUnfetched}
use Rattle.trsprove.specs.Verdicts.{most_certificate_bytes, IsWritten, with_claim, in_version_two, too_heavy, Verdict, refused, rejected, accepted}

-- a failure that is counted is a fault that came, also since an earlier time
pub fault_came : (X : Type 0) (fault : FetchFault) (before middle now : List ℕ → ℕ) (name : List ℕ) → before name ≤ middle name
    → CountsFault {X = X} (Err fault) middle now name → fault ≡ fetch.Failed → Rose (before name) (now name)
fault_came X fetch.Failed before middle now name l h e = omega (arith, h)
fault_came X fetch.TooLong before middle now name l h e = absurd cc
fault_came X fetch.OutOfMemory before middle now name l h e = absurd cc

-- a text that is too long is no fault
pub not_counted : (X : Type 0) (fault : FetchFault) (middle now : List ℕ → ℕ) (name : List ℕ) → CountsFault {X = X} (Err fault) middle now name
    → fault ≡ fetch.TooLong → (q : List ℕ) → now q ≡ middle q
not_counted X fetch.TooLong middle now name h e = h
not_counted X fetch.Failed middle now name h e = absurd cc
not_counted X fetch.OutOfMemory middle now name h e = absurd cc

pub rose_by_later : (n a b c : ℕ) → a ≤ b → RoseBy n b c → RoseBy n a c
rose_by_later n a b c h k = omega arith

-- what may stand on a shelf stood there before, where it tells the same
pub may_be_before : (before middle : ShelfMeaning) (name text : List ℕ) → TellsTheSame before middle → MayBe middle name text → MayBe before name text
may_be_before before middle name text same h = subst (λ o. CanBe o text) (same name) h

pub may_pass_before : (limit : ℕ) (before middle : ShelfMeaning) (name : List ℕ) → TellsTheSame before middle → MayPass limit middle name → MayPass limit before name
may_pass_before limit before middle name same h = subst (CanPass limit) (same name) h

-- a fault came under a name that is needed
abbrev pub IsFault : Option Asked → ShelfMeaning → ShelfMeaning → List ℕ → Type 0
IsFault request before now name = (limit : ℕ) × IsNeeded request (WasFetched before now) name limit × FaultRose before now name

-- a text that is needed is too long
abbrev pub IsLong : Option Asked → ShelfMeaning → ShelfMeaning → List ℕ → Type 0
IsLong request before now name =
    (limit : ℕ) × IsNeeded request (WasFetched before now) name limit × MayPass limit before name × ReadPast limit before now name

-- the line where the text under a name could not be fetched
pub unfetched_line : (request : Option Asked) (before now : ShelfMeaning) (name : List ℕ) (fault : FetchFault) (s : Status) (text : List ℕ)
    → IsUnfetched fault name s text → (fault ≡ fetch.Failed → IsFault request before now name) → (fault ≡ fetch.TooLong → IsLong request before now name)
    → IsAnswer request before now s text
unfetched_line request before now name fetch.TooLong s text (e, is) came long =
    let (limit, needed, passes, read) = long refl in subst (λ z. IsAnswer request before now z text) (sym e) (name, limit, needed, passes, read, is)
unfetched_line request before now name fetch.Failed s text (e, is) came long =
    let (limit, needed, rose) = came refl in subst (λ z. IsAnswer request before now z text) (sym e) (name, limit, needed, rose, is)
unfetched_line request before now name fetch.OutOfMemory s text h came long = absurd h

-- what is written of an accepted certificate is an answer, whatever the shelf is now
written_answer : (request : Option Asked) (before now : ShelfMeaning) (named : NamedSystem) (says : ProofText) (wanted : Wanted) (s : Status) (text : List ℕ)
    → IsWritten named says wanted s text → Output request (MayBe before) s text → IsAnswer request before now s text
written_answer request before now named says wanted s text with_claim o = o
written_answer request before now named says wanted s text (in_version_two fits) o = o
written_answer request before now named says wanted s text (too_heavy heavy) o = o

-- and so is a verdict
answer_of : (request : Option Asked) (before now : ShelfMeaning) (wanted : Wanted) (v w : List ℕ) (s : Status) (text : List ℕ) → Verdict v w wanted s text
    → Output request (MayBe before) s text → IsAnswer request before now s text
answer_of request before now wanted v w s text (refused fault h m) o = o
answer_of request before now wanted v w s text (rejected reason h p m) o = o
answer_of request before now wanted v w s text (accepted named says a written) o = written_answer request before now named says wanted s text written o

-- the text of the verdict for two texts
pub fetched_text : (wanted : Wanted) (p c v w : List ℕ) (before middle now : ShelfMeaning) (s : Status) (text : List ℕ) → MayBe before p v → length v ≤ most_problem_bytes
    → TellsTheSame before middle → MayBe middle c w → length w ≤ most_certificate_bytes → Verdict v w wanted s text → IsAnswer (Some (certifies wanted p c)) before now s text
fetched_text wanted p c v w before middle now s text first first_size same second second_size verdict =
    answer_of (Some (certifies wanted p c)) before now wanted v w s text verdict (decided wanted v w fetched verdict)
  where
    fetched : AreFetched (Some (certifies wanted p c)) wanted (MayBe before) v w
    fetched = record { problem_name = p; certificate_name = c; asked = refl; problem_under = first; certificate_under = may_be_before before middle c w same second; problem_size = first_size; certificate_size = second_size }

-- the text under a name is needed, with some limit
abbrev IsNeededOnce : Wanted → List ℕ → List ℕ → ShelfMeaning → ShelfMeaning → List ℕ → Type 0
IsNeededOnce wanted p c before now name = (limit : ℕ) × IsNeeded (Some (certifies wanted p c)) (WasFetched before now) name limit

-- after one fetch only the counts of the problem's name may have changed
pub touched_first : (wanted : Wanted) (p c : List ℕ) (before now : ShelfMeaning) → CountsRise before.faults now.faults p → CountsRise before.bytes now.bytes p
    → TouchesOnlyNeeded (Some (certifies wanted p c)) before now
touched_first wanted p c before now faults bytes name = go (same_or_not name p)
  where
    go : (name ≡ p) ⊎ (name ≢ p) → IsUntouched before now name ⊎ IsNeededOnce wanted p c before now name
    go (inl e) = inr (subst (IsNeededOnce wanted p c before now) (sym e) (most_problem_bytes, as_problem wanted p c refl))
    go (inr ne) = inl (faults.others name ne, bytes.others name ne)

-- a text of the problem was fetched, and no fault came under its name since
pub was_fetched : (p text : List ℕ) (before middle now : ShelfMeaning) → MayBe before p text → length text ≤ most_problem_bytes
    → ((q : List ℕ) → middle.faults q ≡ before.faults q) → now.faults p ≡ middle.faults p → WasFetched before now p
was_fetched p text before middle now may_be bound same kept = (kept ∙ same p, (text, may_be, bound))

-- a text of the problem was fetched, and then the certificate was asked for
module _ (wanted : Wanted) (p c text : List ℕ) (before middle now : ShelfMeaning) (may_be : MayBe before p text) (bound : length text ≤ most_problem_bytes)
    (same : (q : List ℕ) → middle.faults q ≡ before.faults q) where
  needed_certificate : now.faults p ≡ middle.faults p → IsNeeded (Some (certifies wanted p c)) (WasFetched before now) c most_certificate_bytes
  needed_certificate kept = as_certificate wanted p c refl (was_fetched p text before middle now may_be bound same kept)

  -- it is too long
  pub second_long : ((q : List ℕ) → now.faults q ≡ middle.faults q) → MayPass most_certificate_bytes before c → ReadPast most_certificate_bytes before now c
      → IsLong (Some (certifies wanted p c)) before now c
  second_long kept passes read = (most_certificate_bytes, needed_certificate (kept p), passes, read)

  module _ (faults : CountsRise middle.faults now.faults c) where
    needed_second : (p ≡ c) ⊎ (p ≢ c) → IsNeededOnce wanted p c before now c
    needed_second (inl e) = subst (IsNeededOnce wanted p c before now) e (most_problem_bytes, as_problem wanted p c refl)
    needed_second (inr ne) = (most_certificate_bytes, needed_certificate (faults.others p ne))

    -- a fault came
    pub second_fault : FaultRose before now c → IsFault (Some (certifies wanted p c)) before now c
    second_fault rose = let (limit, needed) = needed_second (same_or_not p c) in (limit, needed, rose)

    pub touched_both : CountsRise before.bytes middle.bytes p → CountsRise middle.bytes now.bytes c → TouchesOnlyNeeded (Some (certifies wanted p c)) before now
    touched_both first second name = go (same_or_not name p) (same_or_not name c)
      where
        go : (name ≡ p) ⊎ (name ≢ p) → (name ≡ c) ⊎ (name ≢ c) → IsUntouched before now name ⊎ IsNeededOnce wanted p c before now name
        go (inl e) other = inr (subst (IsNeededOnce wanted p c before now) (sym e) (most_problem_bytes, as_problem wanted p c refl))
        go (inr ne) (inl e) = inr (subst (IsNeededOnce wanted p c before now) (sym e) (most_certificate_bytes, needed_certificate (faults.others p (λ k. ne (e ∙ sym k)))))
        go (inr ne) (inr other) = inl (faults.others name other ∙ same name, second.others name other ∙ first.others name ne)
