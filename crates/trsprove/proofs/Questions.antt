-- Questions about a system: what is answered, and that it is the only answer.
use Rattle.std.proofs.Common.{◌≡◌, ◌≢◌, ◌≤◌, ◌⊎◌, inl, inr, ℕ, List, length, Option, Some, Result, Err, IfOk, Vec, Global, refl, sym, subst, arith}
use Rattle.std.proofs.lemmas.Result.{IfOk-weaker}
use Rattle.io_edge.specs.Shelf.{ShelfMeaning, Told, MayBe, MayPass, TellsTheSame, CountsRise, CountsFault, ReadPast, IsUntouched}
use Rattle.io_edge.specs.declared.fault.FetchFault.{FetchFault}
use Rattle.io_edge.specs.declared.fault.FetchFault.TheVariants as fetch
use Rattle.io_edge.proofs.Counting.{same_or_not}
use Rattle.program_edge.proofs.OneConclusion.{one_conclusion}
use Rattle.command_line.specs.Request.{Asked, certifies, proves, completes}
use Rattle.command_line.specs.declared.Question.{Question}
use Rattle.program_edge.specs.declared.status.Status.{Status}
use Rattle.program_edge.specs.declared.status.Status.TheVariants as status
use Rattle.program_edge.specs.Conclusions.{IsConclusion, no_system, concluded}
use Rattle.program_edge.specs.Running.{IsOr}
use Rattle.trsprove.specs.Output.{Output, usage, too_long, decided, answered, completed, sampled, IsAsked, IsNeeded, as_problem, as_certificate, as_question, as_equations, as_order, IsWithin, IsTooLong, WasFetched, IsAnswer, AnswersOnly, TouchesOnlyNeeded}
use Rattle.program_edge.specs.Fetching.{most_problem_bytes, IsUnfetched}
use Rattle.trsprove.specs.declared.answer.Answer.{Answer}
use Rattle.trsprove.specs.Answers.{status_of, text_of}
use Rattle.trsprove.specs.Answered.{IsAnswered}
use Rattle.trsprove.proofs.Answering.{told_is, not_long, too_long_within}
use Rattle.io_edge.proofs.AskingAgain.{once_again}
use Rattle.trsprove.proofs.Fetching.{fault_came, unfetched_line}

-- ---- what is answered

answer_of : (request : Option Asked) (before now : ShelfMeaning) (question : Question) (workers budget : ℕ) (v : List ℕ) (s : Status) (text : List ℕ) → IsConclusion v question workers budget s text
    → Output request (MayBe before) s text → IsAnswer request before now s text
answer_of request before now question workers budget v s text (no_system fault h m) o = o
answer_of request before now question workers budget v s text (concluded named says by) o = o

-- the answer for a text of the problem
fetched_conclusion : (question : Question) (p : List ℕ) (workers budget : ℕ) (v : List ℕ) (before now : ShelfMeaning) (s : Status) (text : List ℕ) → MayBe before p v
    → length v ≤ most_problem_bytes → IsConclusion v question workers budget s text → IsAnswer (Some (proves question p workers budget)) before now s text
fetched_conclusion question p workers budget v before now s text may_be size h =
    answer_of (Some (proves question p workers budget)) before now question workers budget v s text h
    (answered question budget v (record { name = p; workers = workers; asked = refl; name_under = may_be; size = size }) h)

-- ---- one status for a text

-- the status of an answer is no fault, so that no other is possible
or_same : (problem : List ℕ) (question : Question) (workers budget : ℕ) (s other : Status) (text : List ℕ) → IsConclusion problem question workers budget s text → s ≡ other → IsOr other s
or_same problem question workers budget s other text (no_system fault h m) e = e
or_same problem question workers budget s other text (concluded named says by) e = e

-- ---- texts that are told

-- one question is asked, about one name, within one budget
record IsSameQuestion (question other : Question) (p q : List ℕ) (budget limit : ℕ) : Type 0 where
  questions : question ≡ other
  problems : p ≡ q
  budgets : budget ≡ limit

same_question : (question other : Question) (p q : List ℕ) (workers hands budget limit : ℕ) → Some (proves question p workers budget) ≡ Some (proves other q hands limit)
    → IsSameQuestion question other p q budget limit
same_question question other p q workers hands budget limit e =
    let same : proves question p workers budget ≡ proves other q hands limit = cc in record { questions = cc; problems = cc; budgets = cc }

module _ (shelf : ShelfMeaning) (question : Question) (p : List ℕ) (workers budget : ℕ) where
  abbrev Request : Option Asked
  Request = Some (proves question p workers budget)

  same_of : (other : Question) (limit : ℕ) (problem : List ℕ) → (f : IsAsked Request other limit (Told shelf) problem) → IsSameQuestion question other p f.name budget limit
  same_of other limit problem f = same_question question other p f.name workers f.workers budget limit f.asked

  told_of : (other : Question) (limit : ℕ) (problem : List ℕ) → IsAsked Request other limit (Told shelf) problem → Told shelf p problem
  told_of other limit problem f = subst (λ q. Told shelf q problem) (sym (same_of other limit problem f).problems) f.name_under

  -- where the text is too long, no other answer is defined
  too_long_only : MayPass most_problem_bytes shelf p → AnswersOnly Request shelf status.TooLong
  too_long_only h s text (usage none) = absurd cc
  too_long_only h s text (too_long name limit needed long) = refl
  too_long_only h s text (decided wanted problem certificate f verdict) = let asks : Some (proves question p workers budget) ≡ Some (certifies wanted f.problem_name f.certificate_name) = f.asked in absurd cc
  too_long_only h s text (completed bound problem order f completion) = let asks : Some (proves question p workers budget) ≡ Some (completes f.problem_name f.order_name bound) = f.asked in absurd cc
  too_long_only h s text (sampled size hands bound asks line) = absurd cc
  too_long_only h s text (answered other limit problem f conclusion) = absurd (not_long most_problem_bytes shelf p problem (told_of other limit problem f) f.size h)

  -- where the text could not be fetched
  not_fetched_only : (fault : FetchFault) (s : Status) (text : List ℕ) → IsUnfetched fault p s text → (fault ≡ fetch.TooLong → MayPass most_problem_bytes shelf p)
      → AnswersOnly Request shelf s
  not_fetched_only fetch.TooLong s text (e, is) passes = subst (AnswersOnly Request shelf) (sym e) (too_long_only (passes refl))
  not_fetched_only fetch.Failed s text (e, is) passes = subst (AnswersOnly Request shelf) (sym e) (λ other defined o. tt)
  not_fetched_only fetch.OutOfMemory s text h passes = absurd h

  module _ (v : List ℕ) (may_be : MayBe shelf p v) (size : length v ≤ most_problem_bytes) where
    not_too_long : (name : List ℕ) (limit : ℕ) → IsNeeded Request (IsWithin most_problem_bytes (Told shelf)) name limit → IsTooLong limit (Told shelf) name → ⊥
    not_too_long name limit (as_problem wanted q d e) long = absurd cc
    not_too_long name limit (as_certificate wanted q d e within) long = absurd cc
    not_too_long name limit (as_equations q d bound e) long = absurd cc
    not_too_long name limit (as_order q d bound e within) long = absurd cc
    not_too_long name limit (as_question other q hands bound e) long =
        too_long_within most_problem_bytes shelf p v may_be size
        (subst (λ z. IsTooLong most_problem_bytes (Told shelf) z) (sym (same_question question other p q workers hands budget bound e).problems) long)

    -- the conclusion for the text is the defined one
    conclusion_only : (s : Status) (text : List ℕ) → IsConclusion v question workers budget s text → AnswersOnly Request shelf s
    conclusion_only s text h other defined (usage none) = absurd cc
    conclusion_only s text h other defined (too_long name limit needed long) = absurd (not_too_long name limit needed long)
    conclusion_only s text h other defined (decided wanted problem certificate f verdict) = let asks : Some (proves question p workers budget) ≡ Some (certifies wanted f.problem_name f.certificate_name) = f.asked in absurd cc
    conclusion_only s text h other defined (completed bound problem order f completion) = let asks : Some (proves question p workers budget) ≡ Some (completes f.problem_name f.order_name bound) = f.asked in absurd cc
    conclusion_only s text h other defined (sampled size hands bound asks line) = absurd cc
    conclusion_only s text h other defined (answered asked limit problem f found) =
        let same = same_of asked limit problem f in
        let is : v ≡ problem = told_is shelf p v problem may_be (told_of asked limit problem f) in
        or_same v question workers budget s other text h
        (one_conclusion v question workers f.workers budget s other text defined h
        (subst (λ z. IsConclusion z question f.workers budget other defined) (sym is) (subst (λ b. IsConclusion problem question f.workers b other defined) (sym same.budgets)
        (subst (λ q. IsConclusion problem q f.workers limit other defined) (sym same.questions) found))))

-- ---- names that are touched

touched_problem : (question : Question) (p : List ℕ) (workers budget : ℕ) (before now : ShelfMeaning) → CountsRise before.faults now.faults p → CountsRise before.bytes now.bytes p
    → TouchesOnlyNeeded (Some (proves question p workers budget)) before now
touched_problem question p workers budget before now faults bytes name = go (same_or_not name p)
  where
    go : (name ≡ p) ⊎ (name ≢ p) → IsUntouched before now name ⊎ ((limit : ℕ) × IsNeeded (Some (proves question p workers budget)) (WasFetched before now) name limit)
    go (inl e) =
        inr (subst (λ n. (limit : ℕ) × IsNeeded (Some (proves question p workers budget)) (WasFetched before now) n limit) (sym e)
        (most_problem_bytes, as_question question p workers budget refl))
    go (inr ne) = inl (faults.others name ne, bytes.others name ne)

-- ---- what is known of the answer, once the text was asked for

module _ {E : Type 0} (question : Question) (p : List ℕ) (workers budget : ℕ) (before now : ShelfMeaning) (r : Result Answer E) (told : TellsTheSame before now)
    (faults : CountsRise before.faults now.faults p) (read : CountsRise before.bytes now.bytes p) where
  -- where there is one
  pub known_of_text : (v : List ℕ) → MayBe before p v → length v ≤ most_problem_bytes → IfOk r (λ a. IsConclusion v question workers budget (status_of a) (text_of a))
      → IsAnswered (Some (proves question p workers budget)) before now r
  known_of_text v may_be size h = record {
    answer = IfOk-weaker r (λ a. IsConclusion v question workers budget (status_of a) (text_of a))
        (λ a. IsAnswer (Some (proves question p workers budget)) before now (status_of a) (text_of a))
        (λ a. fetched_conclusion question p workers budget v before now (status_of a) (text_of a) may_be size) h;
    only = IfOk-weaker r (λ a. IsConclusion v question workers budget (status_of a) (text_of a)) (λ a. AnswersOnly (Some (proves question p workers budget)) before (status_of a))
        (λ a. conclusion_only before question p workers budget v may_be size (status_of a) (text_of a)) h;
    untouched = touched_problem question p workers budget before now faults read;
    again = once_again before now p told faults read;
  }

  -- where it could not be fetched
  pub known_of_fault : (fault : FetchFault) → CountsFault {X = Vec ℕ Global} (Err fault) before.faults now.faults p
      → (fault ≡ fetch.TooLong → MayPass most_problem_bytes before p) → (fault ≡ fetch.TooLong → ReadPast most_problem_bytes before now p)
      → IfOk r (λ a. IsUnfetched fault p (status_of a) (text_of a)) → IsAnswered (Some (proves question p workers budget)) before now r
  known_of_fault fault counted passes long h = record {
    answer = IfOk-weaker r (λ a. IsUnfetched fault p (status_of a) (text_of a))
        (λ a. IsAnswer (Some (proves question p workers budget)) before now (status_of a) (text_of a))
        (λ a is. unfetched_line (Some (proves question p workers budget)) before now p fault (status_of a) (text_of a) is
        (λ e. (
          most_problem_bytes,
          as_question question p workers budget refl,
          fault_came (Vec ℕ Global) fault before.faults before.faults now.faults p (omega arith) counted e,
        ))
        (λ e. (most_problem_bytes, as_question question p workers budget refl, passes e, long e))) h;
    only = IfOk-weaker r (λ a. IsUnfetched fault p (status_of a) (text_of a)) (λ a. AnswersOnly (Some (proves question p workers budget)) before (status_of a))
        (λ a is. not_fetched_only before question p workers budget fault (status_of a) (text_of a) is passes) h;
    untouched = touched_problem question p workers budget before now faults read;
    again = once_again before now p told faults read;
  }

-- ---- conclusions as answers

pub same_conclusion : (problem : List ℕ) (question : Question) (workers budget : ℕ) (s other : Status) (text defined : List ℕ) → s ≡ other → text ≡ defined
    → IsConclusion problem question workers budget other defined → IsConclusion problem question workers budget s text
same_conclusion problem question workers budget s other text defined is writes h =
    subst (λ z. IsConclusion problem question workers budget z text) (sym is) (subst (IsConclusion problem question workers budget other) (sym writes) h)
