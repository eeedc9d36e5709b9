-- Where a text that is needed is told to be absent, no answer is given.
use Rattle.std.proofs.Common.{◌≡◌, ◌<◌, ℕ, List, Option, Some, None, length, refl, subst, arith}
use Rattle.io_edge.specs.Telling.{CanBe, CanPass}
use Rattle.io_edge.specs.Shelf.{ShelfMeaning, Told, ToldAbsent, MayBe, MayPass}
use Rattle.command_line.specs.Request.{Asked, certifies, proves, completes, samples}
use Rattle.command_line.specs.declared.Question.{Question}
use Rattle.command_line.specs.declared.Wanted.{Wanted}
use Rattle.program_edge.specs.declared.status.Status.{Status}
use Rattle.program_edge.specs.declared.status.Status.TheVariants as status
use Rattle.program_edge.specs.Fetching.{most_problem_bytes}
use Rattle.trsprove.specs.Verdicts.{most_certificate_bytes}
use Rattle.trsprove.specs.Completions.{most_order_bytes}
use Rattle.trsprove.specs.Output.{Output, usage, too_long, decided, answered, completed, sampled, IsNeeded, as_problem, as_certificate, as_question, as_equations, as_order, IsWithin, WasFetched, IsAnswer, AnswersNoAbsence}
use Rattle.trsprove.proofs.Answering.{not_long}

-- what is told to be absent may not be, and may not be too long
no_text : (shelf : ShelfMeaning) (limit : ℕ) (name text : List ℕ) → ToldAbsent shelf limit name → MayBe shelf name text → ⊥
no_text shelf limit name text (front, is, within) h = subst (λ o. CanBe o text) is h

no_length : (shelf : ShelfMeaning) (limit : ℕ) (name : List ℕ) → ToldAbsent shelf limit name → MayPass limit shelf name → ⊥
no_length shelf limit name (front, is, within) h = let long : limit < length front = subst (CanPass limit) is h in omega arith

module _ (request : Option Asked) (before now : ShelfMeaning) where
  abbrev NeededTold : List ℕ → ℕ → Type 0
  NeededTold name limit = IsNeeded request (IsWithin most_problem_bytes (Told before)) name limit

  -- what is needed of a certificate: its problem, or itself
  of_certifying : (wanted : Wanted) (p c name : List ℕ) (limit : ℕ) → request ≡ Some (certifies wanted p c) → NeededTold name limit → ToldAbsent before limit name
      → (first second : List ℕ) → MayBe before p first → MayBe before c second → ⊥
  of_certifying wanted p c name limit asks (as_problem other q d e) gone first second h k =
      let same : q ≡ p = cc in no_text before most_problem_bytes p first (subst (ToldAbsent before most_problem_bytes) same gone) h
  of_certifying wanted p c name limit asks (as_certificate other q d e within) gone first second h k =
      let same : d ≡ c = cc in no_text before most_certificate_bytes c second (subst (ToldAbsent before most_certificate_bytes) same gone) k
  of_certifying wanted p c name limit asks (as_question question q workers budget e) gone first second h k = absurd cc
  of_certifying wanted p c name limit asks (as_equations q d bound e) gone first second h k = absurd cc
  of_certifying wanted p c name limit asks (as_order q d bound e within) gone first second h k = absurd cc

  -- what is needed of equations: their problem, or their order
  of_equations : (p c name : List ℕ) (budget limit : ℕ) → request ≡ Some (completes p c budget) → NeededTold name limit → ToldAbsent before limit name
      → (first second : List ℕ) → MayBe before p first → MayBe before c second → ⊥
  of_equations p c name budget limit asks (as_equations q d bound e) gone first second h k =
      let same : q ≡ p = cc in no_text before most_problem_bytes p first (subst (ToldAbsent before most_problem_bytes) same gone) h
  of_equations p c name budget limit asks (as_order q d bound e within) gone first second h k =
      let same : d ≡ c = cc in no_text before most_order_bytes c second (subst (ToldAbsent before most_order_bytes) same gone) k
  of_equations p c name budget limit asks (as_problem wanted q d e) gone first second h k = absurd cc
  of_equations p c name budget limit asks (as_certificate wanted q d e within) gone first second h k = absurd cc
  of_equations p c name budget limit asks (as_question question q workers bound e) gone first second h k = absurd cc

  of_question : (question : Question) (p name : List ℕ) (workers budget limit : ℕ) → request ≡ Some (proves question p workers budget) → NeededTold name limit
      → ToldAbsent before limit name → (text : List ℕ) → MayBe before p text → ⊥
  of_question question p name workers budget limit asks (as_problem other q d e) gone text h = absurd cc
  of_question question p name workers budget limit asks (as_certificate other q d e within) gone text h = absurd cc
  of_question question p name workers budget limit asks (as_equations q d bound e) gone text h = absurd cc
  of_question question p name workers budget limit asks (as_order q d bound e within) gone text h = absurd cc
  of_question question p name workers budget limit asks (as_question other q hands bound e) gone text h =
      let same : q ≡ p = cc in no_text before most_problem_bytes p text (subst (ToldAbsent before most_problem_bytes) same gone) h

  of_none : (name : List ℕ) (limit : ℕ) → request ≡ None → NeededTold name limit → ⊥
  of_none name limit asks (as_problem other q d e) = absurd cc
  of_none name limit asks (as_certificate other q d e within) = absurd cc
  of_none name limit asks (as_question other q hands bound e) = absurd cc
  of_none name limit asks (as_equations q d bound e) = absurd cc
  of_none name limit asks (as_order q d bound e within) = absurd cc

  of_sample : (size workers budget : ℕ) (name : List ℕ) (limit : ℕ) → request ≡ Some (samples size workers budget) → NeededTold name limit → ⊥
  of_sample size workers budget name limit asks (as_problem other q d e) = absurd cc
  of_sample size workers budget name limit asks (as_certificate other q d e within) = absurd cc
  of_sample size workers budget name limit asks (as_question other q hands bound e) = absurd cc
  of_sample size workers budget name limit asks (as_equations q d bound e) = absurd cc
  of_sample size workers budget name limit asks (as_order q d bound e within) = absurd cc

  no_output : (s : Status) (text : List ℕ) → Output request (MayBe before) s text → (name : List ℕ) (limit : ℕ) → NeededTold name limit → ToldAbsent before limit name
      → (s ≡ status.TooLong → ⊥) → ⊥
  no_output s text (usage none) name limit needed gone other = of_none name limit none needed
  no_output s text (too_long long limit' needed' is) name limit needed gone other = other refl
  no_output s text (decided wanted problem certificate f verdict) name limit needed gone other =
      of_certifying wanted f.problem_name f.certificate_name name limit f.asked needed gone problem certificate f.problem_under f.certificate_under
  no_output s text (answered question budget problem f conclusion) name limit needed gone other =
      of_question question f.name name f.workers budget limit f.asked needed gone problem f.name_under
  no_output s text (completed budget problem order f completion) name limit needed gone other =
      of_equations f.problem_name f.order_name name budget limit f.asked needed gone problem order f.problem_under f.order_under
  no_output s text (sampled size workers budget asks line) name limit needed gone other = of_sample size workers budget name limit asks needed

  -- a text that is too long is another than one that is absent, and comes before it
  not_too_long : (long : List ℕ) (most : ℕ) → IsNeeded request (WasFetched before now) long most → MayPass most before long → (name : List ℕ) (limit : ℕ)
      → NeededTold name limit → ToldAbsent before limit name → ⊥
  not_too_long long most (as_problem wanted p c e) passes name limit (as_problem other q d k) gone =
      let same : q ≡ p = cc in no_length before most_problem_bytes p (subst (ToldAbsent before most_problem_bytes) same gone) passes
  not_too_long long most (as_problem wanted p c e) passes name limit (as_certificate other q d k (text, told, within)) gone =
      let same : q ≡ p = cc in not_long most_problem_bytes before p text (subst (λ z. Told before z text) same told) within passes
  not_too_long long most (as_problem wanted p c e) passes name limit (as_question other q hands bound k) gone = absurd cc
  not_too_long long most (as_problem wanted p c e) passes name limit (as_equations q d bound k) gone = absurd cc
  not_too_long long most (as_problem wanted p c e) passes name limit (as_order q d bound k within) gone = absurd cc
  not_too_long long most (as_certificate wanted p c e (kept, (text, may_be, within))) passes name limit (as_problem other q d k) gone =
      let same : q ≡ p = cc in no_text before most_problem_bytes p text (subst (ToldAbsent before most_problem_bytes) same gone) may_be
  not_too_long long most (as_certificate wanted p c e fetched) passes name limit (as_certificate other q d k within) gone =
      let same : d ≡ c = cc in no_length before most_certificate_bytes c (subst (ToldAbsent before most_certificate_bytes) same gone) passes
  not_too_long long most (as_certificate wanted p c e fetched) passes name limit (as_question other q hands bound k) gone = absurd cc
  not_too_long long most (as_certificate wanted p c e fetched) passes name limit (as_equations q d bound k) gone = absurd cc
  not_too_long long most (as_certificate wanted p c e fetched) passes name limit (as_order q d bound k within) gone = absurd cc
  not_too_long long most (as_question question p workers budget e) passes name limit (as_problem other q d k) gone = absurd cc
  not_too_long long most (as_question question p workers budget e) passes name limit (as_certificate other q d k within) gone = absurd cc
  not_too_long long most (as_question question p workers budget e) passes name limit (as_equations q d bound k) gone = absurd cc
  not_too_long long most (as_question question p workers budget e) passes name limit (as_order q d bound k within) gone = absurd cc
  not_too_long long most (as_question question p workers budget e) passes name limit (as_question other q hands bound k) gone =
      let same : q ≡ p = cc in no_length before most_problem_bytes p (subst (ToldAbsent before most_problem_bytes) same gone) passes
  not_too_long long most (as_equations p c budget e) passes name limit (as_problem wanted q d k) gone = absurd cc
  not_too_long long most (as_equations p c budget e) passes name limit (as_certificate wanted q d k within) gone = absurd cc
  not_too_long long most (as_equations p c budget e) passes name limit (as_question question q workers bound k) gone = absurd cc
  not_too_long long most (as_order p c budget e fetched) passes name limit (as_problem wanted q d k) gone = absurd cc
  not_too_long long most (as_order p c budget e fetched) passes name limit (as_certificate wanted q d k within) gone = absurd cc
  not_too_long long most (as_order p c budget e fetched) passes name limit (as_question question q workers bound k) gone = absurd cc
  not_too_long long most (as_equations p c budget e) passes name limit (as_equations q d bound k) gone =
      let same : q ≡ p = cc in no_length before most_problem_bytes p (subst (ToldAbsent before most_problem_bytes) same gone) passes
  not_too_long long most (as_equations p c budget e) passes name limit (as_order q d bound k (text, told, within)) gone =
      let same : q ≡ p = cc in not_long most_problem_bytes before p text (subst (λ z. Told before z text) same told) within passes
  not_too_long long most (as_order p c budget e (kept, (text, may_be, within))) passes name limit (as_equations q d bound k) gone =
      let same : q ≡ p = cc in no_text before most_problem_bytes p text (subst (ToldAbsent before most_problem_bytes) same gone) may_be
  not_too_long long most (as_order p c budget e fetched) passes name limit (as_order q d bound k within) gone =
      let same : d ≡ c = cc in no_length before most_order_bytes c (subst (ToldAbsent before most_order_bytes) same gone) passes

  pub no_absence : (s : Status) (text : List ℕ) → IsAnswer request before now s text → AnswersNoAbsence request before s
  no_absence status.ReadFault text h name limit needed gone = tt
  no_absence status.WriteFault text h name limit needed gone = tt
  no_absence status.OutOfMemory text h name limit needed gone = tt
  no_absence status.TooLong text (long, most, needed', passes, read, is) name limit needed gone = absurd (not_too_long long most needed' passes name limit needed gone)
  no_absence status.Answered text h name limit needed gone = absurd (no_output status.Answered text h name limit needed gone (λ e. cc))
  no_absence status.Rejected text h name limit needed gone = absurd (no_output status.Rejected text h name limit needed gone (λ e. cc))
  no_absence status.Refused text h name limit needed gone = absurd (no_output status.Refused text h name limit needed gone (λ e. cc))
  no_absence status.Usage text h name limit needed gone = absurd (no_output status.Usage text h name limit needed gone (λ e. cc))

-- a write fault, and want of memory, say nothing of texts
pub no_write : (request : Option Asked) (before : ShelfMeaning) → AnswersNoAbsence request before status.WriteFault
no_write request before name limit needed gone = tt

pub no_memory : (request : Option Asked) (before : ShelfMeaning) → AnswersNoAbsence request before status.OutOfMemory
no_memory request before name limit needed gone = tt
