-- Good words about good texts are answered.
use Rattle.std.proofs.Common.{◌≡◌, ◌≤◌, ◌⊎◌, inl, inr, ℕ, true, false, List, length, Option, Some, refl, subst}
use Rattle.io_edge.specs.Shelf.{ShelfMeaning, Told, MayBe, MayPass, FaultRose}
use Rattle.program_edge.specs.names_text.Named.{NamedSystem}
use Rattle.ari_text.specs.Problem.{SaysSystem}
use Rattle.ari_text.proofs.OneSystem as ari_text
use Rattle.ari_text.proofs.OneSystem.{one_system}
use Rattle.program_edge.specs.conclusion.cert_text.ProofText.{ProofText}
use Rattle.program_edge.specs.conclusion.cert_text.CertificateText.{fits_two}
use Rattle.certifier.specs.Acceptance.{IsAcceptedAs}
use Rattle.certifier.proofs.OneAnswer.{said_once, not_both}
use Rattle.completion_text.specs.path_lpo.Table.{PathEntry}
use Rattle.completion_text.specs.OrderText.{SaysOrder, IsOrderRefused}
use Rattle.completion_text.specs.declared.refused.OrderRefused.TheVariants.{At}
use Rattle.completion_text.proofs.OneOrder as order_text
use Rattle.command_line.specs.Request.{Asked, certifies, proves, completes, samples}
use Rattle.command_line.specs.declared.Question.{Question}
use Rattle.command_line.specs.declared.Wanted.{Wanted}
use Rattle.program_edge.specs.declared.status.Status.{Status}
use Rattle.program_edge.specs.declared.status.Status.TheVariants as status
use Rattle.program_edge.specs.Conclusions.{IsConclusion, no_system, concluded}
use Rattle.program_edge.specs.Fetching.{most_problem_bytes}
use Rattle.trsprove.specs.Verdicts.{IsWritten, with_claim, in_version_two, too_heavy, Verdict, refused, rejected, accepted, most_certificate_bytes}
use Rattle.trsprove.specs.Completions.{IsCompletion, no_equations, no_order, ended, most_order_bytes}
use Rattle.trsprove.specs.Output.{Output, usage, too_long, decided, answered, completed, sampled, AreFetched, IsAsked, AreEquations, IsNeeded, as_problem, as_certificate, as_question, as_equations, as_order, WasFetched, IsAnswer}
use Rattle.trsprove.specs.Completeness.{IsGoodCertificate, IsJudged, IsAnsweredOrShort, IsComplete}
use Rattle.trsprove.proofs.Answering.{told_is, not_long}

-- ---- what is answered for good texts

good_written : (problem certificate : List ℕ) (wanted : Wanted) (named : NamedSystem) (says : ProofText) (s : Status) (text : List ℕ)
    → IsAcceptedAs problem certificate named says → IsWritten named says wanted s text → IsJudged (IsGoodCertificate wanted problem certificate) s
good_written problem certificate wanted named says s text a with_claim = inl (refl, record { named = named; says = says; accepted = a; fits = λ e. absurd cc })
good_written problem certificate wanted named says s text a (in_version_two fits) = inl (refl, record { named = named; says = says; accepted = a; fits = λ e. fits })
good_written problem certificate wanted named says s text a (too_heavy heavy) =
    inr (inl (
      refl,
      (λ good.
          let same = said_once problem certificate named good.named says good.says a good.accepted in
          let fits : fits_two good.says ≡ true = good.fits refl in
          let heavy_too : fits_two good.says ≡ false = subst (λ x. fits_two x ≡ false) same.1 heavy in
          cc),
    ))

good_verdict : (problem certificate : List ℕ) (wanted : Wanted) (named : NamedSystem) (s : Status) (text : List ℕ) → SaysSystem problem named
    → Verdict problem certificate wanted s text → IsJudged (IsGoodCertificate wanted problem certificate) s
good_verdict problem certificate wanted named s text says (refused fault h m) = absurd (m (ari_text.no_refusal problem named fault says h))
good_verdict problem certificate wanted named s text says (rejected reason h p m) =
    inr (inl (refl, (λ good. m (not_both problem certificate good.says.claim good.named reason good.accepted.acceptance h))))
good_verdict problem certificate wanted named s text says (accepted system told a written) = good_written problem certificate wanted system told s text a written

good_conclusion : (problem : List ℕ) (question : Question) (workers budget : ℕ) (named : NamedSystem) (s : Status) (text : List ℕ) → SaysSystem problem named
    → IsConclusion problem question workers budget s text → IsAnsweredOrShort s
good_conclusion problem question workers budget named s text says (no_system fault h m) = absurd (m (ari_text.no_refusal problem named fault says h))
good_conclusion problem question workers budget named s text says (concluded system told by) = inl refl

good_completion : (problem order : List ℕ) (budget : ℕ) (named : NamedSystem) (entries : List PathEntry) (s : Status) (text : List ℕ) → SaysSystem problem named
    → SaysOrder named order entries → IsCompletion problem order budget s text → IsAnsweredOrShort s
good_completion problem order budget named entries s text says orders (no_equations fault h m) = absurd (m (ari_text.no_refusal problem named fault says h))
good_completion problem order budget named entries s text says orders (no_order system at told h) =
    absurd (order_text.no_refusal named order entries at orders (subst (λ n. IsOrderRefused n order (At at)) (one_system problem system named told says) h))
good_completion problem order budget named entries s text says orders (ended system told c) = inl refl

-- ---- where a status comes from, if no text failed to be read: from an answer, or from a text that is too long

abbrev Cause : Option Asked → ShelfMeaning → ShelfMeaning → Status → List ℕ → Type 0
Cause request before now s text =
    ((s ≡ status.TooLong → ⊥) × Output request (MayBe before) s text)
    ⊎ ((name : List ℕ) × (limit : ℕ) × IsNeeded request (WasFetched before now) name limit × MayPass limit before name)

module _ (request : Option Asked) (before now : ShelfMeaning) where
  cause : (s : Status) (text : List ℕ) → IsAnswer request before now s text → ((name : List ℕ) → FaultRose before now name → ⊥) → Cause request before now s text
  cause status.ReadFault text (name, limit, needed, rose, is) none = absurd (none name rose)
  cause status.TooLong text (name, limit, needed, passes, read, is) none = inr (name, limit, needed, passes)
  cause status.WriteFault text h none = absurd h
  cause status.OutOfMemory text h none = absurd h
  cause status.Answered text h none = inl ((λ e. cc), h)
  cause status.Rejected text h none = inl ((λ e. cc), h)
  cause status.Refused text h none = inl ((λ e. cc), h)
  cause status.Usage text h none = inl ((λ e. cc), h)

  -- ---- certificates

  module _ (wanted : Wanted) (p c problem certificate : List ℕ) (asks : request ≡ Some (certifies wanted p c)) (first : Told before p problem)
      (second : Told before c certificate) where
    not_too_long : length problem ≤ most_problem_bytes → length certificate ≤ most_certificate_bytes → (name : List ℕ) (limit : ℕ)
        → IsNeeded request (WasFetched before now) name limit → MayPass limit before name → ⊥
    not_too_long small short name limit (as_problem other q d e) passes =
        let same : q ≡ p = cc in not_long most_problem_bytes before p problem first small (subst (MayPass most_problem_bytes before) same passes)
    not_too_long small short name limit (as_certificate other q d e fetched) passes =
        let same : d ≡ c = cc in not_long most_certificate_bytes before c certificate second short (subst (MayPass most_certificate_bytes before) same passes)
    not_too_long small short name limit (as_question question q workers budget e) passes = absurd cc
    not_too_long small short name limit (as_equations q d budget e) passes = absurd cc
    not_too_long small short name limit (as_order q d budget e fetched) passes = absurd cc

    the_verdict : (other : Wanted) (v w : List ℕ) (s : Status) (text : List ℕ) → AreFetched request other (MayBe before) v w → Verdict v w other s text
        → Verdict problem certificate wanted s text
    the_verdict other v w s text f verdict =
        let asked : request ≡ Some (certifies other f.problem_name f.certificate_name) = f.asked in
        let wants : other ≡ wanted = cc in
        let problems : f.problem_name ≡ p = cc in
        let certificates : f.certificate_name ≡ c = cc in
        let is_first : v ≡ problem = told_is before p v problem (subst (λ q. MayBe before q v) problems f.problem_under) first in
        let is_second : w ≡ certificate = told_is before c w certificate (subst (λ q. MayBe before q w) certificates f.certificate_under) second in
        subst (λ z. Verdict problem z wanted s text) is_second (subst (λ z. Verdict z w wanted s text) is_first (subst (λ z. Verdict v w z s text) wants verdict))

    judged_output : (named : NamedSystem) → SaysSystem problem named → (s : Status) (text : List ℕ) → (s ≡ status.TooLong → ⊥) → Output request (MayBe before) s text
        → IsJudged (IsGoodCertificate wanted problem certificate) s
    judged_output named says s text short (usage none) = absurd cc
    judged_output named says s text short (too_long name limit needed long) = absurd (short refl)
    judged_output named says s text short (decided other v w f verdict) =
        good_verdict problem certificate wanted named s text says (the_verdict other v w s text f verdict)
    judged_output named says s text short (answered question budget v f conclusion) = let other : request ≡ Some (proves question f.name f.workers budget) = f.asked in absurd cc
    judged_output named says s text short (completed budget v w f completion) = let other : request ≡ Some (completes f.problem_name f.order_name budget) = f.asked in absurd cc
    judged_output named says s text short (sampled size workers budget e line) = absurd cc

  judged : (wanted : Wanted) (problem certificate : List ℕ) (named : NamedSystem) (s : Status) (text : List ℕ) → Cause request before now s text
      → AreFetched request wanted (Told before) problem certificate → SaysSystem problem named → IsJudged (IsGoodCertificate wanted problem certificate) s
  judged wanted problem certificate named s text (inl (short, o)) f says =
      judged_output wanted f.problem_name f.certificate_name problem certificate f.asked f.problem_under f.certificate_under named says s text short o
  judged wanted problem certificate named s text (inr (name, limit, needed, passes)) f says =
      absurd (not_too_long wanted f.problem_name f.certificate_name problem certificate f.asked f.problem_under f.certificate_under f.problem_size f.certificate_size name limit needed passes)

  -- ---- questions

  module _ (question : Question) (p problem : List ℕ) (workers budget : ℕ) (asks : request ≡ Some (proves question p workers budget)) (first : Told before p problem) where
    problem_not_long : length problem ≤ most_problem_bytes → (name : List ℕ) (limit : ℕ) → IsNeeded request (WasFetched before now) name limit → MayPass limit before name → ⊥
    problem_not_long small name limit (as_question other q hands bound e) passes =
        let same : q ≡ p = cc in not_long most_problem_bytes before p problem first small (subst (MayPass most_problem_bytes before) same passes)
    problem_not_long small name limit (as_problem wanted q d e) passes = absurd cc
    problem_not_long small name limit (as_certificate wanted q d e fetched) passes = absurd cc
    problem_not_long small name limit (as_equations q d bound e) passes = absurd cc
    problem_not_long small name limit (as_order q d bound e fetched) passes = absurd cc

    answered_output : (named : NamedSystem) → SaysSystem problem named → (s : Status) (text : List ℕ) → (s ≡ status.TooLong → ⊥) → Output request (MayBe before) s text
        → IsAnsweredOrShort s
    answered_output named says s text short (usage none) = absurd cc
    answered_output named says s text short (too_long name limit needed long) = absurd (short refl)
    answered_output named says s text short (decided wanted v w f verdict) = let other : request ≡ Some (certifies wanted f.problem_name f.certificate_name) = f.asked in absurd cc
    answered_output named says s text short (answered other bound v f conclusion) =
        let asked : request ≡ Some (proves other f.name f.workers bound) = f.asked in
        let names : f.name ≡ p = cc in
        let is : v ≡ problem = told_is before p v problem (subst (λ q. MayBe before q v) names f.name_under) first in
        good_conclusion problem other f.workers bound named s text says (subst (λ z. IsConclusion z other f.workers bound s text) is conclusion)
    answered_output named says s text short (completed bound v w f completion) = let other : request ≡ Some (completes f.problem_name f.order_name bound) = f.asked in absurd cc
    answered_output named says s text short (sampled size hands bound e line) = absurd cc

  asked_answered : (question : Question) (budget : ℕ) (problem : List ℕ) (named : NamedSystem) (s : Status) (text : List ℕ) → Cause request before now s text
      → IsAsked request question budget (Told before) problem → SaysSystem problem named → IsAnsweredOrShort s
  asked_answered question budget problem named s text (inl (short, o)) f says =
      answered_output question f.name problem f.workers budget f.asked f.name_under named says s text short o
  asked_answered question budget problem named s text (inr (name, limit, needed, passes)) f says =
      absurd (problem_not_long question f.name problem f.workers budget f.asked f.name_under f.size name limit needed passes)

  -- ---- equations

  module _ (p c problem order : List ℕ) (budget : ℕ) (asks : request ≡ Some (completes p c budget)) (first : Told before p problem) (second : Told before c order) where
    texts_not_long : length problem ≤ most_problem_bytes → length order ≤ most_order_bytes → (name : List ℕ) (limit : ℕ)
        → IsNeeded request (WasFetched before now) name limit → MayPass limit before name → ⊥
    texts_not_long small short name limit (as_equations q d bound e) passes =
        let same : q ≡ p = cc in not_long most_problem_bytes before p problem first small (subst (MayPass most_problem_bytes before) same passes)
    texts_not_long small short name limit (as_order q d bound e fetched) passes =
        let same : d ≡ c = cc in not_long most_order_bytes before c order second short (subst (MayPass most_order_bytes before) same passes)
    texts_not_long small short name limit (as_problem wanted q d e) passes = absurd cc
    texts_not_long small short name limit (as_certificate wanted q d e fetched) passes = absurd cc
    texts_not_long small short name limit (as_question question q workers bound e) passes = absurd cc

    completed_output : (named : NamedSystem) (entries : List PathEntry) → SaysSystem problem named → SaysOrder named order entries → (s : Status) (text : List ℕ)
        → (s ≡ status.TooLong → ⊥) → Output request (MayBe before) s text → IsAnsweredOrShort s
    completed_output named entries says orders s text short (usage none) = absurd cc
    completed_output named entries says orders s text short (too_long name limit needed long) = absurd (short refl)
    completed_output named entries says orders s text short (decided wanted v w f verdict) =
        let other : request ≡ Some (certifies wanted f.problem_name f.certificate_name) = f.asked in absurd cc
    completed_output named entries says orders s text short (answered question bound v f conclusion) =
        let other : request ≡ Some (proves question f.name f.workers bound) = f.asked in absurd cc
    completed_output named entries says orders s text short (completed bound v w f completion) =
        let asked : request ≡ Some (completes f.problem_name f.order_name bound) = f.asked in
        let problems : f.problem_name ≡ p = cc in
        let order_names : f.order_name ≡ c = cc in
        let is_first : v ≡ problem = told_is before p v problem (subst (λ q. MayBe before q v) problems f.problem_under) first in
        let is_second : w ≡ order = told_is before c w order (subst (λ q. MayBe before q w) order_names f.order_under) second in
        good_completion problem order bound named entries s text says orders
        (subst (λ z. IsCompletion problem z bound s text) is_second (subst (λ z. IsCompletion z w bound s text) is_first completion))
    completed_output named entries says orders s text short (sampled size workers bound e line) = absurd cc

  equations_answered : (budget : ℕ) (problem order : List ℕ) (named : NamedSystem) (entries : List PathEntry) (s : Status) (text : List ℕ) → Cause request before now s text
      → AreEquations request budget (Told before) problem order → SaysSystem problem named → SaysOrder named order entries → IsAnsweredOrShort s
  equations_answered budget problem order named entries s text (inl (short, o)) f says orders =
      completed_output f.problem_name f.order_name problem order budget f.asked f.problem_under f.order_under named entries says orders s text short o
  equations_answered budget problem order named entries s text (inr (name, limit, needed, passes)) f says orders =
      absurd (texts_not_long f.problem_name f.order_name problem order budget f.asked f.problem_under f.order_under f.problem_size f.order_size name limit needed passes)

  -- ---- samples

  sample_answered : (size workers budget : ℕ) (s : Status) (text : List ℕ) → Cause request before now s text → request ≡ Some (samples size workers budget) → IsAnsweredOrShort s
  sample_answered size workers budget s text (inl (short, usage none)) asks = absurd cc
  sample_answered size workers budget s text (inl (short, too_long name limit needed long)) asks = absurd (short refl)
  sample_answered size workers budget s text (inl (short, decided wanted v w f verdict)) asks =
      let other : request ≡ Some (certifies wanted f.problem_name f.certificate_name) = f.asked in absurd cc
  sample_answered size workers budget s text (inl (short, answered question bound v f conclusion)) asks =
      let other : request ≡ Some (proves question f.name f.workers bound) = f.asked in absurd cc
  sample_answered size workers budget s text (inl (short, completed bound v w f completion)) asks =
      let other : request ≡ Some (completes f.problem_name f.order_name bound) = f.asked in absurd cc
  sample_answered size workers budget s text (inl (short, sampled other hands bound e line)) asks = inl refl
  sample_answered size workers budget s text (inr (name, limit, as_problem wanted q d e, passes)) asks = absurd cc
  sample_answered size workers budget s text (inr (name, limit, as_certificate wanted q d e fetched, passes)) asks = absurd cc
  sample_answered size workers budget s text (inr (name, limit, as_question question q hands bound e, passes)) asks = absurd cc
  sample_answered size workers budget s text (inr (name, limit, as_equations q d bound e, passes)) asks = absurd cc
  sample_answered size workers budget s text (inr (name, limit, as_order q d bound e fetched, passes)) asks = absurd cc

  -- ---- all of them

  pub complete_answer : (s : Status) (text : List ℕ) → IsAnswer request before now s text → ((name : List ℕ) → FaultRose before now name → ⊥) → IsComplete request before s
  complete_answer s text h none = record {
    certificates = λ wanted problem certificate named. judged wanted problem certificate named s text (cause s text h none);
    questions = λ question budget problem named. asked_answered question budget problem named s text (cause s text h none);
    equations = λ budget problem order named entries. equations_answered budget problem order named entries s text (cause s text h none);
    sample = λ size workers budget. sample_answered size workers budget s text (cause s text h none);
  }

-- want of memory is always possible
pub complete_without_memory : (request : Option Asked) (shelf : ShelfMeaning) → IsComplete request shelf status.OutOfMemory
complete_without_memory request shelf = record {
  certificates = λ wanted problem certificate named f says. inr (inr refl);
  questions = λ question budget problem named f says. inr refl;
  equations = λ budget problem order named entries f says orders. inr refl;
  sample = λ size workers budget asks. inr refl;
}
