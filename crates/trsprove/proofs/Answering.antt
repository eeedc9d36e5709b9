-- That the answer is the only one.
use Rattle.std.proofs.Common.{◌≡◌, ◌≢◌, ◌≤◌, ◌<◌, ◌⊎◌, inl, inr, ℕ, List, length, Option, Some, refl, sym, subst, arith}
use Rattle.io_edge.specs.Telling.{CanBe, CanPass}
use Rattle.io_edge.specs.Shelf.{ShelfMeaning, Told, MayBe, MayPass}
use Rattle.program_edge.specs.names_text.Named.{NamedSystem}
use Rattle.ari_text.specs.Problem.{IsProblemRefused}
use Rattle.ari_text.specs.declared.fault.AriFault.{AriFault}
use Rattle.ari_text.specs.declared.fault.AriFault.TheVariants as ari
use Rattle.program_edge.specs.conclusion.cert_text.ProofText.{ProofText}
use Rattle.certifier.specs.declared.rejected.Rejected.{Rejected}
use Rattle.certifier.specs.declared.rejected.Rejected.TheVariants as why
use Rattle.certifier.specs.Acceptance.{IsAcceptedAs, IsRejection}
use Rattle.certifier.proofs.OneAnswer.{said_once, one_rejection, not_both}
use Rattle.command_line.specs.Request.{Asked, certifies, proves, completes}
use Rattle.command_line.specs.declared.Wanted.{Wanted}
use Rattle.io_edge.specs.declared.fault.FetchFault.{FetchFault}
use Rattle.io_edge.specs.declared.fault.FetchFault.TheVariants as fetch
use Rattle.program_edge.specs.declared.status.Status.{Status}
use Rattle.program_edge.specs.declared.status.Status.TheVariants as status
use Rattle.program_edge.specs.Running.{IsOr}
use Rattle.trsprove.specs.Output.{usage, too_long, decided, answered, completed, sampled, AreFetched, IsNeeded, as_problem, as_certificate, as_question, as_equations, as_order, IsWithin, IsTooLong, AnswersOnly}
use Rattle.trsprove.specs.Verdicts.{IsWritten, with_claim, in_version_two, too_heavy, Verdict, refused, rejected, accepted, most_certificate_bytes}
use Rattle.program_edge.specs.Fetching.{most_problem_bytes, IsUnfetched}

-- ---- one verdict for two texts

problem_is_why : (problem certificate : List ℕ) (fault : AriFault) → IsProblemRefused problem fault → fault ≢ ari.OutOfMemory
    → IsRejection problem certificate (why.Problem fault)
problem_is_why problem certificate fault h m = (h, m)

-- what is written of one certificate
one_text : (named : NamedSystem) (says : ProofText) (wanted : Wanted) (s other : Status) (text defined : List ℕ) → IsWritten named says wanted s text
    → IsWritten named says wanted other defined → IsOr other s
one_text named says wanted s other text defined with_claim with_claim = refl
one_text named says wanted s other text defined (in_version_two fits) (in_version_two again) = refl
one_text named says wanted s other text defined (in_version_two fits) (too_heavy heavy) = absurd cc
one_text named says wanted s other text defined (too_heavy heavy) (in_version_two fits) = absurd cc
one_text named says wanted s other text defined (too_heavy heavy) (too_heavy again) = refl

module _ (problem certificate : List ℕ) where
  -- what is accepted is not refused and not rejected
  not_rejected : (named : NamedSystem) (says : ProofText) (reason : Rejected) → IsAcceptedAs problem certificate named says → IsRejection problem certificate reason
      → reason ≢ why.OutOfMemory → ⊥
  not_rejected named says reason a h m = m (not_both problem certificate says.claim named reason a.acceptance h)

  not_refused : (named : NamedSystem) (says : ProofText) (fault : AriFault) → IsAcceptedAs problem certificate named says → IsProblemRefused problem fault
      → fault ≢ ari.OutOfMemory → ⊥
  not_refused named says fault a h m = not_rejected named says (why.Problem fault) a (problem_is_why problem certificate fault h m) (λ e. cc)

  one_acceptance : (wanted : Wanted) (named system : NamedSystem) (says told : ProofText) (s other : Status) (text defined : List ℕ)
      → IsAcceptedAs problem certificate named says → IsAcceptedAs problem certificate system told → IsWritten named says wanted s text
      → IsWritten system told wanted other defined → IsOr other s
  one_acceptance wanted named system says told s other text defined a b w v =
      let same : (named ≡ system) × (says ≡ told) = said_once problem certificate named system says told a b in
      one_text system told wanted s other text defined
      (subst (λ x. IsWritten system x wanted s text) same.1 (subst (λ x. IsWritten x says wanted s text) same.0 w)) v

  pub one_verdict : (wanted : Wanted) (s other : Status) (text defined : List ℕ) → Verdict problem certificate wanted s text
      → Verdict problem certificate wanted other defined → IsOr other s
  one_verdict wanted s other text defined (refused f h m) (refused g k n) = refl
  one_verdict wanted s other text defined (refused f h m) (rejected r k p n) =
      absurd (p f (one_rejection problem certificate r (why.Problem f) k (problem_is_why problem certificate f h m) n (λ e. cc)))
  one_verdict wanted s other text defined (refused f h m) (accepted named says a w) = absurd (not_refused named says f a h m)
  one_verdict wanted s other text defined (rejected r h p m) (refused g k n) =
      absurd (p g (one_rejection problem certificate r (why.Problem g) h (problem_is_why problem certificate g k n) m (λ e. cc)))
  one_verdict wanted s other text defined (rejected r h p m) (rejected q k o n) = refl
  one_verdict wanted s other text defined (rejected r h p m) (accepted named says a w) = absurd (not_rejected named says r a h m)
  one_verdict wanted s other text defined (accepted named says a w) (refused g k n) = absurd (not_refused named says g a k n)
  one_verdict wanted s other text defined (accepted named says a w) (rejected q k o n) = absurd (not_rejected named says q a k n)
  one_verdict wanted s other text defined (accepted named says a w) (accepted system told b v) =
      one_acceptance wanted named system says told s other text defined a b w v

-- ---- texts that are told

-- a text that is told is the one that may be there
pub told_is : (shelf : ShelfMeaning) (name v t : List ℕ) → MayBe shelf name v → Told shelf name t → v ≡ t
told_is shelf name v t may_be told = subst (λ o. CanBe o v) told may_be

pub not_long : (limit : ℕ) (shelf : ShelfMeaning) (name t : List ℕ) → Told shelf name t → length t ≤ limit → MayPass limit shelf name → ⊥
not_long limit shelf name t told within passes =
    let long : limit < length t = subst (CanPass limit) told passes in omega arith

pub too_long_within : (limit : ℕ) (shelf : ShelfMeaning) (name v : List ℕ) → MayBe shelf name v → length v ≤ limit → IsTooLong limit (Told shelf) name → ⊥
too_long_within limit shelf name v may_be within (t, told, long) =
    let is : v ≡ t = told_is shelf name v t may_be told in
    let size : limit < length v = subst (λ z. limit < length z) (sym is) long in omega arith

-- what is asked for has one pair of names, and one thing is wanted
record IsSameAsked (wanted other : Wanted) (p q c d : List ℕ) : Type 0 where
  wants : wanted ≡ other
  problems : p ≡ q
  certificates : c ≡ d

same_asked : (wanted other : Wanted) (p q c d : List ℕ) → Some (certifies wanted p c) ≡ Some (certifies other q d) → IsSameAsked wanted other p q c d
same_asked wanted other p q c d e = let same : certifies wanted p c ≡ certifies other q d = cc in record { wants = cc; problems = cc; certificates = cc }

module _ (shelf : ShelfMeaning) (wanted : Wanted) (p c : List ℕ) where
  abbrev Request : Option Asked
  Request = Some (certifies wanted p c)

  asked_of : (other : Wanted) (problem certificate : List ℕ) → (f : AreFetched Request other (Told shelf) problem certificate)
      → IsSameAsked wanted other p f.problem_name c f.certificate_name
  asked_of other problem certificate f = same_asked wanted other p f.problem_name c f.certificate_name f.asked

  under_first : (other : Wanted) (problem certificate : List ℕ) → AreFetched Request other (Told shelf) problem certificate → Told shelf p problem
  under_first other problem certificate f = subst (λ q. Told shelf q problem) (sym (asked_of other problem certificate f).problems) f.problem_under

  under_second : (other : Wanted) (problem certificate : List ℕ) → AreFetched Request other (Told shelf) problem certificate → Told shelf c certificate
  under_second other problem certificate f = subst (λ q. Told shelf q certificate) (sym (asked_of other problem certificate f).certificates) f.certificate_under

  -- where a text is too long, no other answer is defined
  pub long_only : MayPass most_problem_bytes shelf p ⊎ MayPass most_certificate_bytes shelf c → AnswersOnly Request shelf status.TooLong
  long_only h s text (usage none) = absurd cc
  long_only h s text (too_long name limit needed long) = refl
  long_only h s text (answered question budget problem f conclusion) = let asks : Some (certifies wanted p c) ≡ Some (proves question f.name f.workers budget) = f.asked in absurd cc
  long_only h s text (completed budget problem order f completion) = let asks : Some (certifies wanted p c) ≡ Some (completes f.problem_name f.order_name budget) = f.asked in absurd cc
  long_only h s text (sampled size workers budget asks line) = absurd cc
  long_only (inl h) s text (decided other problem certificate f verdict) =
      absurd (not_long most_problem_bytes shelf p problem (under_first other problem certificate f) f.problem_size h)
  long_only (inr h) s text (decided other problem certificate f verdict) =
      absurd (not_long most_certificate_bytes shelf c certificate (under_second other problem certificate f) f.certificate_size h)

  -- where a text could not be fetched
  pub unfetched_only : (name : List ℕ) (fault : FetchFault) (s : Status) (text : List ℕ) → IsUnfetched fault name s text
      → (fault ≡ fetch.TooLong → MayPass most_problem_bytes shelf p ⊎ MayPass most_certificate_bytes shelf c) → AnswersOnly Request shelf s
  unfetched_only name fetch.TooLong s text (e, is) passes = subst (AnswersOnly Request shelf) (sym e) (long_only (passes refl))
  unfetched_only name fetch.Failed s text (e, is) passes = subst (AnswersOnly Request shelf) (sym e) (λ other defined o. tt)
  unfetched_only name fetch.OutOfMemory s text h passes = absurd h

  module _ (v w : List ℕ) (first : MayBe shelf p v) (second : MayBe shelf c w) (first_size : length v ≤ most_problem_bytes) (second_size : length w ≤ most_certificate_bytes) where
    not_too_long : (name : List ℕ) (limit : ℕ) → IsNeeded Request (IsWithin most_problem_bytes (Told shelf)) name limit → IsTooLong limit (Told shelf) name → ⊥
    not_too_long name limit (as_problem other q d e) long =
        too_long_within most_problem_bytes shelf p v first first_size
        (subst (λ z. IsTooLong most_problem_bytes (Told shelf) z) (sym (same_asked wanted other p q c d e).problems) long)
    not_too_long name limit (as_certificate other q d e within) long =
        too_long_within most_certificate_bytes shelf c w second second_size
        (subst (λ z. IsTooLong most_certificate_bytes (Told shelf) z) (sym (same_asked wanted other p q c d e).certificates) long)
    not_too_long name limit (as_question question q workers budget e) long = absurd cc
    not_too_long name limit (as_equations q d budget e) long = absurd cc
    not_too_long name limit (as_order q d budget e within) long = absurd cc

    -- the verdict for two texts is the defined one
    pub verdict_only : (s : Status) (text : List ℕ) → Verdict v w wanted s text → AnswersOnly Request shelf s
    verdict_only s text verdict other defined (usage none) = absurd cc
    verdict_only s text verdict other defined (too_long name limit needed long) = absurd (not_too_long name limit needed long)
    verdict_only s text verdict other defined (answered question budget problem f conclusion) = let asks : Some (certifies wanted p c) ≡ Some (proves question f.name f.workers budget) = f.asked in absurd cc
    verdict_only s text verdict other defined (completed budget problem order f completion) = let asks : Some (certifies wanted p c) ≡ Some (completes f.problem_name f.order_name budget) = f.asked in absurd cc
    verdict_only s text verdict other defined (sampled size workers budget asks line) = absurd cc
    verdict_only s text verdict other defined (decided asked problem certificate f found) =
        let is_first : v ≡ problem = told_is shelf p v problem first (under_first asked problem certificate f) in
        let is_second : w ≡ certificate = told_is shelf c w certificate second (under_second asked problem certificate f) in
        let is_wanted : wanted ≡ asked = (asked_of asked problem certificate f).wants in
        one_verdict v w wanted s other text defined verdict
        (subst (λ z. Verdict v z wanted other defined) (sym is_second) (subst (λ z. Verdict z certificate wanted other defined) (sym is_first)
        (subst (λ z. Verdict problem certificate z other defined) (sym is_wanted) found)))
