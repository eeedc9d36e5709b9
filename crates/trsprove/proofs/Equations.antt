-- Completion: what is answered, and that it is the only answer.
use Rattle.std.proofs.Common.{◌≡◌, ◌≢◌, ◌≤◌, ◌⊎◌, inl, inr, ℕ, List, length, Option, Some, refl, sym, subst, ◌∙◌}
use Rattle.io_edge.specs.Shelf.{ShelfMeaning, Told, MayBe, MayPass, TellsTheSame, CountsRise, FaultRose, ReadPast, IsUntouched}
use Rattle.io_edge.specs.declared.fault.FetchFault.{FetchFault}
use Rattle.io_edge.specs.declared.fault.FetchFault.TheVariants as fetch
use Rattle.io_edge.proofs.Counting.{same_or_not}
use Rattle.ari_text.proofs.OneSystem as ari_text
use Rattle.ari_text.proofs.OneSystem.{one_system}
use Rattle.program_edge.specs.names_text.Named.{NamedSystem}
use Rattle.command_line.specs.Request.{Asked, certifies, proves, completes}
use Rattle.completion_text.specs.OrderText.{IsOrderRefused}
use Rattle.completion_text.specs.declared.refused.OrderRefused.TheVariants.{At}
use Rattle.completion_text.proofs.OneOrder as order_text
use Rattle.completion_text.specs.Answers.{IsCompleted}
use Rattle.program_edge.specs.declared.status.Status.{Status}
use Rattle.program_edge.specs.declared.status.Status.TheVariants as status
use Rattle.program_edge.specs.Fetching.{most_problem_bytes, IsUnfetched}
use Rattle.trsprove.specs.Completions.{IsCompletion, no_equations, no_order, ended, most_order_bytes}
use Rattle.program_edge.specs.Running.{IsOr}
use Rattle.trsprove.specs.Output.{AreEquations, Output, usage, too_long, decided, answered, completed, sampled, IsNeeded, as_problem, as_certificate, as_question, as_equations, as_order, IsWithin, IsTooLong, WasFetched, IsAnswer, AnswersOnly, TouchesOnlyNeeded}
use Rattle.trsprove.proofs.Fetching.{may_be_before, was_fetched, IsFault, IsLong}
use Rattle.trsprove.proofs.Answering.{told_is, not_long, too_long_within}

-- ---- what is answered

answer_of : (request : Option Asked) (before now : ShelfMeaning) (v w : List ℕ) (budget : ℕ) (s : Status) (text : List ℕ) → IsCompletion v w budget s text
    → Output request (MayBe before) s text → IsAnswer request before now s text
answer_of request before now v w budget s text (no_equations fault h m) o = o
answer_of request before now v w budget s text (no_order named at says h) o = o
answer_of request before now v w budget s text (ended named says c) o = o

-- the text for two texts
pub fetched_completion : (p c : List ℕ) (budget : ℕ) (v w : List ℕ) (before middle now : ShelfMeaning) (s : Status) (text : List ℕ) → MayBe before p v → length v ≤ most_problem_bytes
    → TellsTheSame before middle → MayBe middle c w → length w ≤ most_order_bytes → IsCompletion v w budget s text → IsAnswer (Some (completes p c budget)) before now s text
fetched_completion p c budget v w before middle now s text first first_size same second second_size h =
    answer_of (Some (completes p c budget)) before now v w budget s text h (completed budget v w fetched h)
  where
    fetched : AreEquations (Some (completes p c budget)) budget (MayBe before) v w
    fetched = record { problem_name = p; order_name = c; asked = refl; problem_under = first; order_under = may_be_before before middle c w same second; problem_size = first_size; order_size = second_size }

-- ---- one status for two texts

order_not_both : (problem order : List ℕ) (budget : ℕ) (named system : NamedSystem) (at : ℕ) (text : List ℕ) → named ≡ system → IsOrderRefused named order (At at)
    → IsCompleted system order budget text → ⊥
order_not_both problem order budget named system at text same refused c =
    order_text.no_refusal system order c.order at c.says (subst (λ n. IsOrderRefused n order (At at)) same refused)

one_completion : (problem order : List ℕ) (budget : ℕ) (s other : Status) (text defined : List ℕ) → IsCompletion problem order budget s text
    → IsCompletion problem order budget other defined → s ≡ other
one_completion problem order budget s other text defined (no_equations f h m) (no_equations g k n) = refl
one_completion problem order budget s other text defined (no_equations f h m) (no_order named at says k) = refl
one_completion problem order budget s other text defined (no_equations f h m) (ended named says c) = absurd (m (ari_text.no_refusal problem named f says h))
one_completion problem order budget s other text defined (no_order named at says h) (no_equations g k n) = refl
one_completion problem order budget s other text defined (no_order named at says h) (no_order system place told k) = refl
one_completion problem order budget s other text defined (no_order named at says h) (ended system told c) =
    absurd (order_not_both problem order budget named system at defined (one_system problem named system says told) h c)
one_completion problem order budget s other text defined (ended named says c) (no_equations g k n) = absurd (n (ari_text.no_refusal problem named g says k))
one_completion problem order budget s other text defined (ended named says c) (no_order system place told k) =
    absurd (order_not_both problem order budget system named place text (one_system problem system named told says) k c)
one_completion problem order budget s other text defined (ended named says c) (ended system told d) = refl

-- the status of an answer is no fault, so that no other is possible
or_same : (problem order : List ℕ) (budget : ℕ) (s other : Status) (text : List ℕ) → IsCompletion problem order budget s text → s ≡ other → IsOr other s
or_same problem order budget s other text (no_equations fault h m) e = e
or_same problem order budget s other text (no_order named at says h) e = e
or_same problem order budget s other text (ended named says c) e = e

-- ---- texts that are told

-- what is asked for has one pair of names, and one budget
record IsSameAsked (p q c d : List ℕ) (budget limit : ℕ) : Type 0 where
  problems : p ≡ q
  orders : c ≡ d
  budgets : budget ≡ limit

same_asked : (p q c d : List ℕ) (budget limit : ℕ) → Some (completes p c budget) ≡ Some (completes q d limit) → IsSameAsked p q c d budget limit
same_asked p q c d budget limit e = let same : completes p c budget ≡ completes q d limit = cc in record { problems = cc; orders = cc; budgets = cc }

module _ (shelf : ShelfMeaning) (p c : List ℕ) (budget : ℕ) where
  abbrev Request : Option Asked
  Request = Some (completes p c budget)

  asked_of : (limit : ℕ) (problem order : List ℕ) → (f : AreEquations Request limit (Told shelf) problem order) → IsSameAsked p f.problem_name c f.order_name budget limit
  asked_of limit problem order f = same_asked p f.problem_name c f.order_name budget limit f.asked

  under_first : (limit : ℕ) (problem order : List ℕ) → AreEquations Request limit (Told shelf) problem order → Told shelf p problem
  under_first limit problem order f = subst (λ q. Told shelf q problem) (sym (asked_of limit problem order f).problems) f.problem_under

  under_second : (limit : ℕ) (problem order : List ℕ) → AreEquations Request limit (Told shelf) problem order → Told shelf c order
  under_second limit problem order f = subst (λ q. Told shelf q order) (sym (asked_of limit problem order f).orders) f.order_under

  -- where a text is too long, no other answer is defined
  long_only : MayPass most_problem_bytes shelf p ⊎ MayPass most_order_bytes shelf c → AnswersOnly Request shelf status.TooLong
  long_only h s text (usage none) = absurd cc
  long_only h s text (too_long name limit needed long) = refl
  long_only h s text (decided wanted problem certificate f verdict) = let asks : Some (completes p c budget) ≡ Some (certifies wanted f.problem_name f.certificate_name) = f.asked in absurd cc
  long_only h s text (answered question bound problem f conclusion) = let asks : Some (completes p c budget) ≡ Some (proves question f.name f.workers bound) = f.asked in absurd cc
  long_only h s text (sampled size workers bound asks line) = absurd cc
  long_only (inl h) s text (completed limit problem order f completion) =
      absurd (not_long most_problem_bytes shelf p problem (under_first limit problem order f) f.problem_size h)
  long_only (inr h) s text (completed limit problem order f completion) =
      absurd (not_long most_order_bytes shelf c order (under_second limit problem order f) f.order_size h)

  -- where a text could not be fetched
  pub unfetched_only : (name : List ℕ) (fault : FetchFault) (s : Status) (text : List ℕ) → IsUnfetched fault name s text
      → (fault ≡ fetch.TooLong → MayPass most_problem_bytes shelf p ⊎ MayPass most_order_bytes shelf c) → AnswersOnly Request shelf s
  unfetched_only name fetch.TooLong s text (e, is) passes = subst (AnswersOnly Request shelf) (sym e) (long_only (passes refl))
  unfetched_only name fetch.Failed s text (e, is) passes = subst (AnswersOnly Request shelf) (sym e) (λ other defined o. tt)
  unfetched_only name fetch.OutOfMemory s text h passes = absurd h

  module _ (v w : List ℕ) (first : MayBe shelf p v) (second : MayBe shelf c w) (first_size : length v ≤ most_problem_bytes) (second_size : length w ≤ most_order_bytes) where
    not_too_long : (name : List ℕ) (limit : ℕ) → IsNeeded Request (IsWithin most_problem_bytes (Told shelf)) name limit → IsTooLong limit (Told shelf) name → ⊥
    not_too_long name limit (as_problem wanted q d e) long = absurd cc
    not_too_long name limit (as_certificate wanted q d e within) long = absurd cc
    not_too_long name limit (as_question question q workers bound e) long = absurd cc
    not_too_long name limit (as_equations q d bound e) long =
        too_long_within most_problem_bytes shelf p v first first_size
        (subst (λ z. IsTooLong most_problem_bytes (Told shelf) z) (sym (same_asked p q c d budget bound e).problems) long)
    not_too_long name limit (as_order q d bound e within) long =
        too_long_within most_order_bytes shelf c w second second_size
        (subst (λ z. IsTooLong most_order_bytes (Told shelf) z) (sym (same_asked p q c d budget bound e).orders) long)

    -- the answer for two texts is the defined one
    pub completion_only : (s : Status) (text : List ℕ) → IsCompletion v w budget s text → AnswersOnly Request shelf s
    completion_only s text h other defined (usage none) = absurd cc
    completion_only s text h other defined (too_long name limit needed long) = absurd (not_too_long name limit needed long)
    completion_only s text h other defined (decided wanted problem certificate f verdict) = let asks : Some (completes p c budget) ≡ Some (certifies wanted f.problem_name f.certificate_name) = f.asked in absurd cc
    completion_only s text h other defined (answered question bound problem f conclusion) = let asks : Some (completes p c budget) ≡ Some (proves question f.name f.workers bound) = f.asked in absurd cc
    completion_only s text h other defined (sampled size workers bound asks line) = absurd cc
    completion_only s text h other defined (completed limit problem order f found) =
        let is_first : v ≡ problem = told_is shelf p v problem first (under_first limit problem order f) in
        let is_second : w ≡ order = told_is shelf c w order second (under_second limit problem order f) in
        let is_budget : budget ≡ limit = (asked_of limit problem order f).budgets in
        or_same v w budget s other text h
        (one_completion v w budget s other text defined h
        (subst (λ z. IsCompletion v z budget other defined) (sym is_second) (subst (λ z. IsCompletion z order budget other defined) (sym is_first)
        (subst (λ z. IsCompletion problem order z other defined) (sym is_budget) found))))

-- ---- names that are touched

-- the text under a name is needed, with some limit
abbrev IsNeededOnce : List ℕ → List ℕ → ℕ → ShelfMeaning → ShelfMeaning → List ℕ → Type 0
IsNeededOnce p c budget before now name = (limit : ℕ) × IsNeeded (Some (completes p c budget)) (WasFetched before now) name limit

-- after one fetch only the counts of the problem's name may have changed
pub touched_first : (p c : List ℕ) (budget : ℕ) (before now : ShelfMeaning) → CountsRise before.faults now.faults p → CountsRise before.bytes now.bytes p
    → TouchesOnlyNeeded (Some (completes p c budget)) before now
touched_first p c budget before now faults bytes name = go (same_or_not name p)
  where
    go : (name ≡ p) ⊎ (name ≢ p) → IsUntouched before now name ⊎ IsNeededOnce p c budget before now name
    go (inl e) = inr (subst (IsNeededOnce p c budget before now) (sym e) (most_problem_bytes, as_equations p c budget refl))
    go (inr ne) = inl (faults.others name ne, bytes.others name ne)

-- a text of the problem was fetched, and then the order was asked for
module _ (p c : List ℕ) (budget : ℕ) (text : List ℕ) (before middle now : ShelfMeaning) (may_be : MayBe before p text) (bound : length text ≤ most_problem_bytes)
    (same : (q : List ℕ) → middle.faults q ≡ before.faults q) where
  needed_order : now.faults p ≡ middle.faults p → IsNeeded (Some (completes p c budget)) (WasFetched before now) c most_order_bytes
  needed_order kept = as_order p c budget refl (was_fetched p text before middle now may_be bound same kept)

  -- it is too long
  pub second_long : ((q : List ℕ) → now.faults q ≡ middle.faults q) → MayPass most_order_bytes before c → ReadPast most_order_bytes before now c
      → IsLong (Some (completes p c budget)) before now c
  second_long kept passes read = (most_order_bytes, needed_order (kept p), passes, read)

  module _ (faults : CountsRise middle.faults now.faults c) where
    needed_second : (p ≡ c) ⊎ (p ≢ c) → IsNeededOnce p c budget before now c
    needed_second (inl e) = subst (IsNeededOnce p c budget before now) e (most_problem_bytes, as_equations p c budget refl)
    needed_second (inr ne) = (most_order_bytes, needed_order (faults.others p ne))

    -- a fault came
    pub second_fault : FaultRose before now c → IsFault (Some (completes p c budget)) before now c
    second_fault rose = let (limit, needed) = needed_second (same_or_not p c) in (limit, needed, rose)

    pub touched_both : CountsRise before.bytes middle.bytes p → CountsRise middle.bytes now.bytes c → TouchesOnlyNeeded (Some (completes p c budget)) before now
    touched_both first second name = go (same_or_not name p) (same_or_not name c)
      where
        go : (name ≡ p) ⊎ (name ≢ p) → (name ≡ c) ⊎ (name ≢ c) → IsUntouched before now name ⊎ IsNeededOnce p c budget before now name
        go (inl e) other = inr (subst (IsNeededOnce p c budget before now) (sym e) (most_problem_bytes, as_equations p c budget refl))
        go (inr ne) (inl e) = inr (subst (IsNeededOnce p c budget before now) (sym e) (most_order_bytes, needed_order (faults.others p (λ k. ne (e ∙ sym k)))))
        go (inr ne) (inr other) = inl (faults.others name other ∙ same name, second.others name other ∙ first.others name ne)
