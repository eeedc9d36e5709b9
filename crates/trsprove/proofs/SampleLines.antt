-- Samples: what is answered, and that it is the only answer.
use Rattle.std.proofs.Common.{◌≡◌, inl, ℕ, List, Option, Some, Result, Ok, Err, IfOk, refl, sym, subst}
use Rattle.std.proofs.lemmas.Result.{IfOk-weaker}
use Rattle.io_edge.specs.Shelf.{ShelfMeaning, Told}
use Rattle.command_line.specs.Request.{Asked, certifies, proves, completes, samples}
use Rattle.program_edge.specs.declared.status.Status.{Status}
use Rattle.program_edge.specs.declared.status.Status.TheVariants as status
use Rattle.trsprove.specs.declared.answer.Answer.{Answer}
use Rattle.trsprove.specs.Answers.{status_of, text_of}
use Rattle.trsprove.specs.Answered.{IsAnswered}
use Rattle.trsprove.specs.Workers.{IsSampledBy}
use Rattle.trsprove.specs.Output.{usage, too_long, decided, answered, completed, sampled, IsNeeded, as_problem, as_certificate, as_question, as_equations, as_order, IsWithin, IsAnswer, AnswersOnly}
use Rattle.program_edge.specs.Fetching.{most_problem_bytes}
use Rattle.io_edge.proofs.AskingAgain.{untouched_again}

module _ (request : Option Asked) (size workers budget : ℕ) (asks : request ≡ Some (samples size workers budget)) where
  -- the line is the answer
  line_answers : (before now : ShelfMeaning) (s : Status) (line : List ℕ) → s ≡ status.Answered → IsSampledBy workers size budget line → IsAnswer request before now s line
  line_answers before now s line is h = subst (λ x. IsAnswer request before now x line) (sym is) (sampled size workers budget asks h)

  needs_none : (is_fetched : List ℕ → Type 0) (name : List ℕ) (limit : ℕ) → IsNeeded request is_fetched name limit → ⊥
  needs_none is_fetched name limit (as_problem wanted problem certificate e) = absurd cc
  needs_none is_fetched name limit (as_certificate wanted problem certificate e within) = absurd cc
  needs_none is_fetched name limit (as_question question problem hands bound e) = absurd cc
  needs_none is_fetched name limit (as_equations problem order bound e) = absurd cc
  needs_none is_fetched name limit (as_order problem order bound e within) = absurd cc

  only_answered : (shelf : ShelfMeaning) → AnswersOnly request shelf status.Answered
  only_answered shelf s text (usage none) = absurd cc
  only_answered shelf s text (too_long name limit needed long) = absurd (needs_none (IsWithin most_problem_bytes (Told shelf)) name limit needed)
  only_answered shelf s text (decided wanted problem certificate f verdict) = let other : request ≡ Some (certifies wanted f.problem_name f.certificate_name) = f.asked in absurd cc
  only_answered shelf s text (answered question bound problem f conclusion) = let other : request ≡ Some (proves question f.name f.workers bound) = f.asked in absurd cc
  only_answered shelf s text (completed bound problem order f completion) = let other : request ≡ Some (completes f.problem_name f.order_name bound) = f.asked in absurd cc
  only_answered shelf s text (sampled other hands bound e line) = refl

  -- no other answer is defined
  line_only : (shelf : ShelfMeaning) (s : Status) → s ≡ status.Answered → AnswersOnly request shelf s
  line_only shelf s is = subst (AnswersOnly request shelf) (sym is) (only_answered shelf)

-- what is known twice of an answer that is there
for_both_ok : {X E : Type 0} (fact other goal : X → Type 0) (r : Result X E) → ((x : X) → fact x → other x → goal x) → IfOk r fact → IfOk r other → IfOk r goal
for_both_ok fact other goal (Ok x) more h k = more x h k
for_both_ok fact other goal (Err e) more h k = tt

-- what is known of the answer, which needs no shelf
pub known_of_line : {E : Type 0} (request : Option Asked) (size workers budget : ℕ) (shelf : ShelfMeaning) (r : Result Answer E) → request ≡ Some (samples size workers budget)
    → IfOk r (λ a. status_of a ≡ status.Answered) → IfOk r (λ a. IsSampledBy workers size budget (text_of a)) → IsAnswered request shelf shelf r
known_of_line request size workers budget shelf r asks is line = record {
  answer = for_both_ok (λ a. status_of a ≡ status.Answered) (λ a. IsSampledBy workers size budget (text_of a)) (λ a. IsAnswer request shelf shelf (status_of a) (text_of a)) r
      (λ a. line_answers request size workers budget asks shelf shelf (status_of a) (text_of a)) is line;
  only = IfOk-weaker r (λ a. status_of a ≡ status.Answered) (λ a. AnswersOnly request shelf (status_of a))
      (λ a. line_only request size workers budget asks shelf (status_of a)) is;
  untouched = λ name. inl (refl, refl);
  again = untouched_again shelf;
}
