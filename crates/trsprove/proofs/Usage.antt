-- Words that ask for nothing: what is answered, and that it is the only answer.
use Rattle.std.proofs.Common.{◌≡◌, inl, ℕ, List, Option, Some, None, Ok, refl, sym, ◌∙◌}
use Rattle.io_edge.specs.Shelf.{ShelfMeaning, Told}
use Rattle.command_line.specs.Request.{Asked, certifies, proves, completes, samples}
use Rattle.program_edge.specs.declared.status.Status.TheVariants as status
use Rattle.program_edge.specs.Fetching.{most_problem_bytes}
use Rattle.trsprove.specs.declared.answer.Answer.TheVariants as answer
use Rattle.trsprove.specs.Answered.{IsAnswered}
use Rattle.trsprove.specs.Output.{usage, too_long, decided, answered, completed, sampled, IsNeeded, as_problem, as_certificate, as_question, as_equations, as_order, IsWithin, AnswersOnly}
use Rattle.io_edge.proofs.AskingAgain.{untouched_again}

module _ (request : Option Asked) (shelf : ShelfMeaning) (none : request ≡ None) where
  not_asked : (asked : Asked) → request ≡ Some asked → ⊥
  not_asked asked e = let both : Some asked ≡ None = sym e ∙ none in absurd cc

  not_needed : (is_fetched : List ℕ → Type 0) (name : List ℕ) (limit : ℕ) → IsNeeded request is_fetched name limit → ⊥
  not_needed is_fetched name limit (as_problem wanted problem certificate e) = not_asked (certifies wanted problem certificate) e
  not_needed is_fetched name limit (as_certificate wanted problem certificate e within) = not_asked (certifies wanted problem certificate) e
  not_needed is_fetched name limit (as_question question problem workers budget e) = not_asked (proves question problem workers budget) e
  not_needed is_fetched name limit (as_equations problem order budget e) = not_asked (completes problem order budget) e
  not_needed is_fetched name limit (as_order problem order budget e within) = not_asked (completes problem order budget) e

  usage_only : AnswersOnly request shelf status.Usage
  usage_only s text (usage e) = refl
  usage_only s text (too_long name limit needed long) = absurd (not_needed (IsWithin most_problem_bytes (Told shelf)) name limit needed)
  usage_only s text (decided wanted problem certificate f verdict) = absurd (not_asked (certifies wanted f.problem_name f.certificate_name) f.asked)
  usage_only s text (answered question budget problem f conclusion) = absurd (not_asked (proves question f.name f.workers budget) f.asked)
  usage_only s text (completed budget problem order f completion) = absurd (not_asked (completes f.problem_name f.order_name budget) f.asked)
  usage_only s text (sampled size workers budget e line) = absurd (not_asked (samples size workers budget) e)

  pub known_of_usage : {E : Type 0} → IsAnswered {E = E} request shelf shelf (Ok answer.Usage)
  known_of_usage = record { answer = usage none; only = usage_only; untouched = λ name. inl (refl, refl); again = untouched_again shelf }
