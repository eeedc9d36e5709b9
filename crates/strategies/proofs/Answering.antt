-- What finders answer is what the searches of strategies answer.
use Rattle.std.specs.Prelude.{ℕ, List, [], Result, Ok, Err, IfOk}
use Rattle.trs_defs.specs.System.{System}
use Rattle.trs_core.specs.declared.memory.OutOfMemory.{OutOfMemory}
use Rattle.assign_search.specs.declared.search.Search.{Search}
use Rattle.assign_search.specs.declared.search.Search.TheVariants as search
use Rattle.rewrite_core.specs.PlacedPeak.{PlacedPeak}
use Rattle.order_find.specs.order_search.Outcome.{IsFinding}
use Rattle.conf_find.specs.join_find.Answers as peaks
use Rattle.conf_find.specs.label_find.declared.label.Labelled.{Labelled}
use Rattle.conf_find.specs.label_find.LabelRow.{FindsLabel, FailsLabel, SpendsLabel}
use Rattle.conf_find.specs.label_find.LabelAnswers.{IsLabelling}
use Rattle.cert_step.specs.ProofProblem as problem
use Rattle.cert_step.specs.ProofProblem.{ProofProblem}
use Rattle.cert_step.specs.ProofStep.{ProofStep, label}
use Rattle.strategies.specs.declared.failure.Failure.TheVariants.{NotThere, Spent}
use Rattle.strategies.specs.declared.strategy.Strategy.{Strategy}
use Rattle.strategies.specs.declared.strategy.Strategy.TheVariants as strategy
use Rattle.strategies.specs.Conditions.{Fails}
use Rattle.strategies.specs.Runs.{Found, found}
use Rattle.strategies.specs.Truth.{IsTrueFound}
use Rattle.strategies.specs.Endings.{FindsStep, IsSearchFor}

-- of a finder of orders or projections
pub answers_for_pairs : {A : Type 0} (result : Result (Search A) OutOfMemory) (system : System) (budget : ℕ) (s : Strategy) (p : ProofProblem)
    (finds : A → Type 0) (step : A → ProofStep) (none spent rose : Type 0)
    → ((a : A) → finds a → FindsStep system budget s p (step a)) → (none → Fails system budget s p NotThere) → (spent → Fails system budget s p Spent)
    → IfOk result (IsFinding finds none spent rose) → IfOk result (IsSearchFor system budget s p (λ a. FindsStep system budget s p (step a)) rose)
answers_for_pairs (Ok (search.Found a)) system budget s p finds step none spent rose there not_there all_spent h = there a h
answers_for_pairs (Ok search.NotThere) system budget s p finds step none spent rose there not_there all_spent h = not_there h
answers_for_pairs (Ok search.Spent) system budget s p finds step none spent rose there not_there all_spent h = all_spent h
answers_for_pairs (Ok search.Stopped) system budget s p finds step none spent rose there not_there all_spent h = h
answers_for_pairs (Err fault) system budget s p finds step none spent rose there not_there all_spent h = tt

-- of a finder over peaks that has no budget
pub answers_for_peaks : {A : Type 0} (result : Result (Search A) OutOfMemory) (system : System) (budget : ℕ) (s : Strategy) (p : ProofProblem)
    (finds : A → Type 0) (answer : A → Found) (none rose : Type 0)
    → ((a : A) → finds a → IsTrueFound system budget s p (answer a)) → (none → Fails system budget s p NotThere)
    → IfOk result (peaks.IsFinding finds none rose) → IfOk result (IsSearchFor system budget s p (λ a. IsTrueFound system budget s p (answer a)) rose)
answers_for_peaks (Ok (search.Found a)) system budget s p finds answer none rose there not_there h = there a h
answers_for_peaks (Ok search.NotThere) system budget s p finds answer none rose there not_there h = not_there h
answers_for_peaks (Ok search.Spent) system budget s p finds answer none rose there not_there h = absurd h
answers_for_peaks (Ok search.Stopped) system budget s p finds answer none rose there not_there h = h
answers_for_peaks (Err fault) system budget s p finds answer none rose there not_there h = tt

-- of the finder of ranks
pub answers_for_label : (result : Result (Search Labelled) OutOfMemory) (system : System) (peaks : List PlacedPeak) (budget : ℕ) (rose : Type 0)
    → ((a : Labelled) → FindsLabel system.rules peaks budget a.ranks.items a.joins.items
    → IsTrueFound system budget strategy.Label problem.cr (found (label a.ranks.items a.joins.items) []))
    → (FailsLabel system.rules peaks budget → Fails system budget strategy.Label problem.cr NotThere)
    → (SpendsLabel system.rules peaks budget → Fails system budget strategy.Label problem.cr Spent)
    → IfOk result (IsLabelling system.rules peaks budget rose)
    → IfOk result (IsSearchFor system budget strategy.Label problem.cr
    (λ a. IsTrueFound system budget strategy.Label problem.cr (found (label a.ranks.items a.joins.items) [])) rose)
answers_for_label (Ok (search.Found a)) system peaks budget rose there not_there all_spent h = there a h
answers_for_label (Ok search.NotThere) system peaks budget rose there not_there all_spent h = not_there h
answers_for_label (Ok search.Spent) system peaks budget rose there not_there all_spent h = all_spent h
answers_for_label (Ok search.Stopped) system peaks budget rose there not_there all_spent h = h
answers_for_label (Err fault) system peaks budget rose there not_there all_spent h = tt
