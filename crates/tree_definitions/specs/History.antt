-- The history of a proof tree.
use Rattle.std.specs.Prelude.{◌≡◌, ◌+◌, ◌<◌, ◌≤◌, ℕ, eqb, cond, List, [], ◌∷◌}
use Rattle.trs_defs.specs.Member.{In}
use Rattle.strategies.specs.cert_step.ProofProblem.{ProofProblem}
use Rattle.strategies.specs.cert_step.ProofStep.{ProofStep}
use Rattle.strategies.specs.declared.failure.Failure.{Failure}
use Rattle.strategies.specs.declared.strategy.Strategy.{Strategy}

-- what became of a ticket: it was given for a strategy of a problem, or it ended
pub data Event : Type 0 where
  claimed : (problem : ProofProblem) (strategy : Strategy) → Event
  found : (step : ProofStep) → Event
  failed : (failure : Failure) → Event
  cancelled : Event
  aborted : Event

-- an entry of the history: the seat that claimed the ticket, the ticket, and what became of it
pub record HistoryEntry : Type 0 where
  pub seat : ℕ
  pub ticket : ℕ
  pub event : Event

-- how many of the entries are about the ticket
abbrev pub mentions : ℕ → List HistoryEntry → ℕ
mentions t [] = 0
mentions t (e ∷ es) = cond (eqb e.ticket t) 1 0 + mentions t es

-- of the entries of this seat alone
abbrev pub of_seat : ℕ → List HistoryEntry → List HistoryEntry
of_seat seat [] = []
of_seat seat (e ∷ es) = cond (eqb e.seat seat) (e ∷ of_seat seat es) (of_seat seat es)

-- The ticket is running: just one entry is about it, its claim, and none ends it.
abbrev pub Runs : ℕ → List HistoryEntry → Type 0
Runs t history = mentions t history ≡ 1

-- all entries about a ticket are of one seat
abbrev pub IsOwned : List HistoryEntry → Type 0
IsOwned history = (t seat : ℕ) → 0 < mentions t (of_seat seat history) → mentions t history ≡ mentions t (of_seat seat history)

-- no entry is about a ticket from this one on
abbrev pub IsFresh : ℕ → List HistoryEntry → Type 0
IsFresh bound history = (t : ℕ) → bound ≤ t → mentions t history ≡ 0

-- under the ticket the seat was given this strategy of this problem
abbrev pub IsGiven : List HistoryEntry → (seat ticket : ℕ) → ProofProblem → Strategy → Type 0
IsGiven history seat ticket problem strategy =
    In (record { seat = seat; ticket = ticket; event = claimed problem strategy }) history
