-- What is held stays held when other tickets are given or end.
use Rattle.std.proofs.Common.{◌≡◌, ◌≢◌, ◌⊎◌, inl, inr, ℕ, zero, suc, ◌≤◌, List, [], ◌∷◌, ◌++◌, length, Option, Some, None, Result, Ok, Err, slice_get, slice_set, refl, sym, ap, ◌∙◌, subst, arith}
use Rattle.std.specs.Prelude.{OnOk, OnErr, IfOk, IfSome}
use native.Mathlib.Decide.{ℕ_discrete}
use mathlib.Core.Logic.{dite}
use Rattle.trs_defs.specs.System.{System}
use Rattle.trs_defs.specs.Member.{In, in_first}
use Rattle.trs_defs.proofs.Members.{in_right}
use Rattle.worker_pool.specs.tree_core.cert_step.ProofProblem.{problem_of}
use Rattle.worker_pool.specs.tree_core.strategies.Runs.{Run}
use Rattle.worker_pool.specs.tree_core.tree_definitions.declared.answers.Task.{Task}
use Rattle.worker_pool.specs.tree_core.tree_definitions.declared.answers.Claimed.{Claimed}
use Rattle.worker_pool.specs.tree_core.tree_definitions.declared.answers.Claimed.TheVariants as claim
use Rattle.worker_pool.specs.tree_core.tree_definitions.declared.answers.Polled.{Polled}
use Rattle.worker_pool.specs.tree_core.tree_definitions.declared.answers.Polled.TheVariants as polled
use Rattle.worker_pool.specs.tree_core.tree_definitions.declared.answers.Posted.{Posted}
use Rattle.worker_pool.specs.tree_core.tree_definitions.declared.answers.Posted.TheVariants as posted
use Rattle.worker_pool.specs.tree_core.tree_definitions.History.{HistoryEntry, Event, claimed, cancelled, mentions, Runs, IsOwned, IsFresh, IsGiven}
use Rattle.worker_pool.specs.tree_core.tree_definitions.Trees.{ProofTree}
use Rattle.worker_pool.specs.tree_core.tree_definitions.Replies.{Adds, IfTask, IsClaim, IsPoll, IsPost, IsRunnable, IsTask, IsTaskOf, Notes}
use Rattle.worker_pool.proofs.tree_core.tree_definitions.Lookups.{get_set_other, more_cases}
use Rattle.worker_pool.proofs.tree_core.tree_definitions.Mentions.{mentions-append, about_other, runs_of_own, given_later}
use Rattle.tree_tests.specs.Held.{IsHeld, AreHeld, IsAnswerTo, IsClaimed, after_poll}

-- an entry of another ticket keeps what is held
kept : (old new : ProofTree) (e : HistoryEntry) (ticket : ℕ) (o : Run) → Adds old e new → e.ticket ≢ ticket → IsHeld old ticket o → IsHeld new ticket o
kept old new e ticket o adds other h = record {
  runs =
      let runs : mentions ticket old.history ≡ 1 = h.runs in
      let more = mentions-append ticket old.history e in
      let none = about_other e ticket other in
      let now : mentions ticket (old.history ++ e ∷ []) ≡ 1 = omega (arith, runs, more, none) in
      ap (mentions ticket) history ∙ now;
  given = record {
    system = h.given.system ∙ sym (ap (λ (t : ProofTree). t.system) adds.tree);
    budget = h.given.budget ∙ sym (ap (λ (t : ProofTree). t.budget) adds.tree);
    seat = h.given.seat;
    given = subst (λ (es : List HistoryEntry). IsGiven es h.given.seat ticket o.problem o.strategy) (sym history)
        (given_later old.history (e ∷ []) h.given.seat ticket o.problem o.strategy h.given.given);
  };
}
  where
    history : new.history ≡ old.history ++ e ∷ []
    history = ap (λ (t : ProofTree). t.history) adds.tree

-- ---- a ticket that ends

cleared : (held : List (Option Run)) (ticket : ℕ) (o : Run) → slice_get (slice_set held ticket None) ticket ≡ Some (Some o) → ⊥
cleared [] ticket o there = absurd cc
cleared (x ∷ held) zero o there = absurd cc
cleared (x ∷ held) (suc ticket) o there = cleared held ticket o there

-- what is left when the ticket's outcome was taken out
pub left_held : (tree : ProofTree) (held : List (Option Run)) (ticket : ℕ) → AreHeld tree held → AreHeld tree (slice_set held ticket None)
left_held tree held ticket all t o there = dite (ℕ_discrete t ticket)
    (λ same. absurd (cleared held ticket o (subst (λ (k : ℕ). slice_get (slice_set held ticket None) k ≡ Some (Some o)) same there)))
    (λ other. all t o (sym (get_set_other held ticket t None (λ e. other e)) ∙ there))

pub ended_held : (old new : ProofTree) (held : List (Option Run)) (ticket : ℕ) (event : Event) → AreHeld old held → Notes old ticket event new
    → AreHeld new (slice_set held ticket None)
ended_held old new held ticket event all notes t o there = dite (ℕ_discrete t ticket)
    (λ same. absurd (cleared held ticket o (subst (λ (k : ℕ). slice_get (slice_set held ticket None) k ≡ Some (Some o)) same there)))
    (λ other. kept old new (record { seat = notes.seat; ticket = ticket; event = event }) t o notes.adds (λ e. other (sym e))
    (all t o (sym (get_set_other held ticket t None (λ e. other e)) ∙ there)))

-- ---- a ticket that is given

-- a ticket that runs is not the next one
not_next : (tree : ProofTree) (ticket : ℕ) → IsFresh (length tree.state.tickets) tree.history → Runs ticket tree.history → length tree.state.tickets ≢ ticket
not_next tree ticket fresh runs same =
    let none : mentions ticket tree.history ≡ 0 = fresh ticket (omega (arith, same)) in
    let one : mentions ticket tree.history ≡ 1 = runs in
    absurd (omega (arith, none, one))

pub claimed_held : (old new : ProofTree) (held : List (Option Run)) (seat : ℕ) (task : Task) → IsFresh (length old.state.tickets) old.history
    → IsTask old seat new task → AreHeld old held → AreHeld new held
claimed_held old new held seat task fresh is all t o there =
    let h = all t o there in
    kept old new (record { seat = seat; ticket = task.ticket; event = claimed (problem_of task.problem) task.strategy }) t o is.adds
    (λ e. not_next old t fresh h.runs (sym is.adds.follows.ticket ∙ e)) h

-- the same tree keeps what is held
pub same_keeps : (old new : ProofTree) → new ≡ old → (held : List (Option Run)) → AreHeld old held → AreHeld new held
same_keeps old new same held all = subst (λ (t : ProofTree). AreHeld t held) (sym same) all

pub held_again : (tree : ProofTree) (held again : List (Option Run)) → again ≡ held → AreHeld tree held → AreHeld tree again
held_again tree held again same all = subst (AreHeld tree) (sym same) all

pub claim_keeps : (old new : ProofTree) (seat : ℕ) (c : Claimed) → IsFresh (length old.state.tickets) old.history → IsClaim old seat new c
    → (held : List (Option Run)) → AreHeld old held → AreHeld new held
claim_keeps old new seat (claim.Task task) fresh is held all = claimed_held old new held seat task fresh is all
claim_keeps old new seat claim.Again fresh is held all = subst (λ (t : ProofTree). AreHeld t held) (sym is.1) all
claim_keeps old new seat claim.Done fresh is held all = subst (λ (t : ProofTree). AreHeld t held) (sym is.1) all

pub claim_gives : (old new : ProofTree) (seat : ℕ) (c : Claimed) → IsOwned new.history → IsClaim old seat new c → IfTask (IsRunnable old.system) c
    → IfTask (IsClaimed new) c
claim_gives old new seat (claim.Task task) owned is runnable = record {
  runnable = subst (λ (s : System). IsRunnable s task) (sym (ap (λ (t : ProofTree). t.system) is.adds.tree)) runnable;
  runs = runs_of_own new.history seat task.ticket owned is.runs;
  seat = seat;
  given = subst (λ (es : List HistoryEntry). IsGiven es seat task.ticket (problem_of task.problem) task.strategy)
      (sym (ap (λ (t : ProofTree). t.history) is.adds.tree)) (in_right old.history in_first);
}
claim_gives old new seat claim.Again owned is runnable = tt
claim_gives old new seat claim.Done owned is runnable = tt

-- the answer to the task is held for its ticket
pub answered : {system : System} {budget : ℕ} (tree : ProofTree) (task : Task) (o : Run) → system ≡ tree.system → budget ≡ tree.budget → IsClaimed tree task
    → IsAnswerTo system budget task o → IsHeld tree task.ticket o
answered tree task o system budget is answer = record {
  runs = is.runs;
  given = record {
    system = answer.system_is ∙ system;
    budget = answer.budget_is ∙ budget;
    seat = is.seat;
    given = subst (λ (e : HistoryEntry). In e tree.history)
        (λ i. record { seat = is.seat; ticket = task.ticket; event = claimed (sym answer.problem_is i) (sym answer.strategy_is i) }) is.given;
  };
}

more_held : (tree : ProofTree) (held : List (Option Run)) (ticket : ℕ) (o : Run) → AreHeld tree held → IsHeld tree ticket o → ticket ≡ length held
    → AreHeld tree (held ++ Some o ∷ [])
more_held tree held ticket o all h next t p there = go (more_cases held (Some o) t (Some p) there)
  where
    go : (slice_get held t ≡ Some (Some p)) ⊎ ((t ≡ length held) × (Some p ≡ Some o)) → IsHeld tree t p
    go (inl e) = all t p e
    go (inr (at, same)) =
        let runs : p ≡ o = cc in
        subst (λ (k : ℕ). IsHeld tree k p) (next ∙ sym at) (subst (IsHeld tree ticket) (sym runs) h)

pub pushed : {E : Type 0} (tree : ProofTree) (held more : List (Option Run)) (ticket : ℕ) (o : Run) (r : Result Unit E) → AreHeld tree held → IsHeld tree ticket o
    → OnOk r ((ticket ≡ length held) × (more ≡ held ++ Some o ∷ [])) → OnErr r (more ≡ held) → AreHeld tree more
pushed tree held more ticket o (Ok u) all h ok err = subst (AreHeld tree) (sym ok.1) (more_held tree held ticket o all h ok.0)
pushed tree held more ticket o (Err e) all h ok err = subst (AreHeld tree) (sym err) all

-- ---- calls of a running ticket

pub poll_keeps : (old new : ProofTree) (ticket : ℕ) (p : Polled) → IsPoll old ticket new p → (held : List (Option Run)) → AreHeld old held
    → AreHeld new (after_poll p held ticket)
poll_keeps old new ticket polled.Go is held all = subst (λ (t : ProofTree). AreHeld t held) (sym is.1) all
poll_keeps old new ticket polled.Cancelled is held all = ended_held old new held ticket cancelled all is.1

pub posted_keeps : (old new : ProofTree) (ticket : ℕ) (event : Event) (r : Result Posted Run) → IfOk r (IsPost old ticket event new) → OnErr r (new ≡ old)
    → (held : List (Option Run)) → AreHeld old held → AreHeld new (slice_set held ticket None)
posted_keeps old new ticket event (Ok posted.Late) is same held all = ended_held old new held ticket event all is.1
posted_keeps old new ticket event (Ok posted.Taken) is same held all = ended_held old new held ticket event all is.1
posted_keeps old new ticket event (Err o) is same held all = left_held new held ticket (same_keeps old new same held all)

pub taken_held : (tree : ProofTree) (held : List (Option Run)) (ticket : ℕ) (r : Option Run) → AreHeld tree held
    → IfSome r (λ (o : Run). slice_get held ticket ≡ Some (Some o)) → IfSome r (IsHeld tree ticket)
taken_held tree held ticket (Some o) all there = all ticket o there
taken_held tree held ticket None all there = tt
