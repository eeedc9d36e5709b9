-- A claim and the post that follows it.
use Rattle.std.specs.Prelude.{◌^◌}
use Rattle.std.proofs.Common.{◌≡◌, inl, inr, ℕ, ◌+◌, ◌<◌, true, false, List, [], ◌∷◌, ◌++◌, length, length-append, append_assoc, refl, sym, ap, ◌∙◌, subst, arith}
use Rattle.trs_defs.specs.System.{System}
use Rattle.trs_defs.specs.Member.{In, in_first}
use Rattle.trs_defs.proofs.Members.{in_right}
use Rattle.tree_core.specs.cert_step.ProofProblem.{ProofProblem, problem_of}
use Rattle.tree_core.specs.strategies.declared.strategy.Strategy.{Strategy}
use Rattle.tree_core.specs.strategies.Kinds.{strategies_for}
use Rattle.tree_core.specs.strategies.Runs as run
use Rattle.tree_core.specs.strategies.Runs.{Found, Run}
use Rattle.tree_core.specs.strategies.Truth.{IsTrueFound}
use Rattle.tree_core.specs.tree_definitions.declared.answers.Task.{Task}
use Rattle.tree_core.specs.tree_definitions.declared.answers.Posted.{Posted}
use Rattle.tree_core.specs.tree_definitions.declared.answers.Posted.TheVariants as posted
use Rattle.tree_core.specs.tree_definitions.declared.question.Question.{Question}
use Rattle.tree_core.specs.tree_definitions.Questions.{goal_count}
use Rattle.tree_core.specs.tree_definitions.History.{HistoryEntry, Event, claimed, mentions, Runs, IsOwned}
use Rattle.tree_core.specs.tree_definitions.States.{State, opening}
use Rattle.tree_core.specs.tree_definitions.Verdicts.{HasVerdict, IsDone}
use Rattle.tree_core.specs.tree_definitions.Events.{Follows}
use Rattle.tree_core.specs.tree_definitions.Trees.{ProofTree}
use Rattle.tree_core.specs.tree_definitions.Replies.{IsTask, IsAgain, IsPost, IsTaskOf, Notes, event_of_found}
use Rattle.tree_core.proofs.tree_definitions.Lookups.{length_set}
use Rattle.tree_core.proofs.tree_definitions.Mentions.{about, one_owner, runs_of_own}
use Rattle.worker_pool.specs.Serial.{IsSerial, nothing, one_more, entry_of}
use Rattle.worker_pool.specs.Turns.{IsAtRest, IsOnSame, IsAnswerTo, IsTurn, entries_left}

-- ---- the opening

abbrev pub new_tree : Question → System → ℕ → ProofTree
new_tree question system budget = record { question = question; system = system; budget = budget; history = []; state = opening question }

-- a new tree is at rest
pub new_at_rest : (question : Question) (system : System) (budget : ℕ) (tree : ProofTree) → tree ≡ new_tree question system budget → IsAtRest tree
new_at_rest question system budget tree is = subst IsAtRest (sym is) (record { serial = nothing; tickets = refl; going = refl })

-- ---- nothing runs between two turns

two_more : (t : ℕ) (history : List HistoryEntry) (ticket : ℕ) (a b : Event)
    → mentions t (history ++ entry_of ticket a ∷ entry_of ticket b ∷ []) ≡ mentions t history + about (entry_of ticket a) t + about (entry_of ticket a) t
two_more t [] ticket a b = omega arith
two_more t (e ∷ history) ticket a b = let rest = two_more t history ticket a b in omega (arith, rest)

even : (system : System) (budget : ℕ) (history : List HistoryEntry) → IsSerial system budget history → (t : ℕ) → (k : ℕ) × (mentions t history ≡ k + k)
even system budget _ nothing t = (0, refl)
even system budget _ (one_more history ticket problem strategy answer serial next kind is) t =
    let r = even system budget history serial t in
    let m = two_more t history ticket (claimed problem strategy) (event_of_found answer) in
    (r.0 + about (entry_of ticket (claimed problem strategy)) t, let e = r.1 in omega (arith, e, m))

pub none_runs : (tree : ProofTree) → IsAtRest tree → IsAgain tree → ⊥
none_runs tree rest again =
    let r = even tree.system tree.budget tree.history rest.serial again.ticket in
    let one : mentions again.ticket tree.history ≡ 1 = again.runs in
    let e = r.1 in
    absurd (omega (arith, one, e))

-- where nothing is claimed any more, a verdict stands
pub done_verdict : (tree : ProofTree) → IsAtRest tree → IsDone (goal_count tree.question) tree.state → HasVerdict (goal_count tree.question) tree.state
done_verdict tree rest (inl verdict) = verdict
done_verdict tree rest (inr aborted) = let going = rest.going in absurd cc

-- ---- a post

-- it gives no ticket and aborts nothing
kept : (goals : ℕ) (system : System) (s : State) (seat ticket : ℕ) (f : Found) (later : State)
    → Follows goals system s (record { seat = seat; ticket = ticket; event = event_of_found f }) later
    → (length later.tickets ≡ length s.tickets) × (later.is_aborted ≡ s.is_aborted)
kept goals system s seat ticket (run.found step left) later (r, inl (over, after)) =
    (ap (λ (x : State). length x.tickets) after ∙ length_set s.tickets ticket (record r.ticket { is_running = false }), ap (λ (x : State). x.is_aborted) after)
kept goals system s seat ticket (run.found step left) later (r, inr (still, decides)) =
    (ap (λ (x : State). length x.tickets) decides.after ∙ length_set s.tickets ticket (record r.ticket { is_running = false }), ap (λ (x : State). x.is_aborted) decides.after)
kept goals system s seat ticket (run.failed failure) later (r, inl (over, after)) =
    (ap (λ (x : State). length x.tickets) after ∙ length_set s.tickets ticket (record r.ticket { is_running = false }), ap (λ (x : State). x.is_aborted) after)
kept goals system s seat ticket (run.failed failure) later (r, inr (still, after)) =
    (ap (λ (x : State). length x.tickets) after ∙ length_set s.tickets ticket (record r.ticket { is_running = false }), ap (λ (x : State). x.is_aborted) after)

notes_of : (old : ProofTree) (number : ℕ) (event : Event) (new : ProofTree) (p : Posted) → IsPost old number event new p → Notes old number event new
notes_of old number event new posted.Late h = h.1
notes_of old number event new posted.Taken h = h.1

module _ (old mid : ProofTree) (rest : IsAtRest old) (task : Task) (is_task : IsTask old 0 mid task) where
  abbrev claim_entry : HistoryEntry
  claim_entry = entry_of task.ticket (claimed (problem_of task.problem) task.strategy)

  history_mid : mid.history ≡ old.history ++ claim_entry ∷ []
  history_mid = ap (λ (t : ProofTree). t.history) is_task.adds.tree

  pub mid_system : mid.system ≡ old.system
  mid_system = ap (λ (t : ProofTree). t.system) is_task.adds.tree

  pub mid_budget : mid.budget ≡ old.budget
  mid_budget = ap (λ (t : ProofTree). t.budget) is_task.adds.tree

  ticket_is : task.ticket ≡ length old.state.tickets
  ticket_is = is_task.adds.follows.ticket

  tickets_mid : length mid.state.tickets ≡ length old.state.tickets + 1
  tickets_mid = ap (λ (s : State). length s.tickets) is_task.adds.follows.after ∙ length-append old.state.tickets _

  going_mid : mid.state.is_aborted ≡ false
  going_mid = ap (λ (s : State). s.is_aborted) is_task.adds.follows.after ∙ rest.going

  pub task_runs : IsOwned mid.history → Runs task.ticket mid.history
  task_runs owned = runs_of_own mid.history 0 task.ticket owned is_task.runs

  pub task_given : (o : Run) → IsAnswerTo mid.system mid.budget task o → IsTaskOf mid task.ticket o
  task_given o answer = record {
    system = answer.system_is;
    budget = answer.budget_is;
    seat = 0;
    given = subst (λ (es : List HistoryEntry). In (entry_of task.ticket (claimed o.problem o.strategy)) es) (sym history_mid)
        (subst (λ (e : HistoryEntry). In e (old.history ++ claim_entry ∷ [])) (λ i. entry_of task.ticket (claimed (sym answer.problem_is i) (sym answer.strategy_is i)))
        (in_right old.history in_first));
  }

  module _ (owned : IsOwned mid.history) (o : Run) (answer : IsAnswerTo mid.system mid.budget task o) (new : ProofTree) (p : Posted)
      (post : IsPost mid task.ticket (event_of_found o.found) new p) where
    notes : Notes mid task.ticket (event_of_found o.found) new
    notes = notes_of mid task.ticket (event_of_found o.found) new p post

    seat_is : notes.seat ≡ 0
    seat_is = one_owner mid.history notes.seat 0 task.ticket owned notes.owner is_task.runs

    history_new : new.history ≡ old.history ++ claim_entry ∷ entry_of task.ticket (event_of_found o.found) ∷ []
    history_new =
        ap (λ (t : ProofTree). t.history) notes.adds.tree
        ∙ ap (λ (es : List HistoryEntry). es ++ record { seat = notes.seat; ticket = task.ticket; event = event_of_found o.found } ∷ []) history_mid
        ∙ append_assoc old.history (claim_entry ∷ []) (record { seat = notes.seat; ticket = task.ticket; event = event_of_found o.found } ∷ [])
        ∙ ap (λ (seat : ℕ). old.history ++ claim_entry ∷ record { seat = seat; ticket = task.ticket; event = event_of_found o.found } ∷ []) seat_is

    new_system : new.system ≡ mid.system
    new_system = ap (λ (t : ProofTree). t.system) notes.adds.tree

    new_budget : new.budget ≡ mid.budget
    new_budget = ap (λ (t : ProofTree). t.budget) notes.adds.tree

    pub on_same : IsOnSame old new
    on_same = record {
      question = ap (λ (t : ProofTree). t.question) notes.adds.tree ∙ ap (λ (t : ProofTree). t.question) is_task.adds.tree;
      system = new_system ∙ mid_system;
      budget = new_budget ∙ mid_budget;
    }

    kept_new : (length new.state.tickets ≡ length mid.state.tickets) × (new.state.is_aborted ≡ mid.state.is_aborted)
    kept_new = kept (goal_count mid.question) mid.system mid.state notes.seat task.ticket o.found new.state notes.adds.follows

    is_true : IsTrueFound old.system old.budget task.strategy (problem_of task.problem) o.found
    is_true = subst (λ (s : System). IsTrueFound s old.budget task.strategy (problem_of task.problem) o.found) (answer.system_is ∙ mid_system)
        (subst (λ (b : ℕ). IsTrueFound o.system b task.strategy (problem_of task.problem) o.found) (answer.budget_is ∙ mid_budget)
        (subst (λ (s : Strategy). IsTrueFound o.system o.budget s (problem_of task.problem) o.found) answer.strategy_is
        (subst (λ (q : ProofProblem). IsTrueFound o.system o.budget o.strategy q o.found) answer.problem_is answer.is_true.holds)))

    kind : In task.strategy (strategies_for (problem_of task.problem))
    kind = subst (λ (s : Strategy). In s (strategies_for (problem_of task.problem))) answer.strategy_is
        (subst (λ (q : ProofProblem). In o.strategy (strategies_for q)) answer.problem_is answer.is_true.kind)

    serial_new : IsSerial old.system old.budget new.history
    serial_new = subst (IsSerial old.system old.budget) (sym history_new)
        (one_more old.history task.ticket (problem_of task.problem) task.strategy o.found rest.serial (let e = rest.tickets in let t = ticket_is in omega (arith, e, t)) kind is_true)

    length_new : length new.history ≡ length old.history + 2
    length_new = ap (λ (es : List HistoryEntry). length es) history_new ∙ length-append old.history _

    pub at_rest : IsAtRest new
    at_rest = record {
      serial = subst (λ (s : System). IsSerial s new.budget new.history) (sym (new_system ∙ mid_system)) (subst (λ (b : ℕ). IsSerial old.system b new.history) (sym (new_budget ∙ mid_budget)) serial_new);
      tickets = let a = length_new in let b = kept_new.0 in let c = tickets_mid in let d = rest.tickets in omega (arith, a, b, c, d);
      going = kept_new.1 ∙ going_mid;
    }

    pub is_turn : length new.history < 2 ^ 21 → IsTurn old new true
    is_turn short = let a = length_new in let n : entries_left new < entries_left old = omega (arith, a, short) in n
