-- What a call of the shared tree adds to its history, and what a seat knows by its own entries.
use Rattle.std.specs.Prelude.{IfOk, OnErr}
use Rattle.std.proofs.Common.{◌≡◌, inl, inr, ℕ, true, false, eqb, eq-eqb, cond, List, [], ◌∷◌, ◌++◌, map, Result, Ok, Err, refl, sym, ap, ◌∙◌, subst, arith}
use Rattle.std.proofs.lemmas.List.{map-append}
use mathlib.Core.List.{IsPrefix}
use Rattle.trs_defs.specs.Member.{In, in_first, in_rest}
use Rattle.trs_defs.specs.System.{System}
use Rattle.tree_core.specs.cert_step.ProofProblem.{problem_of}
use Rattle.tree_core.specs.strategies.Runs.{Run}
use Rattle.tree_core.specs.tree_definitions.declared.answers.Task.{Task}
use Rattle.tree_core.specs.tree_definitions.declared.answers.Claimed.{Claimed}
use Rattle.tree_core.specs.tree_definitions.declared.answers.Claimed.TheVariants as claim
use Rattle.tree_core.specs.tree_definitions.declared.answers.Polled.{Polled}
use Rattle.tree_core.specs.tree_definitions.declared.answers.Polled.TheVariants as polled
use Rattle.tree_core.specs.tree_definitions.declared.answers.Posted.{Posted}
use Rattle.tree_core.specs.tree_definitions.declared.answers.Posted.TheVariants as posted
use Rattle.tree_core.specs.tree_definitions.declared.question.Question.{Question}
use Rattle.tree_core.specs.tree_definitions.History.{HistoryEntry, Event, claimed, cancelled, mentions, of_seat, Runs, IsOwned, IsGiven}
use Rattle.tree_core.specs.tree_definitions.Trees.{ProofTree}
use Rattle.tree_core.specs.tree_definitions.Replies.{Adds, IfTask, IsClaim, IsPoll, IsPost, IsRunnable, IsTaskOf, Notes}
use Rattle.tree_core.proofs.tree_definitions.Mentions.{about_same, both_same, of_append, one_owner, given_of_own, runs_of_own}
use Rattle.turn_lock.specs.declared.signed.Signed.{Signed}
use Rattle.turn_lock.specs.Rules.{of, AddsOne}
use Rattle.turn_lock.proofs.Turns.{prefix_trans}
use Rattle.worker_pool.specs.declared.entry.Entry.{Entry}
use Rattle.worker_pool.specs.Shared.{opening_of, signed, history_of, Opens, tree_entries, HasEnded, HasTask}

-- ---- a seat's own entries

own_of : (n : ℕ) (es : List HistoryEntry) → tree_entries (of n (map signed es)) ≡ of_seat n es
own_of n [] = refl
own_of n (e ∷ es) =
    elim (eqb e.seat n) as (λ b. tree_entries (cond b (signed e ∷ of n (map signed es)) (of n (map signed es))) ≡ cond b (e ∷ of_seat n es) (of_seat n es)) [
      | true ↦ ap (λ (xs : List HistoryEntry). e ∷ xs) (own_of n es)
      | false ↦ own_of n es
    ]

own_entries : (n : ℕ) (tree : ProofTree) → tree_entries (of n (history_of tree)) ≡ of_seat n tree.history
own_entries n tree = own_of n tree.history

-- a ticket that runs by what the seat knows runs
runs_in : (tree : ProofTree) (seat number : ℕ) → Runs number (tree_entries (of seat (history_of tree))) → Runs number (of_seat seat tree.history)
runs_in tree seat number runs = subst (λ (es : List HistoryEntry). Runs number es) (own_entries seat tree) runs

pub runs_whole : (tree : ProofTree) (seat number : ℕ) → IsOwned tree.history → Runs number (tree_entries (of seat (history_of tree))) → Runs number tree.history
runs_whole tree seat number owned runs = runs_of_own tree.history seat number owned (runs_in tree seat number runs)

-- the outcome is of the task that the seat was given
pub task_of : (tree : ProofTree) (seat number : ℕ) (outcome : Run) → HasTask seat (of seat (history_of tree)) number outcome.problem outcome.strategy
    → outcome.system ≡ tree.system → outcome.budget ≡ tree.budget → IsTaskOf tree number outcome
task_of tree seat number outcome has system budget = record {
  system = system;
  budget = budget;
  seat = seat;
  given = given_of_own tree.history seat seat number outcome.problem outcome.strategy
      (subst (λ (es : List HistoryEntry). IsGiven es seat number outcome.problem outcome.strategy) (own_entries seat tree) has.given);
}

-- ---- one more entry

module _ (old new : ProofTree) where
  history_more : (e : HistoryEntry) → Adds old e new → history_of new ≡ history_of old ++ signed e ∷ []
  history_more e adds =
      ap history_of adds.tree ∙ ap (λ (xs : List (Signed Entry)). opening_of old.question old.system old.budget ∷ xs) (map-append signed old.history (e ∷ []))

  adds_entry : (e : HistoryEntry) → Adds old e new → AddsOne e.seat (history_of old) (history_of new)
  adds_entry e adds = inr (signed e, refl, history_more e adds)

  adds_none : (seat : ℕ) → new ≡ old → AddsOne seat (history_of old) (history_of new)
  adds_none seat same = inl (ap history_of same)

  -- the entry that ends a ticket is of the seat that has the ticket
  pub notes_add : (seat number : ℕ) (event : Event) → IsOwned old.history → Runs number (tree_entries (of seat (history_of old))) → Notes old number event new
      → AddsOne seat (history_of old) (history_of new)
  notes_add seat number event owned runs notes =
      let is : notes.seat ≡ seat = one_owner old.history notes.seat seat number owned notes.owner (runs_in old seat number runs) in
      subst (λ (n : ℕ). AddsOne n (history_of old) (history_of new)) is (adds_entry (record { seat = notes.seat; ticket = number; event = event }) notes.adds)

  -- and the ticket has ended
  pub notes_end : (seat number : ℕ) (event : Event) → IsOwned old.history → Runs number (tree_entries (of seat (history_of old))) → Notes old number event new
      → HasEnded number (of seat (history_of new))
  notes_end seat number event owned runs notes =
      let e : HistoryEntry = record { seat = notes.seat; ticket = number; event = event } in
      let own : mentions number (of_seat seat old.history) ≡ 1 = runs_in old seat number runs in
      let is : notes.seat ≡ seat = one_owner old.history notes.seat seat number owned notes.owner own in
      let more = of_append seat number old.history e in
      let here = both_same e seat number is in
      let one = about_same e number refl in
      let two : mentions number (of_seat seat (old.history ++ e ∷ [])) ≡ 2 = omega (arith, own, more, here, one) in
      ap (mentions number) (own_entries seat new)
      ∙ (ap (λ (es : List HistoryEntry). mentions number (of_seat seat es)) (ap (λ (t : ProofTree). t.history) notes.adds.tree) ∙ two)

  pub poll_ends : (seat number : ℕ) (p : Polled) → IsOwned old.history → Runs number (tree_entries (of seat (history_of old))) → IsPoll old number new p
      → p ≡ polled.Cancelled → HasEnded number (of seat (history_of new))
  poll_ends seat number polled.Go owned runs is over = absurd cc
  poll_ends seat number polled.Cancelled owned runs is over = notes_end seat number cancelled owned runs is.1

  pub post_ends : (seat number : ℕ) (event : Event) (p : Posted) → IsOwned old.history → Runs number (tree_entries (of seat (history_of old)))
      → IsPost old number event new p → HasEnded number (of seat (history_of new))
  post_ends seat number event posted.Late owned runs is = notes_end seat number event owned runs is.1
  post_ends seat number event posted.Taken owned runs is = notes_end seat number event owned runs is.1

  pub poll_adds : (seat number : ℕ) (p : Polled) → IsOwned old.history → Runs number (tree_entries (of seat (history_of old))) → IsPoll old number new p
      → AddsOne seat (history_of old) (history_of new)
  poll_adds seat number polled.Go owned runs is = adds_none seat is.1
  poll_adds seat number polled.Cancelled owned runs is = notes_add seat number cancelled owned runs is.1

  pub poll_goes : (number : ℕ) (p : Polled) → IsPoll old number new p → p ≡ polled.Go → history_of new ≡ history_of old
  poll_goes number polled.Go is go = ap history_of is.1
  poll_goes number polled.Cancelled is go = absurd cc

  pub post_adds : (seat number : ℕ) (event : Event) (p : Posted) → IsOwned old.history → Runs number (tree_entries (of seat (history_of old)))
      → IsPost old number event new p → AddsOne seat (history_of old) (history_of new)
  post_adds seat number event posted.Late owned runs is = notes_add seat number event owned runs is.1
  post_adds seat number event posted.Taken owned runs is = notes_add seat number event owned runs is.1

  pub claim_adds : (seat : ℕ) (c : Claimed) → IsClaim old seat new c → AddsOne seat (history_of old) (history_of new)
  claim_adds seat (claim.Task task) is = adds_entry (record { seat = seat; ticket = task.ticket; event = claimed (problem_of task.problem) task.strategy }) is.adds
  claim_adds seat claim.Again is = adds_none seat is.1
  claim_adds seat claim.Done is = adds_none seat is.1

  pub claimed_adds : {E : Type 0} (seat : ℕ) (r : Result Claimed E) → IfOk r (IsClaim old seat new) → OnErr r (new ≡ old) → AddsOne seat (history_of old) (history_of new)
  claimed_adds seat (Ok c) is memory = claim_adds seat c is
  claimed_adds seat (Err e) is memory = adds_none seat memory

-- ---- a claim

-- the last entry is its seat's
own_last : (es : List HistoryEntry) (e : HistoryEntry) → In e (of_seat e.seat (es ++ e ∷ []))
own_last [] e = let a : eqb e.seat e.seat ≡ true = eq-eqb e.seat e.seat refl in rw a in_first
own_last (x ∷ es) e =
    elim (eqb x.seat e.seat) as (λ b. In e (cond b (x ∷ of_seat e.seat (es ++ e ∷ [])) (of_seat e.seat (es ++ e ∷ [])))) [
      | true ↦ in_rest (own_last es e)
      | false ↦ own_last es e
    ]

abbrev pub IsHad : ℕ → ProofTree → Task → Type 0
IsHad seat tree task = HasTask seat (of seat (history_of tree)) task.ticket (problem_of task.problem) task.strategy

claim_gives : (old new : ProofTree) (seat : ℕ) (c : Claimed) → IsClaim old seat new c → IfTask (IsHad seat new) c
claim_gives old new seat (claim.Task task) is = record {
  runs = subst (λ (es : List HistoryEntry). Runs task.ticket es) (sym (own_entries seat new)) is.runs;
  given = subst (λ (es : List HistoryEntry). IsGiven es seat task.ticket (problem_of task.problem) task.strategy)
      (ap (λ (es : List HistoryEntry). of_seat seat es) (sym (ap (λ (t : ProofTree). t.history) is.adds.tree)) ∙ sym (own_entries seat new))
      (own_last old.history (record { seat = seat; ticket = task.ticket; event = claimed (problem_of task.problem) task.strategy }));
}
claim_gives old new seat claim.Again is = tt
claim_gives old new seat claim.Done is = tt

pub claimed_gives : {E : Type 0} (old new : ProofTree) (seat : ℕ) (r : Result Claimed E) → IfOk r (IsClaim old seat new) → IfOk r (IfTask (IsHad seat new))
claimed_gives old new seat (Ok c) is = claim_gives old new seat c is
claimed_gives old new seat (Err e) is = tt

-- ---- later in one history

pub opens_later : (question : Question) (system : System) (budget : ℕ) (xs ys : List (Signed Entry)) → Opens question system budget xs → IsPrefix xs ys
    → Opens question system budget ys
opens_later question system budget xs ys opens later = prefix_trans (opening_of question system budget ∷ []) xs ys opens later

-- a task that was claimed can be run by a searcher of the system
pub searcher_runs : {E : Type 0} (r : Result Claimed E) (task : Task) (system searcher : System) → r ≡ Ok (claim.Task task) → IfOk r (IfTask (IsRunnable system))
    → searcher ≡ system → IsRunnable searcher task
searcher_runs {E = E} r task system searcher is runs same =
    subst (λ (s : System). IsRunnable s task) (sym same) (subst (λ (x : Result Claimed E). IfOk x (IfTask (IsRunnable system))) is runs)
