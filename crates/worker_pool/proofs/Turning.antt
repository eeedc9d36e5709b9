-- What a seat knows while it has the turn, and once it has given the tree back; and what is known of a tree by its opening.
use Rattle.std.specs.Prelude.{IfOk}
use Rattle.std.proofs.Common.{◌≡◌, ◌<◌, ◌≤◌, ◌∙◌, ℕ, List, [], ◌∷◌, ap, refl, sym, subst, Option, Some, Result, Ok, Err, inl, inr, arith}
use mathlib.Core.List.{IsPrefix}
use Rattle.atomic_table.specs.Seated.{TableId}
use Rattle.trs_defs.specs.System.{System}
use Rattle.tree_core.specs.cert_step.ProofProblem.{ProofProblem, problem_of}
use Rattle.tree_core.specs.strategies.declared.strategy.Strategy.{Strategy}
use Rattle.tree_core.specs.tree_definitions.declared.answers.Claimed.{Claimed}
use Rattle.tree_core.specs.tree_definitions.declared.answers.Verdict.{Verdict}
use Rattle.tree_core.specs.tree_definitions.declared.answers.Verdict.TheVariants as verdict
use Rattle.tree_core.specs.tree_definitions.History.{Runs}
use Rattle.tree_core.specs.tree_definitions.Questions.{goal_count}
use Rattle.tree_core.specs.tree_definitions.declared.question.Question.{Question}
use Rattle.tree_core.specs.tree_definitions.Replies.{IfTask, IsRunnable, IsVerdict}
use Rattle.tree_core.specs.tree_definitions.Trees.{ProofTree}
use Rattle.tree_core.specs.tree_definitions.Verdicts.{HasVerdict}
use Rattle.turn_lock.specs.declared.signed.Signed.{Signed}
use Rattle.turn_lock.specs.declared.sitting.Sitting.{Sitting}
use Rattle.turn_lock.specs.Rules.{of, AddsOne}
use Rattle.turn_lock.specs.Seats.{After}
use Rattle.turn_lock.proofs.Turns.{after_trans}
use Rattle.worker_pool.specs.declared.entry.Entry.{Entry}
use Rattle.worker_pool.specs.declared.shared.SharedTree.{SharedTree}
use Rattle.worker_pool.specs.declared.watching.Watching.{Watching}
use Rattle.worker_pool.specs.Said.{opened}
use Rattle.worker_pool.specs.Shared.{history_of, opening_of, tree_entries, HasEnded, HasTask, Opens}
use Rattle.worker_pool.specs.Watched.{kept_of, IsWatched}
use Rattle.worker_pool.proofs.Sharing.{opens_later}

-- what runs by the entries of a seat runs by those of its number in the tree that it holds
pub held_runs : (n m ticket : ℕ) (held now : SharedTree) (mine : List (Signed Entry)) → n ≡ m → of m (history_of held.tree) ≡ mine → now ≡ held
    → Runs ticket (tree_entries mine) → Runs ticket (tree_entries (of n (history_of now.tree)))
held_runs n m ticket held now mine same own is runs =
    subst (λ (s : SharedTree). Runs ticket (tree_entries (of n (history_of s.tree)))) (sym is)
    (subst (λ (k : ℕ). Runs ticket (tree_entries (of k (history_of held.tree)))) (sym same)
    (subst (λ (es : List (Signed Entry)). Runs ticket (tree_entries es)) (sym own) runs))

pub adds_at : (n m : ℕ) (before seen after : List (Signed Entry)) → n ≡ m → before ≡ seen → AddsOne n before after → AddsOne m seen after
adds_at n m before seen after same is adds =
    subst (λ (k : ℕ). AddsOne k seen after) same (subst (λ (es : List (Signed Entry)). AddsOne n es after) is adds)

pub ended_at : (n m ticket : ℕ) (mine log : List (Signed Entry)) → n ≡ m → mine ≡ of m log → HasEnded ticket (of n log) → HasEnded ticket mine
ended_at n m ticket mine log same is ended =
    subst (λ (es : List (Signed Entry)). HasEnded ticket es) (sym is) (subst (λ (k : ℕ). HasEnded ticket (of k log)) same ended)

stands : (tree : ProofTree) (v : Verdict) → IsVerdict tree (Some v) → HasVerdict (goal_count tree.question) tree.state
stands tree (verdict.Won g) is = inl (g, is)
stands tree verdict.Maybe is = inr is.1

-- a verdict that is answered stands
pub verdict_stands : (tree : ProofTree) (r : Option Verdict) (v : Verdict) → r ≡ Some v → IsVerdict tree r → HasVerdict (goal_count tree.question) tree.state
verdict_stands tree r v is answered = stands tree v (subst (λ (x : Option Verdict). IsVerdict tree x) is answered)

-- ---- a claim

abbrev pub IfHad : {E : Type 0} → ℕ → List (Signed Entry) → Result Claimed E → Type 0
IfHad number mine r = IfOk r (IfTask (λ task. HasTask number mine task.ticket (problem_of task.problem) task.strategy))

pub had_at : {E : Type 0} (r : Result Claimed E) (n m : ℕ) (log : List (Signed Entry)) (seat : Sitting Entry) → n ≡ m → seat.number ≡ m → seat.mine ≡ of m log
    → IfHad n (of n log) r → IfHad seat.number seat.mine r
had_at r n m log seat same number mine had =
    subst (λ (es : List (Signed Entry)). IfHad seat.number es r) (sym mine)
    (subst (λ (k : ℕ). IfHad k (of m log) r) (sym number) (subst (λ (k : ℕ). IfHad k (of k log) r) same had))

-- a history that opens so is of a tree on this question, system and budget
opened_on : (question : Question) (system : System) (budget : ℕ) (tree : ProofTree) → Opens question system budget (history_of tree)
    → (tree.question ≡ question) × (tree.system ≡ system) × (tree.budget ≡ budget)
opened_on question system budget tree opens =
    let first : opening_of question system budget ≡ opening_of tree.question tree.system tree.budget = cc (opens.1) in
    let says : opened question system budget ≡ opened tree.question tree.system tree.budget = ap (λ (s : Signed Entry). s.entry.says) first in
    (cc (says), cc (says), cc (says))

pub runnable_at : {E : Type 0} (r : Result Claimed E) (held now : SharedTree) (seen : List (Signed Entry)) (question : Question) (system : System) (budget : ℕ)
    → IsPrefix seen (history_of held.tree) → now ≡ held → IfOk r (IfTask (IsRunnable now.tree.system)) → Opens question system budget seen
    → IfOk r (IfTask (IsRunnable system))
runnable_at r held now seen question system budget begins is runs opens =
    let on = opened_on question system budget held.tree (opens_later question system budget seen (history_of held.tree) opens begins) in
    subst (λ (s : System). IfOk r (IfTask (IsRunnable s))) (ap (λ (t : SharedTree). t.tree.system) is ∙ on.1) runs

-- ---- a watched search

module _ (lock : TableId) (first : Sitting Entry) (ticket stops : ℕ) (kept : Option (Sitting Entry)) (seat : Sitting Entry)
    (watched : IsWatched lock first ticket stops kept) (there : Some seat ≡ kept) where
  is_now : watched.now ≡ seat
  is_now = cc (watched.there, there)

  -- before the first stop the ticket runs
  pub watched_runs : stops ≤ 0 → Runs ticket (tree_entries seat.mine)
  watched_runs none =
      subst (λ (es : List (Signed Entry)). Runs ticket (tree_entries es)) (sym (watched.same (omega (arith, none))) ∙ ap (λ (s : Sitting Entry). s.mine) is_now) watched.runs

  -- with the first stop it has ended
  pub watched_over : (next : Sitting Entry) → After seat next → HasEnded ticket next.mine → IsWatched lock first ticket 1 (Some next)
  watched_over next after over = record {
    now = next;
    there = refl;
    here = after.lock ∙ (ap (λ (s : Sitting Entry). s.lock) (sym is_now) ∙ watched.here);
    after = after_trans first seat next (subst (λ (s : Sitting Entry). After first s) is_now watched.after) after;
    same = λ none. absurd (omega (arith, none));
    runs = watched.runs;
    ended = λ _. over;
  }

pub first_kept : (old new : Watching) → kept_of new ≡ kept_of old → new.first ≡ old.first
first_kept old new kept = ap (λ (k : Sitting Entry × ℕ). k.0) kept

pub ticket_kept : (old new : Watching) → kept_of new ≡ kept_of old → new.ticket ≡ old.ticket
ticket_kept old new kept = ap (λ (k : Sitting Entry × ℕ). k.1) kept

-- a search that nothing stopped leaves the seat's number and entries
pub still_same : (old new : Watching) (seat next : Sitting Entry) (stops : ℕ) → kept_of new ≡ kept_of old → old.first ≡ seat → After new.first next
    → (new.stops ≡ 0 → next.mine ≡ new.first.mine) → stops ≡ new.stops → stops ≤ 0 → (next.number ≡ seat.number) × (next.mine ≡ seat.mine)
still_same old new seat next stops kept first after same is none =
    let from : new.first ≡ seat = first_kept old new kept ∙ first in
    (after.number ∙ ap (λ (s : Sitting Entry). s.number) from, same (omega (arith, is, none)) ∙ ap (λ (s : Sitting Entry). s.mine) from)

pub none_rose : (old new stops : ℕ) → old < new → stops ≡ new → stops ≤ 0 → ⊥
none_rose old new stops rose is none = omega (arith, rose, is, none)

-- it has the task still, as the outcome names it
pub still_has : (seat next : Sitting Entry) (ticket : ℕ) (problem p : ProofProblem) (strategy s : Strategy) → (next.number ≡ seat.number) × (next.mine ≡ seat.mine)
    → p ≡ problem → s ≡ strategy → HasTask seat.number seat.mine ticket problem strategy → HasTask next.number next.mine ticket p s
still_has seat next ticket problem p strategy s same is kind has =
    subst (λ (n : ℕ). HasTask n next.mine ticket p s) (sym same.0)
    (subst (λ (es : List (Signed Entry)). HasTask seat.number es ticket p s) (sym same.1)
    (subst (λ (q : ProofProblem). HasTask seat.number seat.mine ticket q s) (sym is)
    (subst (λ (k : Strategy). HasTask seat.number seat.mine ticket problem k) (sym kind) has)))

-- ---- the whole crew

pub opens_first : (question : Question) (system : System) (budget : ℕ) (seen log : List (Signed Entry)) → seen ≡ log
    → log ≡ opening_of question system budget ∷ [] → Opens question system budget seen
opens_first question system budget seen log all opening = ([], sym (all ∙ opening))

-- the tree that comes back is the one that was opened
pub closed_on : (question : Question) (system : System) (budget : ℕ) (seen last : List (Signed Entry)) (tree : ProofTree) → Opens question system budget seen
    → IsPrefix seen last → IsPrefix last (history_of tree) → (tree.question ≡ question) × (tree.system ≡ system) × (tree.budget ≡ budget)
closed_on question system budget seen last tree opens later begins =
    opened_on question system budget tree (opens_later question system budget last (history_of tree) (opens_later question system budget seen last opens later) begins)

-- what is true of the tree is true of the answer
pub answered : {E : Type 0} (fact : ProofTree → Type 0) (tree : ProofTree) (r : Result ProofTree E) → IfOk r (λ f. f ≡ tree) → fact tree → IfOk r fact
answered fact tree (Ok f) is holds = subst fact (sym is) holds
answered fact tree (Err e) is holds = tt

pub verdict_on : {E : Type 0} (question : Question) (r : Result ProofTree E) → IfOk r (λ f. f.question ≡ question)
    → IfOk r (λ f. HasVerdict (goal_count f.question) f.state) → IfOk r (λ f. HasVerdict (goal_count question) f.state)
verdict_on question (Ok f) is has = subst (λ (q : Question). HasVerdict (goal_count q) f.state) is has
verdict_on question (Err e) is has = tt
