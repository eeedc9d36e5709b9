-- What one more entry leaves of the tasks for which tickets were given.
use Rattle.std.proofs.Common.{◌≡◌, ◌⊎◌, inl, inr, ℕ, false, List, [], ◌∷◌, ◌++◌, set, Some, slice_get, refl, sym, ap, ◌∙◌, subst}
use Rattle.trs_defs.specs.Member.{In, in_first, in_rest}
use Rattle.trs_defs.proofs.ListItems.{kept_item}
use Rattle.tree_state.specs.cert_step.ProofProblem.{ProofProblem}
use Rattle.tree_state.specs.strategies.declared.strategy.Strategy.{Strategy}
use Rattle.tree_state.specs.strategies.Kinds.{strategies_for}
use Rattle.tree_state.specs.tree_definitions.declared.ticket.Ticket.{Ticket}
use Rattle.tree_state.specs.tree_definitions.History.{HistoryEntry, claimed, IsGiven}
use Rattle.tree_state.specs.tree_definitions.States.{TreeNode, State, HasTask}
use Rattle.tree_state.proofs.tree_definitions.Lookups.{one_value, get_set, set_there}
use Rattle.tree_core.specs.Invariant.{AreTasks}
use native.Mathlib.Decide.{ℕ_discrete}
use mathlib.Core.Logic.{dite}

-- nodes keep their problems
abbrev pub KeepProblems : List TreeNode → List TreeNode → Type 0
KeepProblems xs ys = (n : ℕ) (x : TreeNode) → slice_get xs n ≡ Some x → (y : TreeNode) × (slice_get ys n ≡ Some y) × (y.problem ≡ x.problem)

-- tickets keep their nodes and places
abbrev pub KeepPlaces : List Ticket → List Ticket → Type 0
KeepPlaces ts us = (k : ℕ) (t : Ticket) → slice_get ts k ≡ Some t → (u : Ticket) × (slice_get us k ≡ Some u) × (u.node ≡ t.node) × (u.place ≡ t.place)

pub task_kept : (s later : State) → KeepProblems s.nodes later.nodes → KeepPlaces s.tickets later.tickets → (number : ℕ) (problem : ProofProblem) (strategy : Strategy)
    → HasTask s number problem strategy → HasTask later number problem strategy
task_kept s later nodes tickets number problem strategy h =
    let u = tickets number h.ticket h.there in
    let y = nodes h.ticket.node h.node h.made in
    record {
      ticket = u.0;
      there = u.1;
      node = y.0;
      made = ap (λ (n : ℕ). slice_get later.nodes n) u.2 ∙ y.1;
      problem_is = y.2 ∙ h.problem_is;
      strategy_is = ap (λ (q : ProofProblem). slice_get (strategies_for q) u.0.place) y.2
          ∙ ap (λ (k : ℕ). slice_get (strategies_for h.node.problem) k) u.3 ∙ h.strategy_is;
    }

in_more : {A : Type 0} (x : A) (xs : List A) (y : A) → In x (xs ++ y ∷ []) → In x xs ⊎ (x ≡ y)
in_more x [] _ in_first = inr refl
in_more x [] y (in_rest h) = elim h [ ]
in_more x (_ ∷ xs) y in_first = inl in_first
in_more x (z ∷ xs) y (in_rest h) = elim (in_more x xs y h) [ inl i ↦ inl (in_rest i) | inr e ↦ inr e ]

module _ (history : List HistoryEntry) (s later : State) (given : AreTasks history s) (e : HistoryEntry)
    (nodes : KeepProblems s.nodes later.nodes) (tickets : KeepPlaces s.tickets later.tickets) where
  -- the ending of a ticket
  pub given_ending : ((problem : ProofProblem) (strategy : Strategy) → e.event ≡ claimed problem strategy → ⊥) → AreTasks (history ++ e ∷ []) later
  given_ending ends seat number problem strategy h = elim (in_more _ history e h) [
    | inl old ↦ task_kept s later nodes tickets number problem strategy (given seat number problem strategy old)
    | inr new ↦ absurd (ends problem strategy (sym (ap (λ (x : HistoryEntry). x.event) new)))
  ]

  -- a claim
  pub given_claim : (problem : ProofProblem) (strategy : Strategy) → e.event ≡ claimed problem strategy → HasTask later e.ticket problem strategy → AreTasks (history ++ e ∷ []) later
  given_claim p st is task seat number problem strategy h = elim (in_more _ history e h) [
    | inl old ↦ task_kept s later nodes tickets number problem strategy (given seat number problem strategy old)
    | inr new ↦
        let number_is : e.ticket ≡ number = sym (ap (λ (x : HistoryEntry). x.ticket) new) in
        let event_is : claimed p st ≡ claimed problem strategy = sym is ∙ sym (ap (λ (x : HistoryEntry). x.event) new) in
        let p_is : p ≡ problem = cc in
        let st_is : st ≡ strategy = cc in
        subst (λ (k : ℕ). HasTask later k problem strategy) number_is
        (subst (λ (q : ProofProblem). HasTask later e.ticket q strategy) p_is
        (subst (λ (x : Strategy). HasTask later e.ticket p x) st_is task))
  ]

-- a ticket that ended keeps its node and place
pub places_ended : (tickets : List Ticket) (number : ℕ) (t : Ticket) → slice_get tickets number ≡ Some t → KeepPlaces tickets (set tickets number (record t { is_running = false }))
places_ended tickets number t there k u here = dite (ℕ_discrete k number)
    (λ same.
    let is : u ≡ t = one_value (slice_get tickets number) u t (subst (λ (j : ℕ). slice_get tickets j ≡ Some u) same here) there in
    let at = get_set tickets number (record t { is_running = false }) t there in (
      record t { is_running = false },
      subst (λ (j : ℕ). slice_get (set tickets number (record t { is_running = false })) j ≡ Some (record t { is_running = false })) (sym same) at,
      ap (λ (x : Ticket). x.node) (sym is),
      ap (λ (x : Ticket). x.place) (sym is),
    ))
    (λ other. (u, set_there tickets number k (record t { is_running = false }) u (λ e. other e) here, refl, refl))

-- one more ticket
pub places_more : (tickets : List Ticket) (t : Ticket) → KeepPlaces tickets (tickets ++ t ∷ [])
places_more tickets t k u here = (u, kept_item tickets (t ∷ []) k u here, refl, refl)
