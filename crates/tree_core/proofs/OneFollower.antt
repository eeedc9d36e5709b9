-- A state that follows by an entry is just one; and so is what is claimed.
use Rattle.std.proofs.Common.{◌≡◌, ◌⊎◌, inl, inr, ℕ, ◌<◌, true, List, Some, slice_get, refl, sym, ap, ◌∙◌, subst, arith}
use native.Mathlib.Decide.{dec_lt}
use mathlib.Core.Logic.{dite}
use Rattle.trs_defs.specs.System.{System}
use Rattle.tree_state.specs.cert_step.ProofProblem.{ProofProblem}
use Rattle.tree_state.specs.cert_step.ProofStep.{ProofStep}
use Rattle.tree_state.proofs.cert_step.Once.{applies_once}
use Rattle.tree_state.specs.strategies.declared.failure.Failure.{Failure}
use Rattle.tree_state.specs.strategies.declared.strategy.Strategy.{Strategy}
use Rattle.tree_state.specs.strategies.Kinds.{strategies_for}
use Rattle.tree_state.specs.tree_definitions.declared.mark.Mark.TheVariants.{Idle, Failed}
use Rattle.tree_state.specs.tree_definitions.declared.ticket.Ticket.{Ticket}
use Rattle.tree_state.specs.tree_definitions.History.{HistoryEntry, Event, claimed, found, failed, cancelled, aborted}
use Rattle.tree_state.specs.tree_definitions.States.{TreeNode, State}
use Rattle.tree_state.specs.tree_definitions.Verdicts.{HasVerdict, IsFirstWinner}
use Rattle.tree_state.specs.tree_definitions.Events.{Claims, RunsAt, IsOver, Decides, Follows, with_claim, without, ended, nodes_with}
use Rattle.tree_state.proofs.tree_definitions.Lookups.{one_value}
use Rattle.tree_core.proofs.Winners.{IsGrown, one_winner}

-- the least of which something holds is just one
pub one_least : (m n : ℕ) → (m < n → ⊥) → (n < m → ⊥) → m ≡ n
one_least m n a b = dite (dec_lt m n) (λ lt. absurd (a lt)) (λ le. dite (dec_lt n m) (λ lt. absurd (b lt)) (λ ge. omega (arith, le, ge)))

-- ---- claims

module _ (goals : ℕ) (s : State) (e f : HistoryEntry) (p q : ProofProblem) (a b : Strategy) (m o : State)
    (c : Claims goals s e p a m) (d : Claims goals s f q b o) where
  same_n : c.n ≡ d.n
  same_n = one_least c.n d.n (λ lt. d.least c.n c.place c.node lt c.free) (λ lt. c.least d.n d.place d.node lt d.free)

  same_node : c.node ≡ d.node
  same_node = one_value (slice_get s.nodes c.n) c.node d.node c.free.there
      (subst (λ (k : ℕ). slice_get s.nodes k ≡ Some d.node) (sym same_n) d.free.there)

  same_place : c.place ≡ d.place
  same_place = one_least c.place d.place
      (λ lt. d.free.first c.place lt (subst (λ (x : TreeNode). slice_get x.marks c.place ≡ Some Idle) same_node c.free.idle))
      (λ lt. c.free.first d.place lt (subst (λ (x : TreeNode). slice_get x.marks d.place ≡ Some Idle) (sym same_node) d.free.idle))

  pub same_ticket : e.ticket ≡ f.ticket
  same_ticket = c.ticket ∙ sym d.ticket

  pub same_problem : p ≡ q
  same_problem = sym c.problem_is ∙ ap (λ (x : TreeNode). x.problem) same_node ∙ d.problem_is

  pub same_strategy : a ≡ b
  same_strategy = one_value (slice_get (strategies_for d.node.problem) d.place) a b
      (subst (λ (x : TreeNode). slice_get (strategies_for x.problem) d.place ≡ Some a) same_node
      (subst (λ (k : ℕ). slice_get (strategies_for c.node.problem) k ≡ Some a) same_place c.strategy_is)) d.strategy_is

  pub same_claim : e.seat ≡ f.seat → m ≡ o
  same_claim seat = c.after ∙ (λ i. with_claim s (seat i) (same_n i) (same_place i) (same_node i)) ∙ sym d.after

-- ---- endings

module _ (goals : ℕ) (system : System) (s : State) (seat number : ℕ) where
  abbrev entry : Event → HistoryEntry
  entry event = record { seat = seat; ticket = number; event = event }

  -- what is said of the ticket's node is said of just one
  module _ (event : Event) (r q : RunsAt s (entry event)) where
    one_ticket : r.ticket ≡ q.ticket
    one_ticket = one_value (slice_get s.tickets number) r.ticket q.ticket r.there q.there

    one_node : r.node ≡ q.node
    one_node = one_value (slice_get s.nodes q.ticket.node) r.node q.node
        (subst (λ (t : Ticket). slice_get s.nodes t.node ≡ Some r.node) one_ticket r.made) q.made

    at_one : (P : Ticket → TreeNode → Type 0) → P r.ticket r.node → P q.ticket q.node
    at_one P h = subst (λ (t : Ticket). P t q.node) one_ticket (subst (λ (x : TreeNode). P r.ticket x) one_node h)

  one_decided : IsGrown goals s → (t : Ticket) (node : TreeNode) → slice_get s.nodes t.node ≡ Some node → (step : ProofStep)
      → (IsOver goals s node → ⊥) → (m o : State)
      → Decides goals system s number t node step m → Decides goals system s number t node step o → m ≡ o
  one_decided grown t node made step still m o c d =
      let left : c.left ≡ d.left = applies_once system node.problem step c.left d.left c.applies d.applies in
      let first = subst (λ (ps : List ProofProblem). IsFirstWinner goals (nodes_with s t node step ps) c.winner) left c.first in
      let winner : c.winner ≡ d.winner = one_winner goals s grown t node made step d.left still c.winner d.winner first d.first in
      c.after ∙ (λ i. record s { nodes = nodes_with s t node step (left i); tickets = without s.tickets number t; winner = winner i }) ∙ sym d.after

  -- of two ways to go on, one where a fact holds and one where it does not, just one is right
  abbrev Either : Type 0 → Type 0 → Type 0 → Type 0
  Either fact A B = (fact × A) ⊎ ((fact → ⊥) × B)

  one_way : (fact A B C D same : Type 0) → (A → C → same) → ((fact → ⊥) → B → D → same) → Either fact A B → Either fact C D → same
  one_way fact A B C D same first second (inl a) (inl c) = first a.1 c.1
  one_way fact A B C D same first second (inl a) (inr d) = absurd (d.0 a.0)
  one_way fact A B C D same first second (inr b) (inl c) = absurd (b.0 c.0)
  one_way fact A B C D same first second (inr b) (inr d) = second b.0 b.1 d.1

  -- an answer ends the ticket late, or does what it says
  abbrev Ends : (Ticket → TreeNode → State → Type 0) → Ticket → TreeNode → State → Type 0
  Ends Does t x later = Either (IsOver goals s x) (later ≡ ended s number t x Idle) (Does t x later)

  one_end : (Does : Ticket → TreeNode → State → Type 0) (t : Ticket) (x : TreeNode) (m o : State)
      → ((IsOver goals s x → ⊥) → Does t x m → Does t x o → m ≡ o)
      → Ends Does t x m → Ends Does t x o → m ≡ o
  one_end Does t x m o one a b = one_way _ _ _ _ _ (m ≡ o) (λ c d. c ∙ sym d) one a b

  pub one_found : IsGrown goals s → (step : ProofStep) (m o : State) → Follows goals system s (entry (found step)) m
      → Follows goals system s (entry (found step)) o → m ≡ o
  one_found grown step m o (r, a) (q, b) =
      let does : Ticket → TreeNode → State → Type 0 = λ t x later. Decides goals system s number t x step later in
      one_end does q.ticket q.node m o (λ still c d. one_decided grown q.ticket q.node q.made step still m o c d)
      (at_one (found step) r q (λ t x. Ends does t x m) a) b

  pub one_failed : (failure : Failure) (m o : State) → Follows goals system s (entry (failed failure)) m
      → Follows goals system s (entry (failed failure)) o → m ≡ o
  one_failed failure m o (r, a) (q, b) =
      let does : Ticket → TreeNode → State → Type 0 = λ t x later. later ≡ ended s number t x (Failed failure) in
      one_end does q.ticket q.node m o (λ still c d. c ∙ sym d)
      (at_one (failed failure) r q (λ t x. Ends does t x m) a) b

  one_cancelled : (m o : State) → Follows goals system s (entry cancelled) m → Follows goals system s (entry cancelled) o → m ≡ o
  one_cancelled m o (r, a) (q, b) = at_one cancelled r q (λ t x. m ≡ ended s number t x Idle) a.1 ∙ sym b.1

  -- an abort ends the ticket, and the tree where no verdict stands
  abbrev Aborts : Ticket → TreeNode → State → Type 0
  Aborts t x later =
      Either (HasVerdict goals s) (later ≡ ended s number t x Idle) (later ≡ record (ended s number t x Idle) { is_aborted = true })

  one_aborted : (m o : State) → Follows goals system s (entry aborted) m → Follows goals system s (entry aborted) o → m ≡ o
  one_aborted m o (r, a) (q, b) =
      one_way _ _ _ _ _ (m ≡ o) (λ c d. c ∙ sym d) (λ still c d. c ∙ sym d) (at_one aborted r q (λ t x. Aborts t x m) a) b

  -- an entry
  pub one_follower : IsGrown goals s → (event : Event) (m o : State) → Follows goals system s (entry event) m → Follows goals system s (entry event) o → m ≡ o
  one_follower grown (claimed problem strategy) m o a b =
      let e = entry (claimed problem strategy) in
      same_claim goals s e e problem problem strategy strategy m o a b refl
  one_follower grown (found step) m o a b = one_found grown step m o a b
  one_follower grown (failed failure) m o a b = one_failed failure m o a b
  one_follower grown cancelled m o a b = one_cancelled m o a b
  one_follower grown aborted m o a b = one_aborted m o a b
