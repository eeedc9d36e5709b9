-- Where a step decides a node, no goal but the node's is won by it.
use Rattle.std.proofs.Common.{◌≡◌, inl, inr, ℕ, zero, suc, ◌<◌, ◌+◌, ◌-◌, List, [], ◌∷◌, map, length, set, Option, Some, None, slice_get, refl, sym, ap, ◌∙◌, subst, arith}
use native.Mathlib.Decide.{ℕ_discrete}
use mathlib.Core.Logic.{dite}
use Rattle.trs_defs.specs.System.{System}
use Rattle.trs_defs.proofs.ListItems.{kept_item, image_item, item_there}
use Rattle.tree_state.specs.cert_step.ProofProblem.{ProofProblem}
use Rattle.tree_state.specs.cert_step.ProofStep.{ProofStep}
use Rattle.tree_state.specs.strategies.declared.failure.Failure.{Failure}
use Rattle.tree_state.specs.strategies.declared.strategy.Strategy.{Strategy}
use Rattle.tree_state.specs.tree_definitions.declared.mark.Mark.{Mark}
use Rattle.tree_state.specs.tree_definitions.declared.mark.Mark.TheVariants.{Idle, Running, Failed}
use Rattle.tree_state.specs.tree_definitions.declared.question.Question.{Question}
use Rattle.tree_state.specs.tree_definitions.declared.ticket.Ticket.{Ticket}
use Rattle.tree_state.specs.tree_definitions.Questions.{roots, goal_count}
use Rattle.tree_state.specs.tree_definitions.History.{HistoryEntry, Event, claimed, found, failed, cancelled, aborted}
use Rattle.tree_state.specs.tree_definitions.States.{TreeNode, State, Decided, IsChild, new_node, roots_from, opening, marked}
use Rattle.tree_state.specs.tree_definitions.Verdicts.{IsClosed, closed, IsWon, IsFirstWinner}
use Rattle.tree_state.specs.tree_definitions.Events.{Claims, RunsAt, IsOver, done, Follows, ended, nodes_with, without}
use Rattle.tree_state.proofs.tree_definitions.Lookups.{one_value, get_set, length_set, set_cases, set_there, append_right, append_cases, map_cases}
use Rattle.tree_state.proofs.tree_definitions.Roots.{root_below, root_there}
use Rattle.tree_core.specs.Invariant.{IsOf}
use Rattle.tree_core.proofs.Won.{closed_decided}
use Rattle.tree_core.proofs.Marking.{of_same, closed_same, same_later, same_before}

-- node g is of goal g, the children of a node are of its goal, and where no goal has won, none is won
pub record IsGrown (goals : ℕ) (s : State) : Type 0 where
  pub root : (g : ℕ) → g < goals → IsOf s.nodes g g
  pub kin : (n : ℕ) (node : TreeNode) (d : Decided) → slice_get s.nodes n ≡ Some node → node.decision ≡ Some d → (c : ℕ) → IsChild d c
      → IsOf s.nodes c node.goal
  pub not_won : s.winner ≡ None → (g : ℕ) → g < goals → IsWon s.nodes g → ⊥

-- ---- the opening

root_open : (h : ℕ) (ps : List ProofProblem) (k : ℕ) (y : TreeNode) (d : Decided) → slice_get (roots_from h ps) k ≡ Some y → y.decision ≡ Some d → ⊥
root_open h [] k y d there dec = absurd cc
root_open h (q ∷ ps) zero y d there dec =
    let same : new_node h q ≡ y = cc in
    let none : None ≡ y.decision = ap (λ (x : TreeNode). x.decision) same in absurd cc
root_open h (q ∷ ps) (suc k) y d there dec = root_open (h + 1) ps k y d there dec

pub grown_opening : (question : Question) → IsGrown (goal_count question) (opening question)
grown_opening question =
    let there : (g : ℕ) → g < goal_count question → (p : ProofProblem) × (slice_get (roots_from 0 (roots question)) g ≡ Some (new_node (0 + g) p)) =
    λ g lt. let q = root_below question g lt in (q.0, root_there 0 (roots question) g q.0 q.1) in
    record {
      root = λ g lt. let q = there g lt in record { node = new_node (0 + g) q.0; there = q.1; goal_is = omega arith };
      kin = λ n node d at dec c child. absurd (root_open 0 (roots question) n node d at dec);
      not_won = λ none g lt won.
          let q = there g lt in
          let d = closed_decided (roots_from 0 (roots question)) g won (new_node (0 + g) q.0) q.1 in
          root_open 0 (roots question) g (new_node (0 + g) q.0) d.0 q.1 d.1;
    }

-- ---- a mark is written

pub grown_marked : (goals : ℕ) (s : State) (n place : ℕ) (node : TreeNode) (mark : Mark) (tickets : List Ticket) → slice_get s.nodes n ≡ Some node
    → IsGrown goals s
    → IsGrown goals (record s { nodes = set s.nodes n (marked node place mark); tickets = tickets })
grown_marked goals s n place node mark tickets there g =
    let later = same_later s.nodes n place node mark there in
    let before = same_before s.nodes n place node mark there in
    let nodes = set s.nodes n (marked node place mark) in
    record {
      root = λ h lt. of_same s.nodes nodes later h h (g.root h lt);
      kin = λ k y d at dec c child.
          let x = before k y at in
          let o = of_same s.nodes nodes later c x.0.goal (g.kin k x.0 d x.1 (x.2.decision ∙ dec) c child) in
          record { node = o.node; there = o.there; goal_is = o.goal_is ∙ x.2.goal };
      not_won = λ none h lt won. g.not_won none h lt (closed_same nodes s.nodes before h won);
    }

-- ---- a node is decided

module _ (goals : ℕ) (s : State) (grown : IsGrown goals s) (t : Ticket) (node : TreeNode) (made : slice_get s.nodes t.node ≡ Some node)
    (step : ProofStep) (left : List ProofProblem) where
  abbrev made_of : Decided
  made_of = record { step = step; first = length s.nodes; count = length left }

  abbrev shut : TreeNode
  shut = record (marked node t.place Idle) { decision = Some made_of }

  abbrev old : List TreeNode
  old = set s.nodes t.node shut

  abbrev new : List TreeNode
  new = map (new_node node.goal) left

  abbrev nodes : List TreeNode
  nodes = nodes_with s t node step left

  still : (k : ℕ) (x : TreeNode) → slice_get s.nodes k ≡ Some x → (k ≡ t.node → ⊥) → slice_get nodes k ≡ Some x
  still k x there other = kept_item old new k x (set_there s.nodes t.node k shut x (λ e. other e) there)

  is_shut : slice_get nodes t.node ≡ Some shut
  is_shut = kept_item old new t.node shut (get_set s.nodes t.node shut node made)

  -- each node is of its goal as before
  of_later : (k g : ℕ) → IsOf s.nodes k g → IsOf nodes k g
  of_later k g o = dite (ℕ_discrete k t.node)
      (λ same.
      let at = subst (λ (j : ℕ). slice_get s.nodes j ≡ Some o.node) same o.there in
      let is : o.node ≡ node = one_value (slice_get s.nodes t.node) o.node node at made in
      record {
        node = shut;
        there = subst (λ (j : ℕ). slice_get nodes j ≡ Some shut) (sym same) is_shut;
        goal_is = sym (ap (λ (x : TreeNode). x.goal) is) ∙ o.goal_is;
      })
      (λ other. record { node = o.node; there = still k o.node o.there (λ e. other e); goal_is = o.goal_is })

  -- a node of another goal that is closed was closed before
  other_closed : (k : ℕ) → IsClosed nodes k → (x : TreeNode) → slice_get s.nodes k ≡ Some x → (x.goal ≡ node.goal → ⊥) → IsClosed s.nodes k
  other_closed _ (closed k y d there dec kids) x was other = go (ℕ_discrete k t.node) (λ c child o. other_closed c (kids c child) o)
    where
      go : Dec (k ≡ t.node)
          → ((c : ℕ) → IsChild d c → (o : TreeNode) → slice_get s.nodes c ≡ Some o → (o.goal ≡ node.goal → ⊥) → IsClosed s.nodes c)
          → IsClosed s.nodes k
      go (yes same) below =
          let is : x ≡ node = one_value (slice_get s.nodes t.node) x node (subst (λ (j : ℕ). slice_get s.nodes j ≡ Some x) same was) made in
          absurd (other (ap (λ (z : TreeNode). z.goal) is))
      go (no differs) below =
          let is : y ≡ x = one_value (slice_get nodes k) y x there (still k x was (λ e. differs e)) in
          let dec_x : x.decision ≡ Some d = sym (ap (λ (z : TreeNode). z.decision) is) ∙ dec in
          closed k x d was dec_x (λ c child.
          let o = grown.kin k x d was dec_x c child in
          below c child o.node o.there (λ e. other (sym o.goal_is ∙ e)))

  won_here : (g : ℕ) → g < goals → IsWon nodes g → (IsWon s.nodes g → ⊥) → g ≡ node.goal
  won_here g lt won not_before =
      let r = grown.root g lt in
      dite (ℕ_discrete g node.goal) (λ same. same) (λ other. absurd (not_before (other_closed g won r.node r.there (λ e. other (sym r.goal_is ∙ e)))))

  none_won : (IsOver goals s node → ⊥) → s.winner ≡ None
  none_won wanted = go s.winner refl
    where
      go : (w : Option ℕ) → s.winner ≡ w → s.winner ≡ None
      go None e = e
      go (Some g) e = absurd (wanted (done (inl (inl (g, e)))))

  pub one_winner : (IsOver goals s node → ⊥) → (a b : Option ℕ) → IsFirstWinner goals nodes a → IsFirstWinner goals nodes b → a ≡ b
  one_winner wanted None None w v = refl
  one_winner wanted None (Some h) w v = absurd (w h v.0 v.1)
  one_winner wanted (Some g) None w v = absurd (v g w.0 w.1)
  one_winner wanted (Some g) (Some h) w v =
      let not_before = grown.not_won (none_won wanted) in
      ap Some (won_here g w.0 w.1 (not_before g w.0) ∙ sym (won_here h v.0 v.1 (not_before h v.0)))

  new_there : (j : ℕ) → j < length left → IsOf nodes (length s.nodes + j) node.goal
  new_there j lt =
      let q = item_there left j lt in
      record {
        node = new_node node.goal q.0;
        there = append_right old new j (length s.nodes + j) (new_node node.goal q.0)
            (omega (arith, length_set s.nodes t.node shut)) (image_item (new_node node.goal) left j q.0 q.1);
        goal_is = refl;
      }

  kin_later : (k : ℕ) (y : TreeNode) (d : Decided) → slice_get nodes k ≡ Some y → y.decision ≡ Some d → (c : ℕ) → IsChild d c → IsOf nodes c y.goal
  kin_later k y d there dec c child = elim (append_cases old new k y there) [
    | inl w ↦ elim (set_cases s.nodes t.node k node shut y made w) [
      | inl v ↦
          let some : y.decision ≡ shut.decision = ap (λ (z : TreeNode). z.decision) v.1 in
          let is : d ≡ made_of = one_value y.decision d made_of dec some in
          let range : IsChild made_of c = subst (λ (z : Decided). IsChild z c) is child in
          let o = new_there (c - length s.nodes) (omega (arith, range.0, range.1)) in
          let at : length s.nodes + (c - length s.nodes) ≡ c = omega (arith, range.0) in
          rw v.1 (subst (λ (j : ℕ). IsOf nodes j node.goal) at o)
      | inr v ↦ of_later c y.goal (grown.kin k y d v.1 dec c child)
    ]
    | inr w ↦
        let m = map_cases (new_node node.goal) left w.0 y w.2 in
        let none : y.decision ≡ None = ap (λ (z : TreeNode). z.decision) m.2 in
        absurd cc
  ]

  pub grown_decided : (tickets : List Ticket) (winner : Option ℕ) → IsFirstWinner goals nodes winner
      → IsGrown goals (record s { nodes = nodes; tickets = tickets; winner = winner })
  grown_decided tickets winner first = record {
    root = λ g lt. of_later g g (grown.root g lt);
    kin = kin_later;
    not_won = λ none g lt won. subst (IsFirstWinner goals nodes) none first g lt won;
  }

-- ---- an entry

module _ (goals : ℕ) (system : System) (s : State) (grown : IsGrown goals s) (seat ticket : ℕ) where
  abbrev entry : Event → HistoryEntry
  entry event = record { seat = seat; ticket = ticket; event = event }

  grown_end : (event : Event) (r : RunsAt s (entry event)) (mark : Mark) (next : State) → next ≡ ended s ticket r.ticket r.node mark → IsGrown goals next
  grown_end event r mark next after =
      subst (IsGrown goals) (sym after) (grown_marked goals s r.ticket.node r.ticket.place r.node mark _ r.made grown)

  pub grown_claim : (problem : ProofProblem) (strategy : Strategy) (next : State)
      → Claims goals s (entry (claimed problem strategy)) problem strategy next → IsGrown goals next
  grown_claim problem strategy next c =
      subst (IsGrown goals) (sym c.after) (grown_marked goals s c.n c.place c.node Running _ c.free.there grown)

  pub grown_found : (step : ProofStep) (next : State) → Follows goals system s (entry (found step)) next → IsGrown goals next
  grown_found step next (r, inl late) = grown_end (found step) r Idle next late.1
  grown_found step next (r, inr (wanted, d)) =
      subst (IsGrown goals) (sym d.after)
      (grown_decided goals s grown r.ticket r.node r.made step d.left (without s.tickets ticket r.ticket) d.winner d.first)

  pub grown_failed : (failure : Failure) (next : State) → Follows goals system s (entry (failed failure)) next → IsGrown goals next
  grown_failed failure next (r, inl late) = grown_end (failed failure) r Idle next late.1
  grown_failed failure next (r, inr (wanted, after)) = grown_end (failed failure) r (Failed failure) next after

  grown_aborted : (next : State) → Follows goals system s (entry aborted) next → IsGrown goals next
  grown_aborted next (r, inl late) = grown_end aborted r Idle next late.1
  grown_aborted next (r, inr (none, after)) =
      let g = grown_end aborted r Idle (ended s ticket r.ticket r.node Idle) refl in
      subst (IsGrown goals) (sym after) (record { root = g.root; kin = g.kin; not_won = g.not_won })

  pub grown_later : (event : Event) (next : State) → Follows goals system s (entry event) next → IsGrown goals next
  grown_later (claimed problem strategy) next f = grown_claim problem strategy next f
  grown_later (found step) next f = grown_found step next f
  grown_later (failed failure) next f = grown_failed failure next f
  grown_later cancelled next (r, late) = grown_end cancelled r Idle next late.1
  grown_later aborted next f = grown_aborted next f
