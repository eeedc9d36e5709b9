-- The counts and flags of a board when a ticket has ended.
use Rattle.std.proofs.Common.{◌≡◌, inl, inr, ℕ, ◌<◌, Bool, true, false, ◌||◌, not, List, set, Some, None, slice_get, refl, sym, ◌∙◌, subst, arith}
use Rattle.std.specs.Option.{is_some}
use Rattle.std.proofs.lemmas.Bool.{or_cases}
use Rattle.tree_state.specs.declared.goal_state.GoalState.{GoalState}
use Rattle.tree_state.specs.tree_definitions.declared.mark.Mark.{Mark}
use Rattle.tree_state.specs.tree_definitions.declared.mark.Mark.TheVariants.{Idle}
use Rattle.tree_state.specs.tree_definitions.declared.ticket.Ticket.{Ticket}
use Rattle.tree_state.specs.tree_definitions.States.{TreeNode, marked}
use Rattle.tree_state.specs.tree_definitions.Verdicts.{HasFailed}
use Rattle.tree_state.specs.tree_definitions.Events.{ended}
use Rattle.tree_state.specs.tree_definitions.History.{Event, aborted}
use Rattle.tree_state.specs.Parts.{Parts, free_place, is_lost_in, is_done_by, is_over_by, has_verdict_by, ended_parts, aborted_parts}
use Rattle.tree_core.specs.Invariant.{IsCounted, AreCounted}
use Rattle.tree_core.proofs.Marking.{length_later, same_later, same_before, before, closed_same, lost_later, lost_before, opens_marked}
use Rattle.tree_core.proofs.Endings.{count_ended}
use Rattle.tree_core.proofs.Flags.{true_false}

-- of a decided node, or one of a lost goal, nothing can be claimed
pub shut : (goals : List GoalState) (node : TreeNode) → (is_some node.decision || is_lost_in goals node.goal) ≡ true → free_place goals node ≡ None
shut goals node e = rw e refl

pub idle_ok : HasFailed Idle → ⊥
idle_ok h = let e = h.1 in absurd cc

pub counted_marked : (nodes : List TreeNode) (n place : ℕ) (node : TreeNode) (mark old : Mark) → slice_get nodes n ≡ Some node → slice_get node.marks place ≡ Some old
    → (HasFailed old → ⊥) → (HasFailed mark → ⊥) → (g : ℕ) (goal : GoalState) → IsCounted nodes g goal → IsCounted (set nodes n (marked node place mark)) g goal
counted_marked nodes n place node mark old there was old_ok new_ok g goal h = record {
  open_is = h.open_is ∙ sym (opens_marked g nodes n place node mark there);
  lost = λ e. lost_later nodes n place node mark there old was old_ok new_ok g (h.lost e);
  not_lost = λ l. h.not_lost (lost_before nodes n place node mark there old was old_ok new_ok g l);
}

module _ (goals : ℕ) (p : Parts) (c : AreCounted goals p) (number : ℕ) (t : Ticket) (there : slice_get p.state.tickets number ≡ Some t) (runs : t.is_running ≡ true)
    (node : TreeNode) (made : slice_get p.state.nodes t.node ≡ Some node) (old : Mark) (was : slice_get node.marks t.place ≡ Some old) (old_ok : HasFailed old → ⊥) where
  pub some_run : 0 < p.running
  some_run = omega (arith, c.running, count_ended p.state.tickets number t there runs)

  pub some_room : 0 < p.room
  some_room = omega (arith, some_run, c.room)

  module _ (event : Event) (stops : Bool) where
    abbrev pub after : Parts
    after = record (ended_parts p number t node event Idle) { state = record (ended p.state number t node Idle) { is_aborted = stops } }

    -- an ending without a failure
    pub counted_ended : (is_done_by after ≡ false → (k : ℕ) (y : TreeNode) → k < p.cursor → slice_get after.state.nodes k ≡ Some y → free_place p.goals y ≡ None)
        → AreCounted goals after
    counted_ended passed =
        let nodes = p.state.nodes in
        record {
          length_is = c.length_is;
          each = λ g goal here. counted_marked nodes t.node t.place node Idle old made was old_ok idle_ok g goal (c.each g goal here);
          winner = λ g w. let x = c.winner g w in (x.0, closed_same nodes (set nodes t.node (marked node t.place Idle)) (same_later nodes t.node t.place node Idle made) g x.1);
          no_winner = λ w g lt won. c.no_winner w g lt (closed_same (set nodes t.node (marked node t.place Idle)) nodes (same_before nodes t.node t.place node Idle made) g won);
          only = λ g lt won. c.only g lt (closed_same (set nodes t.node (marked node t.place Idle)) nodes (same_before nodes t.node t.place node Idle made) g won);
          running = omega (arith, c.running, count_ended p.state.tickets number t there runs);
          room = omega (arith, c.room);
          cursor = omega (arith, c.cursor, length_later nodes t.node t.place node Idle made);
          passed = passed;
        }

  -- an ending that comes late: nothing of the node can be claimed
  pub counted_late : (event : Event) → is_over_by p node ≡ true → AreCounted goals (ended_parts p number t node event Idle)
  counted_late event over = counted_ended event p.state.is_aborted (λ going k y lt here.
      let b = before p.state.nodes t.node t.place node Idle made k y here in
      elim b.3 [
        | inl w ↦ elim (or_cases (is_some node.decision || is_lost_in p.goals node.goal) (is_done_by p) over) [
          | inl v ↦ shut p.goals y (subst (λ (x : TreeNode). (is_some x.decision || is_lost_in p.goals x.goal) ≡ true) (sym w.1) v)
          | inr v ↦ absurd (true_false (is_done_by p) v going)
        ]
        | inr w ↦ subst (λ (x : TreeNode). free_place p.goals x ≡ None) (sym w.1) (c.passed going k b.0 lt b.1)
      ])

  -- an abort: nothing more is claimed
  pub counted_aborted : AreCounted goals (aborted_parts p number t node)
  counted_aborted = counted_ended aborted (p.state.is_aborted || not (has_verdict_by p)) (λ going k y lt here. absurd (done going))
    where
      done : ((has_verdict_by p || (p.state.is_aborted || not (has_verdict_by p))) ≡ false) → ⊥
      done e = go (has_verdict_by p) p.state.is_aborted e
        where
          go : (v a : Bool) → (v || (a || not v)) ≡ false → ⊥
          go true a e = absurd cc
          go false true e = absurd cc
          go false false e = absurd cc
