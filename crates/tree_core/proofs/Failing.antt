-- A failure is taken: the counts and flags of the board.
use Rattle.std.proofs.Common.{◌≡◌, ◌⊎◌, inl, inr, ℕ, Bool, true, false, ◌||◌, cond, List, length, set, position, Option, Some, None, slice_get, refl, sym, ap, ◌∙◌, subst, arith}
use Rattle.std.specs.Option.{is_some}
use Rattle.std.proofs.lemmas.Bool.{or_from, or_left, or_parts, or_right}
use native.Mathlib.Decide.{ℕ_discrete}
use mathlib.Core.Logic.{dite}
use Rattle.tree_state.specs.strategies.declared.failure.Failure.{Failure}
use Rattle.tree_state.specs.declared.goal_state.GoalState.{GoalState}
use Rattle.tree_state.specs.tree_definitions.declared.mark.Mark.{Mark}
use Rattle.tree_state.specs.tree_definitions.declared.mark.Mark.TheVariants.{Idle, Running, Failed}
use Rattle.tree_state.specs.tree_definitions.declared.ticket.Ticket.{Ticket}
use Rattle.tree_state.specs.tree_definitions.Marks.{is_idle, has_failed}
use Rattle.tree_state.specs.tree_definitions.States.{TreeNode, Decided, marked}
use Rattle.tree_state.specs.tree_definitions.Verdicts.{IsLost, IsStuck, HasFailed}
use Rattle.tree_state.specs.Parts.{Parts, free_place, is_lost_in, is_done_by, is_over_by, all_failed, lost_if, failed_parts}
use Rattle.tree_core.specs.Invariant.{AreCounted, opens}
use Rattle.tree_state.proofs.tree_definitions.Lookups.{get_set, get_set_other, length_set}
use Rattle.tree_state.proofs.tree_definitions.Lookups.{not_some, one_value, set_cases, set_there}
use Rattle.tree_core.proofs.Marking.{length_later, same_later, same_before, before, there_marked, closed_same, opens_marked}
use Rattle.tree_core.proofs.Endings.{count_ended}
use Rattle.tree_core.proofs.Counting.{shut}
use Rattle.tree_state.proofs.Idle.{position_set}
use Rattle.tree_core.proofs.Flags.{all_at, all_true}

-- nothing can be claimed of a node without an idle mark
pub none_at : (b : Bool) (o : Option ℕ) → o ≡ None → cond b None o ≡ None
none_at true o e = refl
none_at false o e = e

-- where more goals are lost, no more can be claimed
pub free_more : (goals more : List GoalState) → ((h : ℕ) → is_lost_in goals h ≡ true → is_lost_in more h ≡ true) → (x : TreeNode) → free_place goals x ≡ None → free_place more x ≡ None
free_more goals more grows x e = go (is_some x.decision) refl (is_lost_in goals x.goal) refl e
  where
    go : (a : Bool) → is_some x.decision ≡ a → (b : Bool) → is_lost_in goals x.goal ≡ b → cond (a || b) None (position is_idle x.marks) ≡ None → free_place more x ≡ None
    go true a b f e = shut more x (or_left (is_some x.decision) (is_lost_in more x.goal) a)
    go false a true f e = shut more x (or_right (is_some x.decision) (is_lost_in more x.goal) (grows x.goal f))
    go false a false f e = none_at (is_some x.decision || is_lost_in more x.goal) (position is_idle x.marks) e

-- the goals when one was lost
pub lost_cases : (b : Bool) (goals : List GoalState) (g h : ℕ) (goal : GoalState) → slice_get (lost_if b goals g) h ≡ Some goal
    → ((slice_get goals h ≡ Some goal) × ((h ≡ g) → b ≡ true → ⊥)) ⊎ ((h ≡ g) × (b ≡ true) × (old : GoalState) × (slice_get goals g ≡ Some old) × (goal ≡ record old { is_lost = true }))
lost_cases false goals g h goal there = inl (there, λ e f. cc)
lost_cases true goals g h goal there = go (slice_get goals g) refl there
  where
    go : (o : Option GoalState) → slice_get goals g ≡ o → slice_get (lost_if true goals g) h ≡ Some goal
        → ((slice_get goals h ≡ Some goal) × ((h ≡ g) → true ≡ true → ⊥)) ⊎ ((h ≡ g) × (true ≡ true) × (old : GoalState) × (slice_get goals g ≡ Some old) × (goal ≡ record old { is_lost = true }))
    go None e there =
        let same : lost_if true goals g ≡ goals = rw e refl in
        let here : slice_get goals h ≡ Some goal = rw (← same) there in
        inl (here, λ f t. let z = subst (λ (k : ℕ). slice_get goals k ≡ Some goal) f here in absurd cc)
    go (Some old) e there =
        let same : lost_if true goals g ≡ set goals g (record old { is_lost = true }) = rw e refl in
        let here : slice_get (set goals g (record old { is_lost = true })) h ≡ Some goal = rw (← same) there in
        elim (set_cases goals g h old (record old { is_lost = true }) goal e here) [
          | inl w ↦ inr (w.0, refl, old, e, w.1)
          | inr w ↦ inl (w.1, λ f t. w.0 f)
        ]

pub lost_length : (b : Bool) (goals : List GoalState) (g : ℕ) → length (lost_if b goals g) ≡ length goals
lost_length false goals g = refl
lost_length true goals g = go (slice_get goals g) refl
  where
    go : (o : Option GoalState) → slice_get goals g ≡ o → length (lost_if true goals g) ≡ length goals
    go None e = rw e refl
    go (Some old) e = rw e (length_set goals g (record old { is_lost = true }))

pub lost_grows : (b : Bool) (goals : List GoalState) (g h : ℕ) → is_lost_in goals h ≡ true → is_lost_in (lost_if b goals g) h ≡ true
lost_grows false goals g h e = e
lost_grows true goals g h e = go (slice_get goals g) refl
  where
    go : (o : Option GoalState) → slice_get goals g ≡ o → is_lost_in (lost_if true goals g) h ≡ true
    go None f = rw f e
    go (Some old) f = dite (ℕ_discrete h g)
        (λ same. let here = get_set goals g (record old { is_lost = true }) old f in
        let here_h = subst (λ (k : ℕ). slice_get (set goals g (record old { is_lost = true })) k ≡ Some (record old { is_lost = true })) (sym same) here in
        rw (f, here_h) refl)
        (λ other. let there = get_set_other goals g h (record old { is_lost = true }) (λ q. other q) in rw (f, there) e)

pub failed_is : (m : Mark) → has_failed m ≡ true → HasFailed m
failed_is Idle e = absurd cc
failed_is Running e = absurd cc
failed_is (Failed failure) e = (failure, refl)

of_failed : (m : Mark) → HasFailed m → has_failed m ≡ true
of_failed m h = rw (h.1) refl

module _ (goals : ℕ) (p : Parts) (c : AreCounted goals p) (number : ℕ) (t : Ticket) (there : slice_get p.state.tickets number ≡ Some t) (runs : t.is_running ≡ true)
    (node : TreeNode) (made : slice_get p.state.nodes t.node ≡ Some node) (was : slice_get node.marks t.place ≡ Some Running) (wanted : is_over_by p node ≡ false) (failure : Failure) where
  pub still_going : is_done_by p ≡ false
  still_going = (or_parts (is_some node.decision || is_lost_in p.goals node.goal) (is_done_by p) wanted).1

  pub node_open : node.decision ≡ None
  node_open = not_some node.decision (or_parts (is_some node.decision) (is_lost_in p.goals node.goal) (or_parts (is_some node.decision || is_lost_in p.goals node.goal) (is_done_by p) wanted).0).0

  pub goal_live : is_lost_in p.goals node.goal ≡ false
  goal_live = (or_parts (is_some node.decision) (is_lost_in p.goals node.goal) (or_parts (is_some node.decision || is_lost_in p.goals node.goal) (is_done_by p) wanted).0).1

  abbrev new : TreeNode
  new = marked node t.place (Failed failure)

  abbrev nodes : List TreeNode
  nodes = set p.state.nodes t.node new

  abbrev stuck : Bool
  stuck = all_failed new.marks

  lost_still : (g : ℕ) → IsLost p.state.nodes g → IsLost nodes g
  lost_still g h = dite (ℕ_discrete h.n t.node)
      (λ at.
      let is : h.node ≡ node = one_value (slice_get p.state.nodes t.node) h.node node (subst (λ (j : ℕ). slice_get p.state.nodes j ≡ Some h.node) at h.there) made in
      let s = subst IsStuck is h.stuck in
      let f = (s.failed t.place Running was).1 in absurd cc)
      (λ other. record { n = h.n; node = h.node; there = set_there p.state.nodes t.node h.n new h.node (λ e. other e) h.there; goal = h.goal; stuck = h.stuck })

  lost_was : (g : ℕ) → IsLost nodes g → IsLost p.state.nodes g ⊎ ((g ≡ node.goal) × (stuck ≡ true))
  lost_was g h = elim (set_cases p.state.nodes t.node h.n node new h.node made h.there) [
    | inl w ↦
        let s = subst IsStuck w.1 h.stuck in
        inr (sym h.goal ∙ ap (λ (x : TreeNode). x.goal) w.1, all_true has_failed new.marks (λ k m at. of_failed m (s.failed k m at)))
    | inr w ↦ inl (record { n = h.n; node = h.node; there = w.1; goal = h.goal; stuck = h.stuck })
  ]

  lost_now : stuck ≡ true → IsLost nodes node.goal
  lost_now all = record {
    n = t.node;
    node = new;
    there = there_marked p.state.nodes t.node t.place node (Failed failure) made;
    goal = refl;
    stuck = record { is_open = node_open; failed = λ place mark at. failed_is mark (all_at has_failed new.marks all place mark at) };
  }

  pub counted_failed : AreCounted goals (failed_parts p number t node failure)
  counted_failed = record {
    length_is = lost_length stuck p.goals node.goal ∙ c.length_is;
    each = λ g goal here. elim (lost_cases stuck p.goals node.goal g goal here) [
      | inl w ↦
          let h = c.each g goal w.0 in
          record {
            open_is = h.open_is ∙ sym (opens_marked g p.state.nodes t.node t.place node (Failed failure) made);
            lost = λ e. lost_still g (h.lost e);
            not_lost = λ l. elim (lost_was g l) [ inl v ↦ h.not_lost v | inr v ↦ absurd (w.1 v.0 v.1) ];
          }
      | inr w ↦
          let h = c.each node.goal w.2 w.3 in
          let opens_g : goal.open_nodes ≡ opens g p.state.nodes = ap (λ (x : GoalState). x.open_nodes) w.4 ∙ (h.open_is ∙ ap (λ (k : ℕ). opens k p.state.nodes) (sym w.0)) in
          record {
            open_is = opens_g ∙ sym (opens_marked g p.state.nodes t.node t.place node (Failed failure) made);
            lost = λ e. subst (IsLost nodes) (sym w.0) (lost_now w.1);
            not_lost = λ l. ap (λ (x : GoalState). x.is_lost) w.4;
          }
    ];
    winner = λ g w. let x = c.winner g w in (x.0, closed_same p.state.nodes nodes (same_later p.state.nodes t.node t.place node (Failed failure) made) g x.1);
    no_winner = λ w g lt won. c.no_winner w g lt (closed_same nodes p.state.nodes (same_before p.state.nodes t.node t.place node (Failed failure) made) g won);
    only = λ g lt won. c.only g lt (closed_same nodes p.state.nodes (same_before p.state.nodes t.node t.place node (Failed failure) made) g won);
    running = omega (arith, c.running, count_ended p.state.tickets number t there runs);
    room = omega (arith, c.room);
    cursor = omega (arith, c.cursor, length_later p.state.nodes t.node t.place node (Failed failure) made);
    passed = λ going k y lt here.
        let b = before p.state.nodes t.node t.place node (Failed failure) made k y here in
        elim b.3 [
          | inl w ↦
              let there_n = subst (λ (j : ℕ). slice_get p.state.nodes j ≡ Some node) (sym w.0) made in
              let old = c.passed still_going k node lt there_n in
              let pos : position is_idle node.marks ≡ None = subst (λ (z : Bool). cond z None (position is_idle node.marks) ≡ None) (or_from (is_some node.decision) (is_lost_in p.goals node.goal)
              (ap (λ (d : Option Decided). is_some d) node_open) goal_live) old in
              let pos_new : position is_idle new.marks ≡ None = position_set node.marks t.place Running (Failed failure) was refl refl ∙ pos in
              subst (λ (x : TreeNode). free_place (lost_if stuck p.goals node.goal) x ≡ None) (sym w.1)
              (none_at (is_some new.decision || is_lost_in (lost_if stuck p.goals node.goal) new.goal) (position is_idle new.marks) pos_new)
          | inr w ↦ subst (λ (x : TreeNode). free_place (lost_if stuck p.goals node.goal) x ≡ None) (sym w.1)
              (free_more p.goals (lost_if stuck p.goals node.goal) (lost_grows stuck p.goals node.goal) b.0 (c.passed still_going k b.0 lt b.1))
        ];
  }
