-- A post leaves a tree.
use Rattle.std.proofs.Common.{◌≡◌, ◌≢◌, inl, inr, ℕ, ◌<◌, ◌≤◌, ◌+◌, ◌-◌, ◌==◌, Bool, true, false, cond, List, [], ◌∷◌, ◌++◌, length, map, set, Option, Some, None, slice_get, refl, sym, ap, ◌∙◌, subst, arith}
use Rattle.std.specs.Option.{is_some}
use Rattle.std.proofs.lemmas.Bool.{eqb-true, eqb-false, or_left, or_parts}
use native.Mathlib.Decide.{ℕ_discrete}
use mathlib.Core.Logic.{dite}
use Rattle.trs_defs.specs.System.{System}
use Rattle.trs_defs.proofs.ListItems.{item_there}
use Rattle.trs_defs.proofs.Members.{in_of_get}
use Rattle.tree_state.specs.cert_step.ProofProblem.{ProofProblem, IsWellMadeProblem}
use Rattle.tree_state.specs.cert_step.ProofStep.{ProofStep}
use Rattle.tree_state.specs.strategies.declared.failure.Failure.{Failure}
use Rattle.tree_state.specs.strategies.declared.failure.Failure.TheVariants.{Spent}
use Rattle.tree_state.specs.strategies.declared.strategy.Strategy.{Strategy}
use Rattle.tree_state.specs.strategies.Kinds.{strategies_for}
use Rattle.tree_state.specs.strategies.Runs as run
use Rattle.tree_state.specs.strategies.Runs.{Found, Run}
use Rattle.tree_state.specs.strategies.Truth.{IsFound, IsTrueFound, IsTrueRun}
use Rattle.tree_state.specs.tree_definitions.declared.question.Question.{Question}
use Rattle.tree_state.specs.declared.goal_state.GoalState.{GoalState}
use Rattle.tree_state.specs.tree_definitions.declared.mark.Mark.TheVariants.{Idle, Running, Failed}
use Rattle.tree_state.specs.tree_definitions.declared.ticket.Ticket.{Ticket}
use Rattle.tree_state.specs.tree_definitions.Questions.{goal_count}
use Rattle.tree_state.specs.tree_definitions.History.{HistoryEntry, Event, claimed, found, failed}
use Rattle.tree_state.specs.tree_definitions.States.{TreeNode, State, opening, marked, new_node}
use Rattle.tree_state.specs.tree_definitions.Verdicts.{IsWon, IsFirstWinner}
use Rattle.tree_state.specs.tree_definitions.Events.{Follows, IsOver, ended, nodes_with, without}
use Rattle.tree_state.specs.tree_definitions.Legal.{IsLegal, Carries}
use Rattle.tree_state.specs.Parts.{Parts, HasTicket, free_place, is_lost_in, lost_at, is_done_by, is_over_by, failed_parts, decided_parts, opened, winner_after, no_open_nodes}
use Rattle.tree_state.specs.tree_definitions.Replies.{IsTaskOf, event_of_found}
use Rattle.tree_core.specs.Invariant.{IsTree, IsShaped, AreCounted, IsCounted, opens}
use Rattle.tree_state.proofs.tree_definitions.Lookups.{get_set, get_set_other, length_set}
use Rattle.tree_state.proofs.tree_definitions.Lookups.{not_some, one_value, set_cases}
use Rattle.tree_state.proofs.Changes.{set_twice}
use Rattle.tree_core.proofs.Marking.{carries_same, there_marked, before, same_later, same_before, closed_same, length_later, problems_marked}
use Rattle.tree_core.proofs.Endings.{IsFailure, shape_ended, legal_ended, well_made_ended, count_ended}
use Rattle.tree_core.proofs.Counting.{counted_marked, idle_ok, shut}
use Rattle.tree_core.proofs.Failing.{still_going, node_open, counted_failed, free_more}
use Rattle.tree_core.proofs.Deciding as deciding
use Rattle.tree_core.proofs.Deciding.{At}
use Rattle.tree_core.proofs.Won.{won_none_open, none_open_won, is_open_of}
use Rattle.tree_core.proofs.Flags.{over_is, is_over, true_false}
use Rattle.tree_core.proofs.Told.{told_ending}
use Rattle.std.proofs.lemmas.List.{length-append}
use Rattle.tree_state.specs.strategies.TaskBounds.{pairs_in, tasks_below, tasks_of_all}
use Rattle.tree_state.proofs.strategies.Shrinking.{found_shrinks}
use Rattle.tree_core.proofs.Bounding.{bounded_failure, bounded_step}
use Rattle.tree_core.proofs.Given.{KeepProblems, given_ending, places_ended}
use Rattle.tree_core.proofs.Trees.{was, running_ok, runs_at, tree_of, replays_more, no_failed_running, not_running_idle, not_failed_idle}

opened_is : (goals : List GoalState) (g count : ℕ) (old : GoalState) → slice_get goals g ≡ Some old → opened goals g count ≡ set goals g (record old { open_nodes = old.open_nodes - 1 + count })
opened_is goals g count old e = rw e refl

-- what an outcome says of its ticket is no claim
pub no_claim : (f : Found) (problem : ProofProblem) (strategy : Strategy) → event_of_found f ≡ claimed problem strategy → ⊥
no_claim (run.found step left) problem strategy e = absurd cc
no_claim (run.failed failure) problem strategy e = absurd cc

module _ (question : Question) (system : System) (budget : ℕ) (p : Parts) (tree : IsTree question system budget p) (number : ℕ) (h : HasTicket p number) where
  abbrev goals : ℕ
  goals = goal_count question

  abbrev entry : Event → HistoryEntry
  entry event = record { seat = h.ticket.seat; ticket = number; event = event }

  run_more : 0 < p.running
  run_more = running_ok question system budget p tree number h

  run_less : p.running - 1 + 1 ≡ p.running
  run_less = let r = run_more in omega (arith, r)

  was_here : slice_get h.node.marks h.ticket.place ≡ Some Running
  was_here = was question system budget p tree number h

  -- an answer that comes late
  pub late_post : (f : Found) → is_over_by p h.node ≡ true → Follows goals system p.state (entry (event_of_found f)) (ended p.state number h.ticket h.node Idle)
  late_post (run.found step left) over = (runs_at question system budget p tree number h (found step), inl (over_is goals p tree.counted h.node over, refl))
  late_post (run.failed failure) over = (runs_at question system budget p tree number h (failed failure), inl (over_is goals p tree.counted h.node over, refl))

  -- what is true of the outcome of the ticket's task
  pub record IsTaskTruth (o : Run) : Type 0 where
    pub strategy_at : slice_get (strategies_for h.node.problem) h.ticket.place ≡ Some o.strategy
    pub holds : IsTrueFound system budget o.strategy h.node.problem o.found

  pub truth : (o : Run) → IsTaskOf (tree_of question system budget p) number o → IsTrueRun o → IsTaskTruth o
  truth o task true_run =
      let k = tree.given task.seat number o.problem o.strategy task.given in
      let t = one_value (slice_get p.state.tickets number) k.ticket h.ticket k.there h.there in
      let made = subst (λ (x : Ticket). slice_get p.state.nodes x.node ≡ Some k.node) t k.made in
      let n = one_value (slice_get p.state.nodes h.ticket.node) k.node h.node made h.made in
      let at_ticket = subst (λ (x : Ticket). slice_get (strategies_for k.node.problem) x.place ≡ Some o.strategy) t k.strategy_is in
      let problem_is : o.problem ≡ h.node.problem = sym k.problem_is ∙ ap (λ (x : TreeNode). x.problem) n in
      record {
        strategy_at = subst (λ (x : TreeNode). slice_get (strategies_for x.problem) h.ticket.place ≡ Some o.strategy) n at_ticket;
        holds = subst (λ (q : ProofProblem). IsTrueFound system budget o.strategy q o.found) problem_is
            (subst (λ (b : ℕ). IsTrueFound system b o.strategy o.problem o.found) task.budget
            (subst (λ (s : System). IsTrueFound s o.budget o.strategy o.problem o.found) task.system true_run.holds));
      }

  module _ (wanted : is_over_by p h.node ≡ false) where
    not_over : IsOver goals p.state h.node → ⊥
    not_over o = true_false (is_over_by p h.node) (is_over goals p tree.counted h.node (tree.shaped.range h.ticket.node h.node h.made) o) wanted

    going : is_done_by p ≡ false
    going = still_going goals p tree.counted number h.ticket h.there h.runs h.node h.made was_here wanted Spent

    is_open : h.node.decision ≡ None
    is_open = node_open goals p tree.counted number h.ticket h.there h.runs h.node h.made was_here wanted Spent

    -- ---- a failure is taken

    pub fail_follows : (failure : Failure) → Follows goals system p.state (entry (failed failure)) (ended p.state number h.ticket h.node (Failed failure))
    fail_follows failure = (runs_at question system budget p tree number h (failed failure), inr (not_over, refl))

    pub fail_tree : (failure : Failure) → IsFailure system budget h.node h.ticket.place failure → IsTree question system budget (failed_parts p number h.ticket h.node failure)
    fail_tree failure fails = record {
      valid = tree.valid;
      replays = replays_more goals system (opening question) p.history p.state (entry (failed failure)) (ended p.state number h.ticket h.node (Failed failure)) tree.replays (fail_follows failure);
      legal = legal_ended goals system budget p.state tree.shaped tree.legal number h.ticket h.there h.runs h.node h.made (Failed failure) (λ e. cc) p.state.winner p.state.is_aborted
          (λ b e. let same : failure ≡ b = cc in subst (IsFailure system budget h.node h.ticket.place) same fails);
      well_made = well_made_ended system p.state.nodes h.ticket.node h.ticket.place h.node (Failed failure) h.made tree.well_made;
      rooted = λ g q at. carries_same p.state.nodes (set p.state.nodes h.ticket.node (marked h.node h.ticket.place (Failed failure))) (same_later p.state.nodes h.ticket.node h.ticket.place h.node (Failed failure) h.made) g g q (tree.rooted g q at);
      shaped = shape_ended goals system budget p.state tree.shaped tree.legal number h.ticket h.there h.runs h.node h.made (Failed failure) (λ e. cc) p.state.winner p.state.is_aborted;
      counted = counted_failed goals p tree.counted number h.ticket h.there h.runs h.node h.made was_here wanted failure;
      is_told = told_ending p.history p.state.tickets tree.is_told (entry (failed failure)) h.ticket h.there refl h.runs;
      given = given_ending p.history p.state (failed_parts p number h.ticket h.node failure).state tree.given (entry (failed failure))
          (problems_marked p.state.nodes h.ticket.node h.ticket.place h.node (Failed failure) h.made) (places_ended p.state.tickets number h.ticket h.there) (λ q st e. cc);
      bounded = bounded_failure question (pairs_in system) p tree.bounded number h.ticket h.node h.made run_more was_here wanted failure;
    }

    -- ---- a step is taken

    module _ (step : ProofStep) (left : List ProofProblem) (strategy : Strategy) (strategy_at : slice_get (strategies_for h.node.problem) h.ticket.place ≡ Some strategy)
        (is : IsFound system budget strategy h.node.problem step left) (room : ℕ) where
      abbrev n : ℕ
      n = h.ticket.node

      abbrev s1 : State
      s1 = record (ended p.state number h.ticket h.node Idle) { winner = p.state.winner; is_aborted = p.state.is_aborted }

      abbrev node1 : TreeNode
      node1 = marked h.node h.ticket.place Idle

      shape1 : IsShaped goals s1
      shape1 = shape_ended goals system budget p.state tree.shaped tree.legal number h.ticket h.there h.runs h.node h.made Idle not_running_idle p.state.winner p.state.is_aborted

      legal1 : IsLegal goals system budget s1
      legal1 = legal_ended goals system budget p.state tree.shaped tree.legal number h.ticket h.there h.runs h.node h.made Idle not_running_idle p.state.winner p.state.is_aborted
          (λ failure e. absurd (not_failed_idle failure e))

      there1 : slice_get s1.nodes n ≡ Some node1
      there1 = there_marked p.state.nodes n h.ticket.place h.node Idle h.made

      abbrev L : List TreeNode
      L = deciding.later goals system budget s1 shape1 legal1 n node1 there1 is_open step left

      abbrev W : List TreeNode
      W = nodes_with p.state h.ticket h.node step left

      same_nodes : L ≡ W
      same_nodes =
          let len = length_later p.state.nodes n h.ticket.place h.node Idle h.made in
          set_rest (set_twice p.state.nodes n node1 (record node1 { decision = Some (record { step = step; first = length s1.nodes; count = length left }) })
          ∙ ap (λ (k : ℕ). set p.state.nodes n (record node1 { decision = Some (record { step = step; first = k; count = length left }) })) len)
        where
          set_rest : {xs ys : List TreeNode} → xs ≡ ys → xs ++ map (new_node h.node.goal) left ≡ ys ++ map (new_node h.node.goal) left
          set_rest e = ap (λ zs. zs ++ map (new_node h.node.goal) left) e

      abbrev g : ℕ
      g = h.node.goal

      abbrev more : List GoalState
      more = opened p.goals g (length left)

      abbrev winner : Option ℕ
      winner = winner_after more g p.state.winner

      g_low : g < goals
      g_low = tree.shaped.range n h.node h.made

      abbrev P : List TreeNode → Parts
      P ns = record (decided_parts p number h.ticket h.node step left) {
        state = record p.state { nodes = ns; tickets = without p.state.tickets number h.ticket; winner = winner };
        node_room = room;
      }

      no_winner_yet : p.state.winner ≡ None
      no_winner_yet = not_some p.state.winner (or_parts (is_some p.state.winner) _ (or_parts _ p.state.is_aborted going).0).0

      shrinks : tasks_of_all (pairs_in system) left ≤ tasks_below (pairs_in system) h.node.problem
      shrinks = found_shrinks system budget strategy h.node.problem step left (tree.well_made n h.node h.made) is.finds is.applies

      old_goal : (old : GoalState) × (slice_get p.goals g ≡ Some old)
      old_goal = item_there p.goals g (omega (arith, g_low, tree.counted.length_is))

      more_is : more ≡ set p.goals g (record old_goal.0 { open_nodes = old_goal.0.open_nodes - 1 + length left })
      more_is = opened_is p.goals g (length left) old_goal.0 old_goal.1

      more_there : slice_get more g ≡ Some (record old_goal.0 { open_nodes = old_goal.0.open_nodes - 1 + length left })
      more_there = rw more_is (get_set p.goals g (record old_goal.0 { open_nodes = old_goal.0.open_nodes - 1 + length left }) old_goal.0 old_goal.1)

      counted1 : (k : ℕ) (goal : GoalState) → slice_get p.goals k ≡ Some goal → IsCounted s1.nodes k goal
      counted1 k goal at = counted_marked p.state.nodes n h.ticket.place h.node Idle Running h.made was_here no_failed_running idle_ok k goal (tree.counted.each k goal at)

      idle1 : slice_get node1.marks h.ticket.place ≡ Some Idle
      idle1 = get_set h.node.marks h.ticket.place Idle Running was_here

      opens_g : old_goal.0.open_nodes - 1 + length left ≡ opens g L
      opens_g =
          let o = deciding.opens_here goals system budget s1 shape1 legal1 n node1 there1 is_open step left in
          let c = (counted1 g old_goal.0 old_goal.1).open_is in
          let some = deciding.opens_some goals system budget s1 shape1 legal1 n node1 there1 is_open step left in
          omega (arith, o, c, some)

      shape2 : (w : Option ℕ) → IsShaped goals (record s1 { nodes = L; winner = w })
      shape2 w = deciding.decide_shape goals system budget s1 shape1 legal1 n node1 there1 is_open step left w

      legal2 : (w : Option ℕ) → IsLegal goals system budget (record s1 { nodes = L; winner = w })
      legal2 w = deciding.decide_legal goals system budget s1 shape1 legal1 n node1 there1 is_open step left strategy (in_of_get (strategies_for h.node.problem) h.ticket.place strategy strategy_at)
          is.finds is.applies is.step_well_made w

      -- a goal is won in the new nodes exactly where none of them is open
      won_g : no_open_nodes (slice_get more g) ≡ true → IsWon L g
      won_g e =
          let flag : (old_goal.0.open_nodes - 1 + length left == 0) ≡ true = subst (λ (o : Option GoalState). no_open_nodes o ≡ true) more_there e in
          let zero_g = eqb-true (old_goal.0.open_nodes - 1 + length left) 0 flag in
          none_open_won goals (record s1 { nodes = L; winner = winner }) (shape2 winner) (legal2 winner).born g g_low (sym opens_g ∙ zero_g)

      not_won_here : no_open_nodes (slice_get more g) ≡ false → (k : ℕ) → k < goals → IsWon L k → ⊥
      not_won_here e k lt won =
          let zero_k = won_none_open goals (record s1 { nodes = L; winner = winner }) (shape2 winner) (legal2 winner).born k won in
          dite (ℕ_discrete g k)
          (λ same.
          let flag : (old_goal.0.open_nodes - 1 + length left == 0) ≡ false = subst (λ (o : Option GoalState). no_open_nodes o ≡ false) more_there e in
          let zero_g : opens g L ≡ 0 = subst (λ (j : ℕ). opens j L ≡ 0) (sym same) zero_k in
          eqb-false (old_goal.0.open_nodes - 1 + length left) 0 flag (opens_g ∙ zero_g))
          (λ other.
          let same = deciding.opens_there goals system budget s1 shape1 legal1 n node1 there1 is_open step left k (λ q. other q) in
          let won1 = none_open_won goals s1 shape1 legal1.born k lt (sym same ∙ zero_k) in
          tree.counted.no_winner no_winner_yet k lt (closed_same s1.nodes p.state.nodes (same_before p.state.nodes n h.ticket.place h.node Idle h.made) k won1))

      first_winner : IsFirstWinner goals L winner
      first_winner = go (no_open_nodes (slice_get more g)) refl
        where
          go : (b : Bool) → no_open_nodes (slice_get more g) ≡ b → IsFirstWinner goals L winner
          go true e =
              let w : winner ≡ Some g = rw e refl in
              subst (IsFirstWinner goals L) (sym w) (g_low, won_g e)
          go false e =
              let w : winner ≡ None = rw (e, no_winner_yet) refl in
              subst (IsFirstWinner goals L) (sym w) (not_won_here e)

      pub decide_follows : Follows goals system p.state (entry (found step)) (P W).state
      decide_follows = (
        runs_at question system budget p tree number h (found step),
        inr (
          not_over,
          record {
            left = left;
            applies = is.applies;
            winner = winner;
            first = subst (λ (ns : List TreeNode). IsFirstWinner goals ns winner) same_nodes first_winner;
            after = refl;
          },
        ),
      )

      winner_is : (k : ℕ) (w : Option ℕ) → IsFirstWinner goals L w → w ≡ Some k → (k < goals) × IsWon L k
      winner_is k None f e = absurd cc
      winner_is k (Some j) f e = let same : j ≡ k = cc in subst (λ (i : ℕ). (i < goals) × IsWon L i) same f

      no_winner_is : (w : Option ℕ) → IsFirstWinner goals L w → w ≡ None → (k : ℕ) → k < goals → IsWon L k → ⊥
      no_winner_is None f e = f
      no_winner_is (Some j) f e = absurd cc

      lost_flag : (k : ℕ) → is_lost_in p.goals k ≡ true → is_lost_in more k ≡ true
      lost_flag k e = dite (ℕ_discrete k g)
          (λ same.
          let old = subst (λ (j : ℕ). is_lost_in p.goals j ≡ true) same e in
          let flag : old_goal.0.is_lost ≡ true = subst (λ (o : Option GoalState). lost_at o ≡ true) old_goal.1 old in
          let at_g : is_lost_in more g ≡ true = subst (λ (o : Option GoalState). lost_at o ≡ true) (sym more_there) flag in
          subst (λ (j : ℕ). is_lost_in more j ≡ true) (sym same) at_g)
          (λ other.
          let at : slice_get more k ≡ slice_get p.goals k = ap (λ (gs : List GoalState). slice_get gs k) more_is ∙ get_set_other p.goals g k (record old_goal.0 { open_nodes = old_goal.0.open_nodes - 1 + length left }) (λ q. other q) in
          subst (λ (o : Option GoalState). lost_at o ≡ true) (sym at) e)

      only_here : (k : ℕ) → k < goals → IsWon L k → winner ≡ Some k
      only_here k lt won = go (no_open_nodes (slice_get more g)) refl
        where
          other : (g ≢ k) → ⊥
          other ne =
              let zero_k = won_none_open goals (record s1 { nodes = L; winner = winner }) (shape2 winner) (legal2 winner).born k won in
              let same = deciding.opens_there goals system budget s1 shape1 legal1 n node1 there1 is_open step left k ne in
              let won1 = none_open_won goals s1 shape1 legal1.born k lt (sym same ∙ zero_k) in
              tree.counted.no_winner no_winner_yet k lt (closed_same s1.nodes p.state.nodes (same_before p.state.nodes n h.ticket.place h.node Idle h.made) k won1)

          go : (b : Bool) → no_open_nodes (slice_get more g) ≡ b → winner ≡ Some k
          go true e = dite (ℕ_discrete g k) (λ same. let w : winner ≡ Some g = rw e refl in w ∙ ap (λ (j : ℕ). Some j) same) (λ ne. absurd (other (λ q. ne q)))
          go false e = absurd (not_won_here e k lt won)

      counted2 : AreCounted goals (P L)
      counted2 = record {
        length_is = ap length more_is ∙ (length_set p.goals g (record old_goal.0 { open_nodes = old_goal.0.open_nodes - 1 + length left }) ∙ tree.counted.length_is);
        each = λ k goal at. elim (set_cases p.goals g k old_goal.0 (record old_goal.0 { open_nodes = old_goal.0.open_nodes - 1 + length left }) goal old_goal.1
            (subst (λ (gs : List GoalState). slice_get gs k ≡ Some goal) more_is at)) [
              | inl w ↦
                  let c = counted1 g old_goal.0 old_goal.1 in
                  let at_g : IsCounted L g (record old_goal.0 { open_nodes = old_goal.0.open_nodes - 1 + length left }) = record {
                    open_is = opens_g;
                    lost = λ e. deciding.lost_still goals system budget s1 shape1 legal1 n node1 there1 is_open step left h.ticket.place idle1 g (c.lost e);
                    not_lost = λ l. c.not_lost (deciding.lost_was goals system budget s1 shape1 legal1 n node1 there1 is_open step left h.ticket.place idle1 g l);
                  } in
                  subst (λ (j : ℕ). IsCounted L j goal) (sym w.0) (subst (IsCounted L g) (sym w.1) at_g)
              | inr w ↦
                  let c = counted1 k goal w.1 in
                  record {
                    open_is = c.open_is ∙ sym (deciding.opens_there goals system budget s1 shape1 legal1 n node1 there1 is_open step left k (λ q. w.0 (sym q)));
                    lost = λ e. deciding.lost_still goals system budget s1 shape1 legal1 n node1 there1 is_open step left h.ticket.place idle1 k (c.lost e);
                    not_lost = λ l. c.not_lost (deciding.lost_was goals system budget s1 shape1 legal1 n node1 there1 is_open step left h.ticket.place idle1 k l);
                  }
            ];
        winner = λ k e. winner_is k winner first_winner e;
        no_winner = λ e. no_winner_is winner first_winner e;
        only = λ k lt won. only_here k lt won;
        running = omega (arith, tree.counted.running, count_ended p.state.tickets number h.ticket h.there h.runs);
        room = omega (arith, tree.counted.room);
        cursor =
            let len = length_later p.state.nodes n h.ticket.place h.node Idle h.made in
            let l = deciding.later_length goals system budget s1 shape1 legal1 n node1 there1 is_open step left in
            omega (arith, tree.counted.cursor, len, l);
        passed = λ still k y lt at. go k y lt (deciding.at_cases goals system budget s1 shape1 legal1 n node1 there1 is_open step left k y at);
      }
        where
          go : (k : ℕ) (y : TreeNode) → k < p.cursor → At goals system budget s1 shape1 legal1 n node1 there1 is_open step left k y → free_place more y ≡ None
          go k y lt (deciding.old ne t) =
              let b = before p.state.nodes n h.ticket.place h.node Idle h.made k y t in
              elim b.3 [
                | inl w ↦ absurd (ne w.0)
                | inr w ↦ subst (λ (x : TreeNode). free_place more x ≡ None) (sym w.1) (free_more p.goals more lost_flag b.0 (tree.counted.passed going k b.0 lt b.1))
              ]
          go k y lt (deciding.here e is_shut) = shut more y (let d = ap (λ (x : TreeNode). is_some x.decision) is_shut in or_left (is_some y.decision) (is_lost_in more y.goal) d)
          go k y lt (deciding.new j q e t is_new) =
              let len = length_later p.state.nodes n h.ticket.place h.node Idle h.made in
              absurd (omega (arith, lt, tree.counted.cursor, e, len))

      problems_decided : KeepProblems p.state.nodes L
      problems_decided k x at =
          let y = problems_marked p.state.nodes n h.ticket.place h.node Idle h.made k x at in
          let z = deciding.still goals system budget s1 shape1 legal1 n node1 there1 is_open step left k y.0 y.1 in
          (z.0, z.1, z.3 ∙ y.2)

      pub decide_tree : IsTree question system budget (P W)
      decide_tree = record {
        valid = tree.valid;
        replays = replays_more goals system (opening question) p.history p.state (entry (found step)) (P W).state tree.replays decide_follows;
        legal = subst (λ (ns : List TreeNode). IsLegal goals system budget (P ns).state) same_nodes (legal2 winner);
        well_made = subst (λ (ns : List TreeNode). (k : ℕ) (y : TreeNode) → slice_get ns k ≡ Some y → IsWellMadeProblem system y.problem) same_nodes
            (deciding.well_made_later goals system budget s1 shape1 legal1 n node1 there1 is_open step left
            (well_made_ended system p.state.nodes n h.ticket.place h.node Idle h.made tree.well_made) (λ j q t. is.left_well_made q (in_of_get left j q t)));
        rooted = λ k q at. subst (λ (ns : List TreeNode). Carries ns k k q) same_nodes
            (deciding.carries_still goals system budget s1 shape1 legal1 n node1 there1 is_open step left k k q
            (carries_same p.state.nodes s1.nodes (same_later p.state.nodes n h.ticket.place h.node Idle h.made) k k q (tree.rooted k q at)));
        shaped = subst (λ (ns : List TreeNode). IsShaped goals (P ns).state) same_nodes (shape2 winner);
        counted = subst (λ (ns : List TreeNode). AreCounted goals (P ns)) same_nodes counted2;
        is_told = told_ending p.history p.state.tickets tree.is_told (entry (found step)) h.ticket h.there refl h.runs;
        given = given_ending p.history p.state (P W).state tree.given (entry (found step)) (subst (KeepProblems p.state.nodes) same_nodes problems_decided)
            (places_ended p.state.tickets number h.ticket h.there) (λ q st e. cc);
        bounded = bounded_step question (pairs_in system) p tree.bounded number h.ticket h.node h.made run_more was_here wanted step left shrinks more lost_flag (P W)
            (length-append p.history _) run_less refl refl;
      }

opens_le : (g : ℕ) (nodes : List TreeNode) → opens g nodes ≤ length nodes
opens_le g [] = omega arith
opens_le g (x ∷ nodes) = let one : cond (is_open_of g x) 1 0 ≤ 1 = elim (is_open_of g x) as (λ b. cond b 1 0 ≤ 1) [ true ↦ omega arith | false ↦ omega arith ] in omega (arith, one, opens_le g nodes)

pub open_few : (question : Question) (system : System) (budget : ℕ) (p : Parts) → IsTree question system budget p → (g : ℕ) (goal : GoalState) → slice_get p.goals g ≡ Some goal
    → goal.open_nodes ≤ length p.state.nodes
open_few question system budget p tree g goal there = omega (arith, (tree.counted.each g goal there).open_is, opens_le g p.state.nodes)
