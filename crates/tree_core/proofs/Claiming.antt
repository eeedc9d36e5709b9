-- A claim leaves a tree, and is the least that can be made.
use Rattle.std.proofs.Common.{◌≡◌, ◌⊎◌, inl, inr, ℕ, suc, ◌<◌, ◌≤◌, Bool, true, false, ◌||◌, cond, eqb, List, [], ◌∷◌, ◌++◌, length, set, Some, None, slice_get, refl, sym, ap, ◌∙◌, subst, arith}
use Rattle.std.specs.Option.{is_some, is_none}
use Rattle.std.proofs.lemmas.Bool.{eqb-true, and_parts, or_parts}
use Rattle.std.specs.List.{list_all}
use Rattle.std.proofs.lemmas.Option.{slice_get_within}
use native.Mathlib.Decide.{dec_le}
use mathlib.Core.Logic.{dite}
use Rattle.trs_defs.specs.System.{System}
use Rattle.trs_defs.proofs.ListItems.{kept_item}
use Rattle.tree_state.specs.cert_step.ProofProblem.{ProofProblem}
use Rattle.tree_state.specs.strategies.declared.strategy.Strategy.{Strategy}
use Rattle.tree_state.specs.strategies.Kinds.{strategies_for}
use Rattle.tree_state.specs.strategies.Conditions.{Fails}
use Rattle.tree_state.specs.tree_definitions.declared.question.Question.{Question}
use Rattle.tree_state.specs.tree_definitions.declared.mark.Mark.{Mark}
use Rattle.tree_state.specs.tree_definitions.declared.mark.Mark.TheVariants.{Idle, Running, Failed}
use Rattle.tree_state.specs.tree_definitions.declared.ticket.Ticket.{Ticket}
use Rattle.tree_state.specs.tree_definitions.Questions.{goal_count}
use Rattle.tree_state.specs.tree_definitions.Marks.{is_idle, has_failed}
use Rattle.tree_state.specs.tree_definitions.History.{HistoryEntry, claimed, of_seat, Runs}
use Rattle.tree_state.specs.tree_definitions.States.{TreeNode, HasTask, opening, marked}
use Rattle.tree_state.specs.tree_definitions.Verdicts.{IsWon, IsLost, IsDone}
use Rattle.tree_state.specs.tree_definitions.Events.{IsFree, with_claim, Follows}
use Rattle.tree_state.specs.tree_definitions.Legal.{Names, IsLegal}
use Rattle.tree_state.specs.Parts.{Parts, has_verdict_by, free_place, is_lost_in, is_done_by, claimed_parts}
use Rattle.tree_core.specs.Invariant.{IsRunningAt, IsShaped, IsTree, opens, told}
use Rattle.tree_state.proofs.tree_definitions.Lookups.{get_set}
use Rattle.tree_state.proofs.tree_definitions.Lookups.{none_of, not_some, one_value, set_cases, append_right, more_cases}
use Rattle.tree_core.proofs.Marking.{carries_same, same_later, same_before, before, there_marked, length_later, legal_same, child_same, closed_same, mark_kept, mark_was, shape_marked, problems_marked}
use Rattle.tree_core.proofs.Endings.{IsFailure, count_more, well_made_ended}
use Rattle.tree_state.specs.strategies.TaskBounds.{pairs_in}
use Rattle.tree_core.proofs.Counting.{counted_marked, idle_ok}
use Rattle.tree_core.proofs.Bounding.{bounded_claim}
use Rattle.tree_core.proofs.Failing.{failed_is}
use Rattle.tree_core.proofs.Flags.{no_verdict, is_lost, is_done, not_true, true_false, lost_is, some_not, all_at}
use Rattle.tree_state.proofs.Idle.{IsOpenAt, open_at, none_free, idle_is, not_idle}
use Rattle.tree_core.proofs.Told.{told_claim, runs_of_claim}
use Rattle.tree_core.proofs.Given.{given_claim, places_more}
use Rattle.tree_core.proofs.Won.{none_open_won, is_open_of}
use Rattle.tree_core.proofs.Trees.{replays_more, no_failed_running}

is_running_mark : (m : Mark) → is_idle m ≡ false → has_failed m ≡ false → m ≡ Running
is_running_mark Idle a b = absurd cc
is_running_mark Running a b = refl
is_running_mark (Failed failure) a b = absurd cc

open_is : (g : ℕ) (node : TreeNode) → is_open_of g node ≡ true → (node.goal ≡ g) × (node.decision ≡ None)
open_is g node e =
    let b = and_parts (is_none node.decision) (eqb node.goal g) e in
    (eqb-true node.goal g b.1, none_of node.decision b.0)

-- some node of the goal is open, or none is
open_or_none : (g : ℕ) (nodes : List TreeNode) → ((n : ℕ) × (node : TreeNode) × (slice_get nodes n ≡ Some node) × (is_open_of g node ≡ true)) ⊎ (opens g nodes ≡ 0)
open_or_none g [] = inr refl
open_or_none g (x ∷ nodes) = go (is_open_of g x) refl (open_or_none g nodes)
  where
    go : (b : Bool) → is_open_of g x ≡ b → ((n : ℕ) × (node : TreeNode) × (slice_get nodes n ≡ Some node) × (is_open_of g node ≡ true)) ⊎ (opens g nodes ≡ 0)
        → ((n : ℕ) × (node : TreeNode) × (slice_get (x ∷ nodes) n ≡ Some node) × (is_open_of g node ≡ true)) ⊎ (opens g (x ∷ nodes) ≡ 0)
    go true e rest = inl (0, x, refl, e)
    go false e (inl w) = inl (suc w.0, w.1, w.2, w.3)
    go false e (inr w) = inr (let z : ◌≡◌ {A = ℕ} (cond (is_open_of g x) 1 0) 0 = rw e refl in omega (arith, w, z))

module _ (question : Question) (system : System) (budget : ℕ) (p : Parts) (tree : IsTree question system budget p) (going : is_done_by p ≡ false) where
  abbrev goals : ℕ
  goals = goal_count question

  pub not_done : IsDone goals p.state → ⊥
  not_done d = true_false (is_done_by p) (is_done goals p tree.counted d) going

  no_winner_yet : p.state.winner ≡ None
  no_winner_yet = not_some p.state.winner (or_parts (is_some p.state.winner) _ (or_parts _ p.state.is_aborted going).0).0

  not_won : (g : ℕ) → g < goals → IsWon p.state.nodes g → ⊥
  not_won = tree.counted.no_winner no_winner_yet

  -- a strategy that can be claimed is seen by the search
  seen_free : (n place : ℕ) (node : TreeNode) → IsFree p.state n place node → free_place p.goals node ≡ None → ⊥
  seen_free n place node free none =
      let flag = not_true (is_lost_in p.goals node.goal) (λ e. free.not_lost (lost_is goals p tree.counted node.goal e)) in
      not_idle Idle (none_free p.goals node none free.is_open flag place Idle free.idle) refl

  module _ (n place : ℕ) (node : TreeNode) (there : slice_get p.state.nodes n ≡ Some node) (free : free_place p.goals node ≡ Some place)
      (low : p.cursor ≤ n) (passed : (k : ℕ) (x : TreeNode) → p.cursor ≤ k → k < n → slice_get p.state.nodes k ≡ Some x → free_place p.goals x ≡ None) where
    at : IsOpenAt p.goals node place
    at = open_at p.goals node place free

    pub idle : slice_get node.marks place ≡ Some Idle
    idle = at.first.there ∙ ap (λ m. Some m) (idle_is at.first.x at.first.passes)

    pub is_free : IsFree p.state n place node
    is_free = record {
      there = there;
      is_open = at.is_open;
      not_won = not_won node.goal (tree.shaped.range n node there);
      not_lost = λ l. true_false (is_lost_in p.goals node.goal) (is_lost goals p tree.counted node.goal (tree.shaped.range n node there) l) at.not_lost;
      idle = idle;
      first = λ k lt e. not_idle Idle (at.first.first k Idle lt e) refl;
    }

    live : (is_some node.decision || is_lost_in p.goals node.goal) ≡ false
    live = rw (at.is_open, at.not_lost) refl

    before_none : (k : ℕ) (x : TreeNode) → k < n → slice_get p.state.nodes k ≡ Some x → free_place p.goals x ≡ None
    before_none k x lt here = dite (dec_le p.cursor k) (λ le. passed k x le lt here) (λ small. tree.counted.passed going k x (omega (arith, small)) here)

    module _ (seat room : ℕ) (problem : ProofProblem) (strategy : Strategy) (problem_is : node.problem ≡ problem)
        (strategy_is : slice_get (strategies_for node.problem) place ≡ Some strategy) where
      abbrev pub entry : HistoryEntry
      entry = record { seat = seat; ticket = length p.state.tickets; event = claimed problem strategy }

      abbrev pub ticket : Ticket
      ticket = record { seat = seat; node = n; place = place; is_running = true }

      pub claims : Follows goals system p.state entry (with_claim p.state seat n place node)
      claims = record {
        going = not_done;
        n = n;
        place = place;
        node = node;
        free = is_free;
        least = λ k j other lt f. seen_free k j other f (before_none k other lt f.there);
        ticket = refl;
        problem_is = problem_is;
        strategy_is = strategy_is;
        after = refl;
      }

      abbrev nodes : List TreeNode
      nodes = set p.state.nodes n (marked node place Running)

      -- no other ticket runs the strategy
      not_held : (i : ℕ) (u : Ticket) → slice_get p.state.tickets i ≡ Some u → u.is_running ≡ true → u.node ≡ n → u.place ≡ place → ⊥
      not_held i u here run same_node same_place =
          let h = tree.shaped.runs i u here run in
          let is : h.node ≡ node = one_value (slice_get p.state.nodes n) h.node node (subst (λ (j : ℕ). slice_get p.state.nodes j ≡ Some h.node) same_node h.there) there in
          let m = subst (λ (j : ℕ). slice_get h.node.marks j ≡ Some Running) same_place h.mark in
          let m_node = subst (λ (x : TreeNode). slice_get x.marks place ≡ Some Running) is m in
          let i_node = idle in absurd cc

      claim_shape : IsShaped goals (with_claim p.state seat n place node)
      claim_shape = shape_marked goals p.state tree.shaped n place node Running there Idle idle (p.state.tickets ++ ticket ∷ []) p.state.winner p.state.is_aborted
          (λ i u here run. elim (more_cases p.state.tickets ticket i u here) [
            | inl w ↦ mark_kept goals p.state tree.shaped n place node Running there Idle idle u.node u.place (tree.shaped.runs i u w run) (λ a b. not_held i u w run a b)
            | inr w ↦ subst (λ (x : Ticket). IsRunningAt nodes x.node x.place) (sym w.1)
                (record { node = marked node place Running; there = there_marked p.state.nodes n place node Running there; mark = get_set node.marks place Running Idle idle })
          ])
          (λ k j h. elim (mark_was goals p.state tree.shaped n place node Running there Idle idle k j h) [
            | inl w ↦
                let x = tree.shaped.held k j w.0 in
                record { number = x.number; ticket = x.ticket; there = kept_item p.state.tickets (ticket ∷ []) x.number x.ticket x.there; runs = x.runs; node_is = x.node_is; place_is = x.place_is }
            | inr w ↦ record {
              number = length p.state.tickets;
              ticket = ticket;
              there = append_right p.state.tickets (ticket ∷ []) 0 (length p.state.tickets) ticket (omega arith) refl;
              runs = refl;
              node_is = sym w.0;
              place_is = sym w.1;
            }
          ])

      claim_legal : IsLegal goals system budget (with_claim p.state seat n place node)
      claim_legal =
          let forth = same_later p.state.nodes n place node Running there in
          let back = same_before p.state.nodes n place node Running there in
          let legal = tree.legal in
          record {
            decided = λ m y d here dec.
                let b = before p.state.nodes n place node Running there m y here in
                legal_same system budget p.state.nodes nodes forth b.0 y d b.2 (legal.decided m b.0 d b.1 (sym b.2.decision ∙ dec));
            failed = λ m j y failure here f.
                let b = before p.state.nodes n place node Running there m y here in
                let old : slice_get b.0.marks j ≡ Some (Failed failure) → IsFailure system budget y j failure =
                λ g. subst (λ (q : ProofProblem). (strategy : Strategy) × (slice_get (strategies_for q) j ≡ Some strategy) × Fails system budget strategy q failure) (sym b.2.problem)
                (legal.failed m j b.0 failure b.1 g) in
                elim b.3 [
                  | inl w ↦
                      let here_f = subst (λ (x : TreeNode). slice_get x.marks j ≡ Some (Failed failure)) w.1 f in
                      let is : b.0 ≡ node = one_value (slice_get p.state.nodes n) b.0 node (subst (λ (i : ℕ). slice_get p.state.nodes i ≡ Some b.0) w.0 b.1) there in
                      elim (set_cases node.marks place j Idle Running (Failed failure) idle here_f) [
                        | inl v ↦ let e = v.1 in absurd cc
                        | inr v ↦ old (subst (λ (x : TreeNode). slice_get x.marks j ≡ Some (Failed failure)) (sym is) v.1)
                      ]
                  | inr w ↦ old (subst (λ (x : TreeNode). slice_get x.marks j ≡ Some (Failed failure)) w.1 f)
                ];
            born = λ m y le here.
                let b = before p.state.nodes n place node Running there m y here in
                let q = legal.born m b.0 le b.1 in
                let r = forth q.0 q.1.parent q.1.there in
                (q.0, record { parent = r.0; d = q.1.d; there = r.1; decided = r.2.decision ∙ q.1.decided; child = q.1.child }, r.2.goal ∙ (q.2 ∙ sym b.2.goal));
            once = λ m i k a b. legal.once m i k (child_same nodes p.state.nodes back m i a) (child_same nodes p.state.nodes back m k b);
            named = λ i u here run. elim (more_cases p.state.tickets ticket i u here) [
              | inl w ↦
                  let x = legal.named i u w run in
                  let y = forth u.node x.node x.there in
                  record { node = y.0; there = y.1; strategy = x.strategy; kind = rw y.2.problem x.kind }
              | inr w ↦
                  subst (Names nodes) (sym w.1) (record { node = marked node place Running; there = there_marked p.state.nodes n place node Running there; strategy = strategy; kind = strategy_is })
            ];
            alone = λ i j u v a b ru rv same_node same_place. elim (more_cases p.state.tickets ticket i u a) [
              | inl w ↦ elim (more_cases p.state.tickets ticket j v b) [
                | inl z ↦ legal.alone i j u v w z ru rv same_node same_place
                | inr z ↦ absurd (not_held i u w ru (same_node ∙ ap (λ (x : Ticket). x.node) z.1) (same_place ∙ ap (λ (x : Ticket). x.place) z.1))
              ]
              | inr w ↦ elim (more_cases p.state.tickets ticket j v b) [
                | inl z ↦ absurd (not_held j v z rv (sym same_node ∙ ap (λ (x : Ticket). x.node) w.1) (sym same_place ∙ ap (λ (x : Ticket). x.place) w.1))
                | inr z ↦ w.0 ∙ sym z.0
              ]
            ];
          }

      has_task : HasTask (with_claim p.state seat n place node) (length p.state.tickets) problem strategy
      has_task = record {
        ticket = ticket;
        there = append_right p.state.tickets (ticket ∷ []) 0 (length p.state.tickets) ticket (omega arith) refl;
        node = marked node place Running;
        made = there_marked p.state.nodes n place node Running there;
        problem_is = problem_is;
        strategy_is = strategy_is;
      }

      -- of the seat's own entries, just the claim is about the ticket
      pub claim_runs : Runs (length p.state.tickets) (of_seat seat (p.history ++ entry ∷ []))
      claim_runs =
          let fresh = tree.is_told.none (length p.state.tickets) (omega arith) in
          runs_of_claim p.history entry (omega (arith, fresh))

      pub claim_tree : p.running < room → IsTree question system budget (record (claimed_parts p seat n place problem strategy node) { room = room; cursor = n })
      claim_tree room_ok = record {
        valid = tree.valid;
        replays = replays_more goals system (opening question) p.history p.state entry (with_claim p.state seat n place node) tree.replays claims;
        legal = claim_legal;
        well_made = well_made_ended system p.state.nodes n place node Running there tree.well_made;
        rooted = λ g q at. carries_same p.state.nodes (set p.state.nodes n (marked node place Running)) (same_later p.state.nodes n place node Running there) g g q (tree.rooted g q at);
        shaped = claim_shape;
        counted = record {
          length_is = tree.counted.length_is;
          each = λ g goal here. counted_marked p.state.nodes n place node Running Idle there idle idle_ok no_failed_running g goal (tree.counted.each g goal here);
          winner = λ g w. let x = tree.counted.winner g w in (x.0, closed_same p.state.nodes nodes (same_later p.state.nodes n place node Running there) g x.1);
          no_winner = λ w g lt won. tree.counted.no_winner w g lt (closed_same nodes p.state.nodes (same_before p.state.nodes n place node Running there) g won);
          only = λ g lt won. tree.counted.only g lt (closed_same nodes p.state.nodes (same_before p.state.nodes n place node Running there) g won);
          running = omega (arith, tree.counted.running, count_more p.state.tickets ticket refl);
          room = omega (arith, room_ok);
          cursor = omega (arith, slice_get_within p.state.nodes n node there, length_later p.state.nodes n place node Running there);
          passed = λ same k y lt here.
              let b = before p.state.nodes n place node Running there k y here in
              elim b.3 [ inl w ↦ absurd (let e = w.0 in omega (arith, lt, e)) | inr w ↦ subst (λ (x : TreeNode). free_place p.goals x ≡ None) (sym w.1) (before_none k b.0 lt b.1) ];
        };
        is_told = told_claim p.history p.state.tickets tree.is_told entry ticket refl refl refl;
        given = given_claim p.history p.state (with_claim p.state seat n place node) tree.given entry (problems_marked p.state.nodes n place node Running there) (places_more p.state.tickets ticket)
            problem strategy refl has_task;
        bounded = bounded_claim question (pairs_in system) p tree.bounded seat n place node there idle live going problem strategy room;
      }

  -- where nothing can be claimed
  module _ (none : (k : ℕ) (x : TreeNode) → slice_get p.state.nodes k ≡ Some x → free_place p.goals x ≡ None) where
    pub none_is_free : (n place : ℕ) (node : TreeNode) → IsFree p.state n place node → ⊥
    none_is_free n place node f = seen_free n place node f (none n node f.there)

    -- an open node of a goal that is not lost has a strategy that runs
    running_there : (g : ℕ) → (IsLost p.state.nodes g → ⊥) → (n : ℕ) (node : TreeNode) → slice_get p.state.nodes n ≡ Some node → node.goal ≡ g → node.decision ≡ None
        → (b : Bool) → list_all has_failed node.marks ≡ b → (place : ℕ) × IsRunningAt p.state.nodes n place
    running_there g not_lost n node there goal is_open true all =
        absurd (not_lost (record { n = n; node = node; there = there; goal = goal; stuck = record { is_open = is_open; failed = λ place mark at. failed_is mark (all_at has_failed node.marks all place mark at) } }))
    running_there g not_lost n node there goal is_open false some =
        let x = some_not has_failed node.marks some in
        let flag = not_true (is_lost_in p.goals node.goal) (λ e. not_lost (subst (IsLost p.state.nodes) goal (lost_is goals p tree.counted node.goal e))) in
        let not_i = none_free p.goals node (none n node there) is_open flag x.0 x.1 x.2 in
        (x.0, record { node = node; there = there; mark = x.2 ∙ ap (λ m. Some m) (is_running_mark x.1 not_i x.3) })

    pub some_runs : (g : ℕ) → g < goals → (IsLost p.state.nodes g → ⊥) → (number : ℕ) × Runs number p.history
    some_runs g lt not_lost = go (open_or_none g p.state.nodes)
      where
        go : ((n : ℕ) × (node : TreeNode) × (slice_get p.state.nodes n ≡ Some node) × (is_open_of g node ≡ true)) ⊎ (opens g p.state.nodes ≡ 0) → (number : ℕ) × Runs number p.history
        go (inl w) =
            let o = open_is g w.1 w.3 in
            let r = running_there g not_lost w.0 w.1 w.2 o.0 o.1 (list_all has_failed w.1.marks) refl in
            let h = tree.shaped.held w.0 r.0 r.1 in
            (h.number, tree.is_told.told_is h.number h.ticket h.there ∙ ap told h.runs)
        go (inr w) = absurd (not_won g lt (none_open_won goals p.state tree.shaped tree.legal.born g lt w))

    pub again : (number : ℕ) × Runs number p.history
    again =
        let verdict = (or_parts (has_verdict_by p) p.state.is_aborted going).0 in
        let g = no_verdict goals p tree.counted verdict in
        some_runs g.0 g.1 g.2
