-- The entries of a tree stay within their bound.
use Rattle.std.specs.Prelude.{◌^◌, ◌*◌, not}
use Rattle.std.proofs.Common.{◌≡◌, inl, inr, ℕ, zero, suc, ◌+◌, ◌-◌, ◌<◌, ◌≤◌, Bool, true, false, ◌||◌, cond, List, [], ◌∷◌, ◌++◌, length, length-append, map, set, Some, slice_get, refl, sym, ap, ◌∙◌, subst, arith}
use Rattle.std.specs.Option.{is_some}
use Rattle.std.proofs.lemmas.Bool.{or_cases, or_left, or_parts, or_right}
use Rattle.trs_defs.specs.System.{System}
use Rattle.trs_core.specs.Valid.{IsValid}
use Rattle.tree_state.specs.cert_step.ProofProblem.{ProofProblem}
use Rattle.tree_state.specs.cert_step.ProofStep.{ProofStep}
use Rattle.tree_state.specs.strategies.declared.failure.Failure.{Failure}
use Rattle.tree_state.specs.strategies.declared.strategy.Strategy.{Strategy}
use Rattle.tree_state.specs.strategies.Kinds.{strategies_for}
use Rattle.tree_state.specs.strategies.TaskBounds.{pairs_in, tasks_below, tasks_of_all}
use Rattle.tree_state.proofs.strategies.Shrinking.{few_pairs_in}
use Rattle.tree_state.specs.tree_definitions.declared.question.Question.{Question}
use Rattle.tree_state.specs.tree_definitions.declared.question.Question.TheVariants.{Termination, Confluence, Unique}
use Rattle.tree_state.specs.tree_definitions.declared.mark.Mark.{Mark}
use Rattle.tree_state.specs.tree_definitions.declared.mark.Mark.TheVariants.{Idle, Running, Failed}
use Rattle.tree_state.specs.tree_definitions.declared.ticket.Ticket.{Ticket}
use Rattle.tree_state.specs.tree_definitions.Marks.{is_idle}
use Rattle.tree_state.specs.tree_definitions.Questions.{roots}
use Rattle.tree_state.specs.tree_definitions.History.{HistoryEntry, Event}
use Rattle.tree_state.specs.tree_definitions.States.{TreeNode, State, marked, new_node, roots_from}
use Rattle.tree_state.specs.tree_definitions.Events.{nodes_with}
use Rattle.tree_state.specs.declared.goal_state.GoalState.{GoalState}
use Rattle.tree_state.specs.Parts.{Parts, IsOpening, is_lost_in, is_done_by, is_over_by, has_verdict_by, claimed_parts, ended_parts, failed_parts, aborted_parts, lost_if, all_failed}
use Rattle.tree_core.specs.Bound.{count_idle, claims_of, claims_of_all, claims_left, IsBounded}
use Rattle.tree_core.proofs.Failing.{lost_grows}

cond_le : (b : Bool) (n : ℕ) → cond b 0 n ≤ n
cond_le true n = omega arith
cond_le false n = omega arith

-- with more reason for none, and fewer otherwise
cond_mono : (a b : Bool) (m n : ℕ) → (a ≡ true → b ≡ true) → m ≤ n → cond b 0 m ≤ cond a 0 n
cond_mono true b m n h le = let e = h refl in rw e (omega arith)
cond_mono false b m n h le = let c = cond_le b m in omega (arith, c, le)

-- ---- marks and nodes

idle_set : (marks : List Mark) (place : ℕ) (old new : Mark) → slice_get marks place ≡ Some old
    → count_idle (set marks place new) + cond (is_idle old) 1 0 ≡ count_idle marks + cond (is_idle new) 1 0
idle_set [] place old new there = absurd cc
idle_set (m ∷ marks) zero old new there = let same : m ≡ old = cc in rw same (omega arith)
idle_set (m ∷ marks) (suc place) old new there = omega (arith, idle_set marks place old new there)

all_idle : (strategies : List Strategy) → count_idle (map (λ _. Idle) strategies) ≡ length strategies
all_idle [] = refl
all_idle (s ∷ strategies) = let rest = all_idle strategies in omega (arith, rest)

module _ (pairs : ℕ) (goals : List GoalState) where
  all_set : (nodes : List TreeNode) (n : ℕ) (x y : TreeNode) → slice_get nodes n ≡ Some x
      → claims_of_all pairs goals (set nodes n y) + claims_of pairs goals x ≡ claims_of_all pairs goals nodes + claims_of pairs goals y
  all_set [] n x y there = absurd cc
  all_set (z ∷ nodes) zero x y there = let same : z ≡ x = cc in rw same (omega arith)
  all_set (z ∷ nodes) (suc n) x y there = omega (arith, all_set nodes n x y there)

  all_append : (xs ys : List TreeNode) → claims_of_all pairs goals (xs ++ ys) ≡ claims_of_all pairs goals xs + claims_of_all pairs goals ys
  all_append [] ys = omega arith
  all_append (x ∷ xs) ys = omega (arith, all_append xs ys)

  new_few : (goal : ℕ) (p : ProofProblem) → claims_of pairs goals (new_node goal p) ≤ length (strategies_for p) + tasks_below pairs p
  new_few goal p =
      let c : claims_of pairs goals (new_node goal p) ≤ count_idle (new_node goal p).marks + tasks_below pairs p = cond_le (is_lost_in goals goal) (count_idle (new_node goal p).marks + tasks_below pairs p) in
      let i : count_idle (new_node goal p).marks ≡ length (strategies_for p) = all_idle (strategies_for p) in
      omega (arith, c, i)

  all_new : (goal : ℕ) (ps : List ProofProblem) → claims_of_all pairs goals (map (new_node goal) ps) ≤ tasks_of_all pairs ps
  all_new goal [] = omega arith
  all_new goal (p ∷ ps) = let a = new_few goal p in let b = all_new goal ps in omega (arith, a, b)

  all_roots : (goal : ℕ) (ps : List ProofProblem) → claims_of_all pairs goals (roots_from goal ps) ≤ tasks_of_all pairs ps
  all_roots goal [] = omega arith
  all_roots goal (p ∷ ps) = let a = new_few goal p in let b = all_roots (goal + 1) ps in omega (arith, a, b)

  module _ (node : TreeNode) (place : ℕ) (old new : Mark) (there : slice_get node.marks place ≡ Some old) where
    marked_live : (is_some node.decision || is_lost_in goals node.goal) ≡ false
        → claims_of pairs goals (marked node place new) + cond (is_idle old) 1 0 ≡ claims_of pairs goals node + cond (is_idle new) 1 0
    marked_live live =
        let i : count_idle (marked node place new).marks + cond (is_idle old) 1 0 ≡ count_idle node.marks + cond (is_idle new) 1 0 = idle_set node.marks place old new there in
        let a : claims_of pairs goals (marked node place new) ≡ count_idle (marked node place new).marks + tasks_below pairs node.problem =
        ap (λ (b : Bool). cond b 0 (count_idle (marked node place new).marks + tasks_below pairs node.problem)) live in
        let c : claims_of pairs goals node ≡ count_idle node.marks + tasks_below pairs node.problem = ap (λ (b : Bool). cond b 0 (count_idle node.marks + tasks_below pairs node.problem)) live in
        omega (arith, i, a, c)

  marked_shut : (node : TreeNode) (place : ℕ) (new : Mark) → (is_some node.decision || is_lost_in goals node.goal) ≡ true
      → claims_of pairs goals (marked node place new) ≡ claims_of pairs goals node
  marked_shut node place new shut =
      let a : claims_of pairs goals (marked node place new) ≡ 0 = ap (λ (b : Bool). cond b 0 (count_idle (marked node place new).marks + tasks_below pairs node.problem)) shut in
      let c : claims_of pairs goals node ≡ 0 = ap (λ (b : Bool). cond b 0 (count_idle node.marks + tasks_below pairs node.problem)) shut in
      a ∙ sym c

  -- where more goals are lost, no more can be claimed
  module _ (more : List GoalState) (grows : (h : ℕ) → is_lost_in goals h ≡ true → is_lost_in more h ≡ true) where
    of_more : (node : TreeNode) → claims_of pairs more node ≤ claims_of pairs goals node
    of_more node = cond_mono (is_some node.decision || is_lost_in goals node.goal) (is_some node.decision || is_lost_in more node.goal) (count_idle node.marks + tasks_below pairs node.problem) (count_idle node.marks + tasks_below pairs node.problem) (λ e. elim (or_cases (is_some node.decision) (is_lost_in goals node.goal) e) [
      | inl a ↦ or_left (is_some node.decision) (is_lost_in more node.goal) a
      | inr b ↦ or_right (is_some node.decision) (is_lost_in more node.goal) (grows node.goal b)
    ]) (omega arith)

    all_more : (nodes : List TreeNode) → claims_of_all pairs more nodes ≤ claims_of_all pairs goals nodes
    all_more [] = omega arith
    all_more (x ∷ nodes) = let a = of_more x in let b = all_more nodes in omega (arith, a, b)

-- ---- each call

module _ (question : Question) (pairs : ℕ) (p : Parts) (bounded : IsBounded question pairs p) where
  -- an entry more, a ticket more that runs, and a claim less
  claims_once : (q : Parts) → length q.history ≡ length p.history + 1 → q.running ≡ p.running + 1 → claims_left pairs q + 1 ≤ claims_left pairs p → IsBounded question pairs q
  claims_once q h r c = let w = bounded.within in record { within = omega (arith, w, h, r, c) }

  -- an entry more, a ticket less that runs, and no claim more
  ends_once : (q : Parts) → length q.history ≡ length p.history + 1 → q.running + 1 ≡ p.running → claims_left pairs q ≤ claims_left pairs p → IsBounded question pairs q
  ends_once q h r c = let w = bounded.within in record { within = omega (arith, w, h, r, c) }

  going_left : is_done_by p ≡ false → claims_left pairs p ≡ claims_of_all pairs p.goals p.state.nodes
  going_left going = ap (λ (b : Bool). cond b 0 (claims_of_all pairs p.goals p.state.nodes)) going

  module _ (seat n place : ℕ) (node : TreeNode) (there : slice_get p.state.nodes n ≡ Some node) (idle : slice_get node.marks place ≡ Some Idle)
      (live : (is_some node.decision || is_lost_in p.goals node.goal) ≡ false) (going : is_done_by p ≡ false) where
    pub bounded_claim : (problem : ProofProblem) (strategy : Strategy) (room : ℕ) → IsBounded question pairs (record (claimed_parts p seat n place problem strategy node) { room = room; cursor = n })
    bounded_claim problem strategy room =
        let after : Parts = record (claimed_parts p seat n place problem strategy node) { room = room; cursor = n } in
        let was = going_left going in
        let nodes : List TreeNode = set p.state.nodes n (marked node place Running) in
        let now : claims_left pairs after ≡ claims_of_all pairs p.goals nodes = ap (λ (b : Bool). cond b 0 (claims_of_all pairs p.goals nodes)) going in
        let s = all_set pairs p.goals p.state.nodes n node (marked node place Running) there in
        let m : claims_of pairs p.goals (marked node place Running) + 1 ≡ claims_of pairs p.goals node + 0 = marked_live pairs p.goals node place Idle Running idle live in
        claims_once after (length-append p.history _) refl (omega (arith, was, now, s, m))

  module _ (number : ℕ) (t : Ticket) (node : TreeNode) (made : slice_get p.state.nodes t.node ≡ Some node) (some : 0 < p.running) where
    fewer_run : p.running - 1 + 1 ≡ p.running
    fewer_run = omega (arith, some)

    -- an ending that comes late
    pub bounded_late : (event : Event) → is_over_by p node ≡ true → IsBounded question pairs (ended_parts p number t node event Idle)
    bounded_late event over = ends_once (ended_parts p number t node event Idle) (length-append p.history _) fewer_run (elim (or_cases (is_some node.decision || is_lost_in p.goals node.goal) (is_done_by p) over) [
      | inl shut ↦
          let s = all_set pairs p.goals p.state.nodes t.node node (marked node t.place Idle) made in
          let m = marked_shut pairs p.goals node t.place Idle shut in
          let same : claims_of_all pairs p.goals (set p.state.nodes t.node (marked node t.place Idle)) ≤ claims_of_all pairs p.goals p.state.nodes = omega (arith, s, m) in
          cond_mono (is_done_by p) (is_done_by p) (claims_of_all pairs p.goals (set p.state.nodes t.node (marked node t.place Idle))) (claims_of_all pairs p.goals p.state.nodes) (λ e. e) same
      | inr done ↦
          let now : claims_left pairs (ended_parts p number t node event Idle) ≡ 0 = ap (λ (b : Bool). cond b 0 (claims_of_all pairs p.goals (set p.state.nodes t.node (marked node t.place Idle)))) done in
          omega (arith, now)
    ])

    aborts : (v a : Bool) → (v || (a || not v)) ≡ true
    aborts true a = refl
    aborts false true = refl
    aborts false false = refl

    pub bounded_abort : IsBounded question pairs (aborted_parts p number t node)
    bounded_abort =
        let now : claims_left pairs (aborted_parts p number t node) ≡ 0 =
        ap (λ (b : Bool). cond b 0 (claims_of_all pairs p.goals (set p.state.nodes t.node (marked node t.place Idle)))) (aborts (has_verdict_by p) p.state.is_aborted) in
        ends_once (aborted_parts p number t node) (length-append p.history _) fewer_run (omega (arith, now))

    module _ (running : slice_get node.marks t.place ≡ Some Running) (wanted : is_over_by p node ≡ false) where
      live : (is_some node.decision || is_lost_in p.goals node.goal) ≡ false
      live = (or_parts (is_some node.decision || is_lost_in p.goals node.goal) (is_done_by p) wanted).0

      was_left : claims_left pairs p ≡ claims_of_all pairs p.goals p.state.nodes
      was_left = going_left (or_parts (is_some node.decision || is_lost_in p.goals node.goal) (is_done_by p) wanted).1

      pub bounded_failure : (failure : Failure) → IsBounded question pairs (failed_parts p number t node failure)
      bounded_failure failure =
          let after : Parts = failed_parts p number t node failure in
          let nodes : List TreeNode = set p.state.nodes t.node (marked node t.place (Failed failure)) in
          let stuck : Bool = all_failed (marked node t.place (Failed failure)).marks in
          let c : claims_left pairs after ≤ claims_of_all pairs after.goals nodes = cond_le (is_done_by after) (claims_of_all pairs after.goals nodes) in
          let g : claims_of_all pairs after.goals nodes ≤ claims_of_all pairs p.goals nodes = all_more pairs p.goals (lost_if stuck p.goals node.goal) (lost_grows stuck p.goals node.goal) nodes in
          let s = all_set pairs p.goals p.state.nodes t.node node (marked node t.place (Failed failure)) made in
          let m : claims_of pairs p.goals (marked node t.place (Failed failure)) + 0 ≡ claims_of pairs p.goals node + 0 = marked_live pairs p.goals node t.place Running (Failed failure) running live in
          let was = was_left in
          ends_once after (length-append p.history _) fewer_run (omega (arith, c, g, s, m, was))

      -- a step that leaves no more tasks than stand below its problem, in any goals of which no fewer are lost
      pub bounded_step : (step : ProofStep) (left : List ProofProblem) → tasks_of_all pairs left ≤ tasks_below pairs node.problem → (more : List GoalState)
          → ((h : ℕ) → is_lost_in p.goals h ≡ true → is_lost_in more h ≡ true) → (q : Parts) → length q.history ≡ length p.history + 1 → q.running + 1 ≡ p.running
          → q.goals ≡ more → q.state.nodes ≡ nodes_with p.state t node step left → IsBounded question pairs q
      bounded_step step left shrinks more grows q h r goals_are nodes_are =
          let shut : TreeNode = record (marked node t.place Idle) { decision = Some (record { step = step; first = length p.state.nodes; count = length left }) } in
          let old : List TreeNode = set p.state.nodes t.node shut in
          let new : List TreeNode = map (new_node node.goal) left in
          let are : claims_of_all pairs q.goals q.state.nodes ≡ claims_of_all pairs more (old ++ new) = λ i. claims_of_all pairs (goals_are i) (nodes_are i) in
          let c : claims_left pairs q ≤ claims_of_all pairs q.goals q.state.nodes = cond_le (is_done_by q) (claims_of_all pairs q.goals q.state.nodes) in
          let a = all_append pairs more old new in
          let g = all_more pairs p.goals more grows old in
          let s = all_set pairs p.goals p.state.nodes t.node node shut made in
          let none : claims_of pairs p.goals shut ≡ 0 = refl in
          let here : claims_of pairs p.goals node ≡ count_idle node.marks + tasks_below pairs node.problem = ap (λ (b : Bool). cond b 0 (count_idle node.marks + tasks_below pairs node.problem)) live in
          let few = all_new pairs more node.goal left in
          let was = was_left in
          ends_once q h r (omega (arith, are, c, a, g, s, none, here, few, shrinks, was))

-- a tree that has no history
pub bounded_opening : (question : Question) (pairs : ℕ) (p : Parts) → IsOpening question p → IsBounded question pairs p
bounded_opening question pairs p is =
    let h : length p.history ≡ 0 = ap (λ (es : List HistoryEntry). length es) is.history in
    let r = is.running in
    let c : claims_left pairs p ≤ claims_of_all pairs p.goals p.state.nodes = cond_le (is_done_by p) (claims_of_all pairs p.goals p.state.nodes) in
    let few : claims_of_all pairs p.goals p.state.nodes ≤ tasks_of_all pairs (roots question) =
    subst (λ (s : State). claims_of_all pairs p.goals s.nodes ≤ tasks_of_all pairs (roots question)) (sym is.state) (all_roots pairs p.goals 0 (roots question)) in
    record { within = omega (arith, h, r, c, few) }

roots_few : (question : Question) (pairs : ℕ) → tasks_of_all pairs (roots question) ≤ 14 + 12 * (pairs - 1)
roots_few Termination pairs = let e : tasks_of_all pairs (roots Termination) ≡ 1 + (6 + 12 * (pairs - 1)) + (1 + 0 + 0) = refl in omega (arith, e)
roots_few Confluence pairs = let e : tasks_of_all pairs (roots Confluence) ≡ 3 + 0 + (1 + (7 + 12 * (pairs - 1)) + (1 + 0 + 0)) = refl in omega (arith, e)
roots_few Unique pairs = let e : tasks_of_all pairs (roots Unique) ≡ 1 + 3 + (1 + (8 + 12 * (pairs - 1)) + (1 + 0 + 0)) = refl in omega (arith, e)

-- the history has fewer than 2^21 entries
pub short : (question : Question) (system : System) (p : Parts) → IsValid system → IsBounded question (pairs_in system) p → length p.history < 2 ^ 21
short question system p valid bounded =
    let w = bounded.within in
    let r = roots_few question (pairs_in system) in
    let few = few_pairs_in system valid in
    omega (arith, w, r, few)
