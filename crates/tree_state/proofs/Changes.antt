-- The changes of a board, put together from their parts.
use Rattle.std.proofs.Common.{◌≡◌, ◌<◌, ◌+◌, ◌++◌, ◌∷◌, [], ℕ, zero, suc, List, length, map, set, Some, slice_get, refl, sym, ap, ◌∙◌, subst, arith}
use Rattle.std.proofs.lemmas.List.{length-append, length-map}
use Rattle.std.proofs.lemmas.Option.{slice_get_within}
use Rattle.tree_definitions.specs.cert_step.ProofStep.{ProofStep}
use Rattle.tree_definitions.specs.cert_step.ProofProblem.{ProofProblem}
use Rattle.tree_definitions.specs.strategies.declared.failure.Failure.{Failure}
use Rattle.tree_definitions.specs.declared.mark.Mark.{Mark}
use Rattle.tree_definitions.specs.declared.mark.Mark.TheVariants.{Idle, Failed}
use Rattle.tree_definitions.specs.declared.ticket.Ticket.{Ticket}
use Rattle.tree_state.specs.declared.node.Decision.{Decision}
use Rattle.tree_definitions.specs.History.{HistoryEntry, Event, found, failed}
use Rattle.tree_definitions.specs.States.{TreeNode, new_node, marked}
use Rattle.tree_state.specs.Parts.{Parts, HasTicket, ended_parts, failed_parts, decided_parts, lost_if, all_failed, opened, winner_after}
use Rattle.tree_state.specs.Seen.{decided_of, step_in}
use Rattle.tree_definitions.proofs.Lookups.{get_set, length_set}

pub node_made : (p : Parts) (number : ℕ) (h : HasTicket p number) → h.ticket.node < length p.state.nodes
node_made p number h = slice_get_within p.state.nodes h.ticket.node h.node h.made

-- the ticket at a number is just one
pub same_ticket : (p : Parts) (number : ℕ) (g h : HasTicket p number) → g.ticket ≡ h.ticket
same_ticket p number g h = let a = g.there in let b = h.there in cc

module _ (p q : Parts) (number : ℕ) (t : Ticket) (node : TreeNode) (event : Event) (mark : Mark) (made : slice_get p.state.nodes t.node ≡ Some node)
    (ends : q ≡ ended_parts p number t node event mark) where
  pub node_ended : slice_get q.state.nodes t.node ≡ Some (marked node t.place mark)
  node_ended = subst (λ (x : Parts). slice_get x.state.nodes t.node ≡ Some (marked node t.place mark)) (sym ends) (get_set p.state.nodes t.node (marked node t.place mark) node made)

  pub nodes_ended : length q.state.nodes ≡ length p.state.nodes
  nodes_ended = ap (λ (x : Parts). length x.state.nodes) ends ∙ length_set p.state.nodes t.node (marked node t.place mark)

  pub history_ended : length q.history ≡ length p.history + 1
  history_ended = ap (λ (x : Parts). length x.history) ends ∙ length-append p.history (record { seat = t.seat; ticket = number; event = event } ∷ [])

pub fail_parts : (p q r : Parts) (number : ℕ) (t : Ticket) (node : TreeNode) (failure : Failure) → slice_get p.state.nodes t.node ≡ Some node
    → q ≡ ended_parts p number t node (failed failure) (Failed failure)
    → ((x : TreeNode) → slice_get q.state.nodes t.node ≡ Some x → r ≡ record q { goals = lost_if (all_failed x.marks) q.goals x.goal })
    → r ≡ failed_parts p number t node failure
fail_parts p q r number t node failure made ends next =
    let x = marked node t.place (Failed failure) in
    next x (node_ended p q number t node (failed failure) (Failed failure) made ends) ∙ ap (λ (y : Parts). record y { goals = lost_if (all_failed x.marks) y.goals x.goal }) ends

get_last : {A : Type 0} (xs : List A) (y : A) → slice_get (xs ++ y ∷ []) (length xs) ≡ Some y
get_last [] y = refl
get_last (x ∷ xs) y = get_last xs y

pub set_twice : {A : Type 0} (xs : List A) (i : ℕ) (x y : A) → set (set xs i x) i y ≡ set xs i y
set_twice [] i x y = refl
set_twice (z ∷ xs) zero x y = refl
set_twice (z ∷ xs) (suc i) x y = ap (λ ys. z ∷ ys) (set_twice xs i x y)

-- a node is decided: the ticket ends, the node gets its decision, the nodes that are left are made, and they are counted
pub decide_parts : (p q r u v : Parts) (number : ℕ) (t : Ticket) (node : TreeNode) (step : ProofStep) (left : List ProofProblem) → slice_get p.state.nodes t.node ≡ Some node
    → (d : Decision) → d.entry ≡ length p.history → d.first ≡ length p.state.nodes → d.count ≡ length left
    → q ≡ ended_parts p number t node (found step) Idle
    → ((x : TreeNode) → slice_get q.state.nodes t.node ≡ Some x
    → r ≡ record q { state = record q.state { nodes = set q.state.nodes t.node (record x { decision = Some (decided_of q.history d) }) } })
    → u ≡ record r { state = record r.state { nodes = r.state.nodes ++ map (new_node node.goal) left }; node_room = u.node_room }
    → v ≡ record u { goals = opened u.goals node.goal (length left); state = record u.state { winner = winner_after (opened u.goals node.goal (length left)) node.goal u.state.winner } }
    → v ≡ record (decided_parts p number t node step left) { node_room = v.node_room }
decide_parts p q r u v number t node step left made d entry first count ends decides appends counts =
    let x = marked node t.place Idle in
    let e : HistoryEntry = record { seat = t.seat; ticket = number; event = found step } in
    let r_is = decides x (node_ended p q number t node (found step) Idle made ends) in
    let found_step : step_in (slice_get (p.history ++ e ∷ []) d.entry) ≡ step = rw (entry, get_last p.history e) refl in
    let dec : decided_of (p.history ++ e ∷ []) d ≡ record { step = step; first = length p.state.nodes; count = length left } =
    λ i. record { step = found_step i; first = first i; count = count i } in
    let r_p = r_is ∙ ap (λ (y : Parts). record y { state = record y.state { nodes = set y.state.nodes t.node (record x { decision = Some (decided_of y.history d) }) } }) ends in
    let nodes = set_twice p.state.nodes t.node x (record x { decision = Some (decided_of (p.history ++ e ∷ []) d) })
    ∙ ap (λ z. set p.state.nodes t.node (record x { decision = Some z })) dec in
    let u_p = appends ∙ ap (λ (y : Parts). record y { state = record y.state { nodes = y.state.nodes ++ map (new_node node.goal) left }; node_room = u.node_room }) r_p in
    let v_p = counts ∙ ap (λ (y : Parts). record y {
      goals = opened y.goals node.goal (length left);
      state = record y.state { winner = winner_after (opened y.goals node.goal (length left)) node.goal y.state.winner };
    }) u_p in
    let room : u.node_room ≡ v.node_room = sym (ap (λ (y : Parts). y.node_room) counts) in
    v_p ∙ (λ i. record (decided_parts p number t node step left) {
      state = record (decided_parts p number t node step left).state { nodes = nodes i ++ map (new_node node.goal) left };
      node_room = room i;
    })

module _ (p q r : Parts) (number : ℕ) (t : Ticket) (node : TreeNode) (step : ProofStep) (made : slice_get p.state.nodes t.node ≡ Some node)
    (d : Decision) (ends : q ≡ ended_parts p number t node (found step) Idle)
    (decides : (x : TreeNode) → slice_get q.state.nodes t.node ≡ Some x
    → r ≡ record q { state = record q.state { nodes = set q.state.nodes t.node (record x { decision = Some (decided_of q.history d) }) } }) where
  r_is : r ≡ record q { state = record q.state { nodes = set q.state.nodes t.node (record (marked node t.place Idle) { decision = Some (decided_of q.history d) }) } }
  r_is = decides (marked node t.place Idle) (node_ended p q number t node (found step) Idle made ends)

  pub room_kept : r.node_room ≡ p.node_room
  room_kept = ap (λ (x : Parts). x.node_room) r_is ∙ ap (λ (x : Parts). x.node_room) ends

  module _ (u : Parts) (left : List ProofProblem) (goal : ℕ)
      (appends : u ≡ record r { state = record r.state { nodes = r.state.nodes ++ map (new_node goal) left }; node_room = u.node_room }) where
    pub goals_kept : u.goals ≡ p.goals
    goals_kept = ap (λ (x : Parts). x.goals) appends ∙ ap (λ (x : Parts). x.goals) r_is ∙ ap (λ (x : Parts). x.goals) ends

    pub nodes_more : length u.state.nodes ≡ length p.state.nodes + length left
    nodes_more =
        let a = ap (λ (x : Parts). length x.state.nodes) appends ∙ length-append r.state.nodes (map (new_node goal) left) in
        let b = ap (λ (x : Parts). length x.state.nodes) r_is ∙ length_set q.state.nodes t.node (record (marked node t.place Idle) { decision = Some (decided_of q.history d) }) in
        let c = nodes_ended p q number t node (found step) Idle made ends in
        omega (arith, a, b, c, length-map left (new_node goal))
