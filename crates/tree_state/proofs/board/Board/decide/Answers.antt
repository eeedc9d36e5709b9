use Rattle.std.proofs.Common.{◌≡◌, ◌++◌, ℕ, map, length, sym, ◌∙◌, subst, Some, slice_get, slice_set, arith, List}
use Rattle.std.proofs.lemmas.List.{length-map}
use Rattle.tree_definitions.specs.cert_step.ProofProblem.{problem_of}
use Rattle.tree_definitions.specs.cert_step.ProofStep.{step_of}
use Rattle.tree_state.specs.declared.goal_state.GoalState.{GoalState}
use Rattle.tree_definitions.specs.declared.mark.Mark.TheVariants.{Idle}
use Rattle.tree_state.specs.declared.node.Decision.{Decision}
use Rattle.tree_definitions.specs.History.{found}
use Rattle.tree_definitions.specs.States.{TreeNode, new_node}
use Rattle.tree_state.specs.Seen.{decided_of}
use Rattle.tree_state.specs.Parts.{opened, winner_after}
use Rattle.tree_state.proofs.Changes.{node_made, nodes_ended, history_ended, decide_parts, room_kept, goals_kept, nodes_more}
use Rattle.tree_state.proofs.board.Board.decide.Goals as goal

pub set_decision-requires-clause-node : goal.set_decision-requires-clause-node
set_decision-requires-clause-node c =
    let has = c.requires.has in
    let n = nodes_ended c.args.self.now c.end.new.self c.args.ticket has.ticket has.node (found (step_of c.args.step)) Idle has.made (c.end.ensures has) in
    rw (c.node_of_ticket-n.ensures has).0 (omega (arith, n, node_made c.args.self.now c.args.ticket has))

pub set_decision-requires-clause-entry : goal.set_decision-requires-clause-entry
set_decision-requires-clause-entry c =
    let has = c.requires.has in
    let n = history_ended c.args.self.now c.end.new.self c.args.ticket has.ticket has.node (found (step_of c.args.step)) Idle has.made (c.end.ensures has) in
    omega (arith, n, c.history_len-entry.ensures)

pub append-requires : goal.append-requires
append-requires c =
    let has = c.requires.has in
    let d : Decision = record { entry = c.history_len-entry.result; first = c.nodes_len-first.result; count = c.len-count.result } in
    let at = (c.node_of_ticket-n.ensures has).0 in
    let decides = subst (λ (n : ℕ). (x : TreeNode) → slice_get c.end.new.self.state.nodes n ≡ Some x
    → c.set_decision.new.self ≡ record c.end.new.self { state = record c.end.new.self.state { nodes = slice_set c.end.new.self.state.nodes n (record x { decision = Some (decided_of c.end.new.self.history d) }) } })
    at c.set_decision.ensures in
    let room = room_kept c.args.self.now c.end.new.self c.set_decision.new.self c.args.ticket has.ticket has.node (step_of c.args.step) has.made d (c.end.ensures has) decides in
    omega (arith, room, c.requires.node_room)

pub count-requires : goal.count-requires
count-requires c = λ g there.
    let has = c.requires.has in
    let d : Decision = record { entry = c.history_len-entry.result; first = c.nodes_len-first.result; count = c.len-count.result } in
    let at = (c.node_of_ticket-n.ensures has).0 in
    let decides = subst (λ (n : ℕ). (x : TreeNode) → slice_get c.end.new.self.state.nodes n ≡ Some x
    → c.set_decision.new.self ≡ record c.end.new.self { state = record c.end.new.self.state { nodes = slice_set c.end.new.self.state.nodes n (record x { decision = Some (decided_of c.end.new.self.history d) }) } })
    at c.set_decision.ensures in
    let p = c.args.self.now in
    let goals = goals_kept p c.end.new.self c.set_decision.new.self c.args.ticket has.ticket has.node (step_of c.args.step) has.made d (c.end.ensures has) decides
    c.append.new.self (map problem_of c.args.left.items) c.node_of_ticket-n.result.1 c.append.ensures.parts in
    let more = nodes_more p c.end.new.self c.set_decision.new.self c.args.ticket has.ticket has.node (step_of c.args.step) has.made d (c.end.ensures has) decides
    c.append.new.self (map problem_of c.args.left.items) c.node_of_ticket-n.result.1 c.append.ensures.parts in
    let goal_is = (c.node_of_ticket-n.ensures has).1 in
    let here : slice_get p.goals c.node_of_ticket-n.result.1 ≡ Some g = subst (λ (gs : List GoalState). slice_get gs c.node_of_ticket-n.result.1 ≡ Some g) goals there in
    let open_nodes = c.requires.open_nodes has g (subst (λ (n : ℕ). slice_get p.goals n ≡ Some g) goal_is here) in
    let count = c.len-count.ensures ∙ c.args.left.ok.0 ∙ sym (length-map c.args.left.items problem_of) in
    omega (arith, more, open_nodes, count, c.append.ensures.few)

pub returns : goal.returns
returns c = record {
  parts = λ has.
      let d : Decision = record { entry = c.history_len-entry.result; first = c.nodes_len-first.result; count = c.len-count.result } in
      let at = (c.node_of_ticket-n.ensures has).0 in
      let goal_is = (c.node_of_ticket-n.ensures has).1 in
      let count : c.len-count.result ≡ length (map problem_of c.args.left.items) = c.len-count.ensures ∙ c.args.left.ok.0 ∙ sym (length-map c.args.left.items problem_of) in
      let decides = subst (λ (n : ℕ). (x : TreeNode) → slice_get c.end.new.self.state.nodes n ≡ Some x
      → c.set_decision.new.self ≡ record c.end.new.self { state = record c.end.new.self.state { nodes = slice_set c.end.new.self.state.nodes n (record x { decision = Some (decided_of c.end.new.self.history d) }) } })
      at c.set_decision.ensures in
      let appends = subst (λ (g : ℕ). c.append.new.self ≡ record c.set_decision.new.self {
        state = record c.set_decision.new.self.state { nodes = c.set_decision.new.self.state.nodes ++ map (new_node g) (map problem_of c.args.left.items) };
        node_room = c.append.new.self.node_room;
      }) goal_is c.append.ensures.parts in
      let counts = subst (λ (g : ℕ). c.count.new.self ≡ record c.append.new.self {
        goals = opened c.append.new.self.goals g (length (map problem_of c.args.left.items));
        state = record c.append.new.self.state { winner = winner_after (opened c.append.new.self.goals g (length (map problem_of c.args.left.items))) g c.append.new.self.state.winner };
      }) goal_is (subst (λ (n : ℕ). c.count.new.self ≡ record c.append.new.self {
        goals = opened c.append.new.self.goals c.node_of_ticket-n.result.1 n;
        state = record c.append.new.self.state { winner = winner_after (opened c.append.new.self.goals c.node_of_ticket-n.result.1 n) c.node_of_ticket-n.result.1 c.append.new.self.state.winner };
      }) count c.count.ensures) in
      decide_parts c.args.self.now c.end.new.self c.set_decision.new.self c.append.new.self c.count.new.self c.args.ticket has.ticket has.node (step_of c.args.step)
      (map problem_of c.args.left.items) has.made d c.history_len-entry.ensures c.nodes_len-first.ensures count (c.end.ensures has) decides appends counts;
}
