use Rattle.std.proofs.Common.{◌≡◌, ◌<◌, ◌-◌, ◌∷◌, [], map, length, sym, ap, ◌∙◌, subst, arith, vec_len, ℕ, Some, slice_get, set}
use Rattle.std.specs.Vec.{vec_capacity}
use Rattle.std.proofs.lemmas.List.{length-map, length-append}
use Rattle.tree_state.specs.Parts.{Parts, HasTicket}
use Rattle.tree_definitions.specs.States.{marked}
use Rattle.tree_definitions.specs.declared.ticket.Ticket.{Ticket}
use Rattle.tree_definitions.specs.History.{HistoryEntry}
use Rattle.tree_state.specs.Seen.{entry_of, event_of, node_of, AreWithin}
use Rattle.tree_state.specs.contracts.board.Board.{the_view}
use Rattle.tree_state.proofs.SeenNodes.{node_within, place_fits, within_more, nodes_seen, one_more}
use Rattle.tree_state.proofs.board.Board.end.Goals as goal

pub set_mark-requires-clause-node : goal.set_mark-requires-clause-node
set_mark-requires-clause-node c =
    let has = subst (λ (p : Parts). HasTicket p c.args.ticket) (sym c.self.view_is) c.requires.has in
    let t = c.end_ticket-entry.ensures has.ticket has.there in
    rw t.1 (node_within (map entry_of c.self.inside.history.items) c.self.inside.nodes.items has.ticket.node has.node has.made)

pub set_mark-requires-clause-place : goal.set_mark-requires-clause-place
set_mark-requires-clause-place c =
    let has = subst (λ (p : Parts). HasTicket p c.args.ticket) (sym c.self.view_is) c.requires.has in
    let t = c.end_ticket-entry.ensures has.ticket has.there in
    rw t.1 (place_fits (map entry_of c.self.inside.history.items) c.self.inside.nodes.items has.ticket.node has.ticket.place has.node has.made has.place)

pub invariant_of-self : goal.invariant_of-self
invariant_of-self c =
    let n = length-append c.self.inside.history.items (c.end_ticket-entry.result.1 ∷ []) in
    let more : length c.self.inside.history.items < length c.push_reserved.new.self.items = rw c.push_reserved.ensures.items (omega (arith, n)) in
    within_more (length c.self.inside.history.items) (length c.push_reserved.new.self.items) c.set_mark.new.nodes.items (omega (arith, more))
    (c.set_mark.ensures.within (length c.self.inside.history.items) c.self.invariant)

pub returns : goal.returns
returns c = rw (← c.self.view_is) (λ has.
    let h = map entry_of c.self.inside.history.items in
    let t = c.end_ticket-entry.ensures has.ticket has.there in
    let e : HistoryEntry = record { seat = has.ticket.seat; ticket = c.args.ticket; event = event_of c.args.event } in
    let history = one_more c.self.inside.history.items c.push_reserved.new.self.items c.end_ticket-entry.result.1 e c.push_reserved.ensures.items t.2 in
    let within = c.set_mark.ensures.within (length c.self.inside.history.items) c.self.invariant in
    let within_h = subst (λ (n : ℕ). AreWithin n c.set_mark.new.nodes.items) (sym (length-map c.self.inside.history.items entry_of)) within in
    let place = subst (λ (u : Ticket). slice_get (map (node_of h) c.self.inside.nodes.items) u.node ≡ Some has.node) (sym t.1) has.made in
    let fits = subst (λ (u : Ticket). u.place < length has.node.marks) (sym t.1) has.place in
    let nodes = nodes_seen h (map entry_of c.push_reserved.new.self.items) e c.set_mark.new.nodes.items history within_h ∙ (c.set_mark.ensures.nodes h has.node place fits
    ∙ ap (λ (u : Ticket). set (map (node_of h) c.self.inside.nodes.items) u.node (marked has.node u.place c.args.mark)) t.1) in
    let room : vec_capacity c.push_reserved.new.self - vec_len c.push_reserved.new.self ≡ vec_capacity c.self.inside.history - vec_len c.self.inside.history - 1 =
    omega (arith, c.push_reserved.ensures.len, c.push_reserved.ensures.capacity) in
    λ i. record {
      history = history i;
      state = record (the_view c.self.inside).state { nodes = nodes i; tickets = t.0 i };
      goals = c.self.inside.goals.items;
      running = c.self.inside.running - 1;
      room = room i;
      node_room = c.set_mark.ensures.room i;
      cursor = c.self.inside.cursor;
    })
