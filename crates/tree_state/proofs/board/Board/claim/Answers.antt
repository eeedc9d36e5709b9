use Rattle.std.proofs.Common.{◌≡◌, ◌<◌, ◌-◌, ◌+◌, ◌++◌, ◌∷◌, [], map, length, refl, sym, ◌∙◌, subst, arith, vec_len, ℕ, Some, slice_get, true, rules}
use Rattle.std.specs.Vec.{vec_capacity}
use Rattle.std.proofs.lemmas.List.{length-map, length-append}
use Rattle.tree_definitions.specs.cert_step.ProofProblem.{problem_of}
use Rattle.tree_state.specs.Parts.{Parts}
use Rattle.tree_definitions.specs.States.{TreeNode}
use Rattle.tree_state.specs.declared.entry.Event.TheVariants as own
use Rattle.tree_state.specs.declared.entry.Entry.{Entry}
use Rattle.tree_definitions.specs.History.{HistoryEntry, claimed}
use Rattle.tree_state.specs.Seen.{entry_of, AreWithin}
use Rattle.tree_state.specs.contracts.board.Board.{the_view}
use Rattle.tree_state.proofs.SeenNodes.{place_fits, within_more, nodes_seen, one_more}
use Rattle.tree_state.proofs.board.Board.claim.Goals as goal

pub set_mark-requires-clause-place : goal.set_mark-requires-clause-place
set_mark-requires-clause-place c =
    let node = c.requires.node.0 in
    let there = subst (λ (p : Parts). slice_get p.state.nodes c.args.n ≡ Some node) (sym c.self.view_is) c.requires.node.1 in
    place_fits (map entry_of c.self.inside.history.items) c.self.inside.nodes.items c.args.n c.args.place node there c.requires.node.2

pub invariant_of-self-2 : goal.invariant_of-self-2
invariant_of-self-2 c =
    let n = c.in_ok-reserve.ensures.items in
    let e : Entry = record { seat = c.args.seat; ticket = c.len-ticket.result; event = own.Claimed c.args.problem c.args.strategy } in
    let m = length-append c.self.inside.history.items (e ∷ []) in
    let more : length c.self.inside.history.items < length c.push_reserved-2.new.self.items = rw (c.push_reserved-2.ensures.items, n) (omega (arith, m)) in
    within_more (length c.self.inside.history.items) (length c.push_reserved-2.new.self.items) c.set_mark.new.nodes.items (omega (arith, more))
    (c.set_mark.ensures.within (length c.self.inside.history.items) c.self.invariant)

pub returns-clause-parts : goal.returns-clause-parts
returns-clause-parts c = rw (← c.self.view_is) (λ node there.
    let h = map entry_of c.self.inside.history.items in
    let own_entry : Entry = record { seat = c.args.seat; ticket = c.len-ticket.result; event = own.Claimed c.args.problem c.args.strategy } in
    let ticket : c.len-ticket.result ≡ length c.self.inside.tickets.items = search rules in
    let e : HistoryEntry = record { seat = c.args.seat; ticket = length c.self.inside.tickets.items; event = claimed (problem_of c.args.problem) c.args.strategy } in
    let seen : entry_of own_entry ≡ e = λ i. record { seat = c.args.seat; ticket = ticket i; event = claimed (problem_of c.args.problem) c.args.strategy } in
    let items : c.push_reserved-2.new.self.items ≡ c.self.inside.history.items ++ own_entry ∷ [] = rw (c.push_reserved-2.ensures.items, c.in_ok-reserve.ensures.items) refl in
    let history = one_more c.self.inside.history.items c.push_reserved-2.new.self.items own_entry e items seen in
    let within = c.set_mark.ensures.within (length c.self.inside.history.items) c.self.invariant in
    let within_h = subst (λ (n : ℕ). AreWithin n c.set_mark.new.nodes.items) (sym (length-map c.self.inside.history.items entry_of)) within in
    let node_0 = c.requires.node.0 in
    let there_0 = subst (λ (p : Parts). slice_get p.state.nodes c.args.n ≡ Some node_0) (sym c.self.view_is) c.requires.node.1 in
    let same : node_0 ≡ node = cc in
    let fits : c.args.place < length node.marks = subst (λ (x : TreeNode). c.args.place < length x.marks) same c.requires.node.2 in
    let nodes = nodes_seen h (map entry_of c.push_reserved-2.new.self.items) e c.set_mark.new.nodes.items history within_h ∙ c.set_mark.ensures.nodes h node there fits in
    let tickets : c.push_reserved.new.self.items ≡ c.self.inside.tickets.items ++ record { seat = c.args.seat; node = c.args.n; place = c.args.place; is_running = true } ∷ [] =
    rw (c.push_reserved.ensures.items, c.in_ok-reserve-2.ensures.items) refl in
    λ i. record {
      history = history i;
      state = record (the_view c.self.inside).state { nodes = nodes i; tickets = tickets i };
      goals = c.self.inside.goals.items;
      running = c.self.inside.running + 1;
      room = vec_capacity c.push_reserved-2.new.self - vec_len c.push_reserved-2.new.self;
      node_room = c.set_mark.ensures.room i;
      cursor = c.self.inside.cursor;
    })
