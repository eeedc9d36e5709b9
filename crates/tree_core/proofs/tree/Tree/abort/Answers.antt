use Rattle.std.proofs.Common.{refl, sym, subst}
use Rattle.tree_state.specs.tree_definitions.History.{aborted, Runs}
use Rattle.tree_state.specs.Parts.{aborted_parts}
use Rattle.tree_state.specs.tree_definitions.Trees.{ProofTree}
use Rattle.tree_core.proofs.Trees.{has_ticket, running_ok, room_ok, aborts, abort_tree, owner, notes_left}
use Rattle.tree_core.proofs.tree.Tree.abort.Goals as goal

pub abort-requires-clause-has : goal.abort-requires-clause-has
abort-requires-clause-has c =
    let i = c.self.inside in
    let h = has_ticket i.question i.system.now i.limits.budget i.board c.self.invariant c.args.ticket (subst (λ (t : ProofTree). Runs c.args.ticket t.history) (sym c.self.view_is) c.requires) in
    h

pub abort-requires-clause-room : goal.abort-requires-clause-room
abort-requires-clause-room c =
    let i = c.self.inside in
    let h = has_ticket i.question i.system.now i.limits.budget i.board c.self.invariant c.args.ticket (subst (λ (t : ProofTree). Runs c.args.ticket t.history) (sym c.self.view_is) c.requires) in
    room_ok i.question i.system.now i.limits.budget i.board c.self.invariant c.args.ticket h

pub abort-requires-clause-running : goal.abort-requires-clause-running
abort-requires-clause-running c =
    let i = c.self.inside in
    let h = has_ticket i.question i.system.now i.limits.budget i.board c.self.invariant c.args.ticket (subst (λ (t : ProofTree). Runs c.args.ticket t.history) (sym c.self.view_is) c.requires) in
    running_ok i.question i.system.now i.limits.budget i.board c.self.invariant c.args.ticket h

pub invariant_of-self : goal.invariant_of-self
invariant_of-self c =
    let i = c.self.inside in
    let h = has_ticket i.question i.system.now i.limits.budget i.board c.self.invariant c.args.ticket (subst (λ (t : ProofTree). Runs c.args.ticket t.history) (sym c.self.view_is) c.requires) in
    rw (c.abort.ensures h) (abort_tree i.question i.system.now i.limits.budget i.board c.self.invariant c.args.ticket h)

pub returns : goal.returns
returns c =
    let i = c.self.inside in
    let h = has_ticket i.question i.system.now i.limits.budget i.board c.self.invariant c.args.ticket (subst (λ (t : ProofTree). Runs c.args.ticket t.history) (sym c.self.view_is) c.requires) in
    notes_left i.question i.system.now i.limits.budget i.board c.abort.new.self (aborted_parts i.board c.args.ticket h.ticket h.node) c.args.self.now c.args.ticket aborted
    c.self.view_is (c.abort.ensures h) (record {
      seat = h.ticket.seat;
      owner = owner i.question i.system.now i.limits.budget i.board c.self.invariant c.args.ticket h;
      adds = record { follows = aborts i.question i.system.now i.limits.budget i.board c.self.invariant c.args.ticket h; tree = refl };
    })
