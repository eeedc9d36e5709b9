use Rattle.std.proofs.Common.{◌∙◌, refl, sym, subst}
use Rattle.tree_state.specs.tree_definitions.History.{cancelled, Runs}
use Rattle.tree_state.specs.Parts.{ended_parts}
use Rattle.tree_state.specs.tree_definitions.Trees.{ProofTree}
use Rattle.tree_state.specs.tree_definitions.Replies.{IsUnwanted}
use Rattle.tree_state.specs.tree_definitions.declared.mark.Mark.TheVariants.{Idle}
use Rattle.tree_core.proofs.Trees.{has_ticket, running_ok, room_ok, late_tree, cancels, unwanted, wanted, adds_late, notes_left}
use Rattle.tree_core.proofs.tree.Tree.poll.Goals as goal

pub is_over-requires : goal.is_over-requires
is_over-requires c =
    let i = c.self.inside in
    let h = has_ticket i.question i.system.now i.limits.budget i.board c.self.invariant c.args.ticket (subst (λ (t : ProofTree). Runs c.args.ticket t.history) (sym c.self.view_is) c.requires) in
    h

pub returns-then-not-is_over : goal.returns-then-not-is_over
returns-then-not-is_over c =
    let i = c.self.inside in
    let h = has_ticket i.question i.system.now i.limits.budget i.board c.self.invariant c.args.ticket (subst (λ (t : ProofTree). Runs c.args.ticket t.history) (sym c.self.view_is) c.requires) in
    (subst (λ (t : ProofTree). IsUnwanted t c.args.ticket → ⊥) c.self.view_is (wanted i.question i.system.now i.limits.budget i.board c.self.invariant c.args.ticket h (sym (c.is_over.ensures h) ∙ c.if-not-is_over.true)), refl)

pub end-requires-clause-room : goal.end-requires-clause-room
end-requires-clause-room c =
    let i = c.self.inside in
    let h = has_ticket i.question i.system.now i.limits.budget i.board c.self.invariant c.args.ticket (subst (λ (t : ProofTree). Runs c.args.ticket t.history) (sym c.self.view_is) c.requires) in
    room_ok i.question i.system.now i.limits.budget i.board c.self.invariant c.args.ticket h

pub end-requires-clause-running : goal.end-requires-clause-running
end-requires-clause-running c =
    let i = c.self.inside in
    let h = has_ticket i.question i.system.now i.limits.budget i.board c.self.invariant c.args.ticket (subst (λ (t : ProofTree). Runs c.args.ticket t.history) (sym c.self.view_is) c.requires) in
    running_ok i.question i.system.now i.limits.budget i.board c.self.invariant c.args.ticket h

pub end-requires-clause-has : goal.end-requires-clause-has
end-requires-clause-has c =
    let i = c.self.inside in
    let h = has_ticket i.question i.system.now i.limits.budget i.board c.self.invariant c.args.ticket (subst (λ (t : ProofTree). Runs c.args.ticket t.history) (sym c.self.view_is) c.requires) in
    h

pub invariant_of-self : goal.invariant_of-self
invariant_of-self c =
    let i = c.self.inside in
    let h = has_ticket i.question i.system.now i.limits.budget i.board c.self.invariant c.args.ticket (subst (λ (t : ProofTree). Runs c.args.ticket t.history) (sym c.self.view_is) c.requires) in
    let over = sym (c.is_over.ensures h) ∙ c.if-not-is_over.false in
    rw (c.end.ensures h) (late_tree i.question i.system.now i.limits.budget i.board c.self.invariant c.args.ticket h cancelled (λ q st e. cc) over (cancels i.question i.system.now i.limits.budget i.board c.self.invariant c.args.ticket h over))

pub returns : goal.returns
returns c =
    let i = c.self.inside in
    let h = has_ticket i.question i.system.now i.limits.budget i.board c.self.invariant c.args.ticket (subst (λ (t : ProofTree). Runs c.args.ticket t.history) (sym c.self.view_is) c.requires) in
    let over = sym (c.is_over.ensures h) ∙ c.if-not-is_over.false in (
      subst (λ (t : ProofTree). IsUnwanted t c.args.ticket) c.self.view_is (unwanted i.question i.system.now i.limits.budget i.board c.self.invariant c.args.ticket h over),
      notes_left i.question i.system.now i.limits.budget i.board c.end.new.self (ended_parts i.board c.args.ticket h.ticket h.node cancelled Idle) c.args.self.now c.args.ticket cancelled
          c.self.view_is (c.end.ensures h) (adds_late i.question i.system.now i.limits.budget i.board c.self.invariant c.args.ticket h cancelled (cancels i.question i.system.now i.limits.budget i.board c.self.invariant c.args.ticket h over)),
    )
