use Rattle.std.proofs.Common.{◌≡◌, sym, ◌∙◌, subst, Some, slice_get, arith}
use Rattle.std.proofs.lemmas.Option.{get_or_from_slice_get}
use Rattle.tree_definitions.specs.declared.ticket.Ticket.{Ticket}
use Rattle.tree_definitions.specs.declared.mark.Mark.TheVariants.{Failed}
use Rattle.tree_definitions.specs.History.{failed}
use Rattle.tree_definitions.specs.States.{TreeNode}
use Rattle.tree_state.specs.Parts.{Parts, lost_if, all_failed}
use Rattle.tree_state.proofs.Changes.{node_made, nodes_ended, fail_parts}
use Rattle.tree_state.proofs.board.Board.fail.Goals as goal

pub note_stuck-requires : goal.note_stuck-requires
note_stuck-requires c =
    let has = c.requires.has in
    let in_items = subst (λ (p : Parts). slice_get p.state.tickets c.args.ticket ≡ Some has.ticket) (sym c.self.view_is) has.there in
    let same : c.index.result.now ≡ has.ticket = c.index.ensures ∙ get_or_from_slice_get c.self.inside.tickets.items c.args.ticket has.ticket c.index.result.now in_items in
    let n = nodes_ended c.args.self.now c.end.new.self c.args.ticket has.ticket has.node (failed c.args.failure) (Failed c.args.failure) has.made (c.end.ensures has) in
    rw same (omega (arith, n, node_made c.args.self.now c.args.ticket has))

pub returns : goal.returns
returns c = λ has.
    let in_items = subst (λ (p : Parts). slice_get p.state.tickets c.args.ticket ≡ Some has.ticket) (sym c.self.view_is) has.there in
    let same : c.index.result.now ≡ has.ticket = c.index.ensures ∙ get_or_from_slice_get c.self.inside.tickets.items c.args.ticket has.ticket c.index.result.now in_items in
    let next = subst (λ (t : Ticket). (x : TreeNode) → slice_get c.end.new.self.state.nodes t.node ≡ Some x
    → c.note_stuck.new.self ≡ record c.end.new.self { goals = lost_if (all_failed x.marks) c.end.new.self.goals x.goal }) same c.note_stuck.ensures in
    fail_parts c.args.self.now c.end.new.self c.note_stuck.new.self c.args.ticket has.ticket has.node c.args.failure has.made (c.end.ensures has) next
