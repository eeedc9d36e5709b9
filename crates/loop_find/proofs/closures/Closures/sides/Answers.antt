use Rattle.std.specs.Prelude.{slice_range}
use Rattle.std.proofs.Common.{ap, ◌∙◌}
use Rattle.trs_core.specs.View.{tree}
use Rattle.loop_find.proofs.LinkLists.{left_within, right_within, sides_of}
use Rattle.loop_find.proofs.closures.Closures.sides.Goals as goal

pub part-requires-clause-order : goal.part-requires-clause-order
part-requires-clause-order c = (left_within c.requires.sound.0 c.args.self.now c.requires.sound.1 c.args.number c.link_at-link.result.now c.link_at-link.ensures).0

pub part-requires-clause-within : goal.part-requires-clause-within
part-requires-clause-within c = rw c.deref.ensures.value (left_within c.requires.sound.0 c.args.self.now c.requires.sound.1 c.args.number c.link_at-link.result.now c.link_at-link.ensures).1

pub part-requires-2-clause-order : goal.part-requires-2-clause-order
part-requires-2-clause-order c = (right_within c.requires.sound.0 c.args.self.now c.requires.sound.1 c.args.number c.link_at-link.result.now c.link_at-link.ensures).0

pub part-requires-2-clause-within : goal.part-requires-2-clause-within
part-requires-2-clause-within c = rw c.deref-2.ensures.value (right_within c.requires.sound.0 c.args.self.now c.requires.sound.1 c.args.number c.link_at-link.result.now c.link_at-link.ensures).1

pub returns : goal.returns
returns c = λ cl e.
    let l = c.link_at-link.result.now in
    sides_of c.requires.sound.0 c.args.self.now c.requires.sound.1 c.args.number l c.link_at-link.ensures cl e (tree c.in_ok-left.left) (tree c.in_ok-right.right) c.part.result.now c.part-2.result.now
    (c.part.ensures ∙ ap (λ z. slice_range z l.left l.right) c.deref.ensures.value) (c.part-2.ensures ∙ ap (λ z. slice_range z l.right l.end) c.deref-2.ensures.value) c.in_ok-left.ensures c.in_ok-right.ensures
