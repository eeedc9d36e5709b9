use Rattle.std.specs.Prelude.{slice_range}
use Rattle.std.proofs.Common.{length, arith, ap, ◌∙◌}
use Rattle.loop_find.proofs.LinkLists.{left_within, right_within, left_tokens, right_tokens, part_short}
use Rattle.loop_find.proofs.closures.Closures.may_loop.Goals as goal

pub part-requires-clause-order : goal.part-requires-clause-order
part-requires-clause-order c = (left_within c.requires.sound.0 c.args.self.now c.requires.sound.1 c.args.number c.link_at-link.result.now c.link_at-link.ensures).0

pub part-requires-clause-within : goal.part-requires-clause-within
part-requires-clause-within c = rw c.deref.ensures.value (left_within c.requires.sound.0 c.args.self.now c.requires.sound.1 c.args.number c.link_at-link.result.now c.link_at-link.ensures).1

pub part-requires-2-clause-order : goal.part-requires-2-clause-order
part-requires-2-clause-order c = (right_within c.requires.sound.0 c.args.self.now c.requires.sound.1 c.args.number c.link_at-link.result.now c.link_at-link.ensures).0

pub part-requires-2-clause-within : goal.part-requires-2-clause-within
part-requires-2-clause-within c = rw c.deref-2.ensures.value (right_within c.requires.sound.0 c.args.self.now c.requires.sound.1 c.args.number c.link_at-link.result.now c.link_at-link.ensures).1

pub may_recur-requires : goal.may_recur-requires
may_recur-requires c =
    let l = c.link_at-link.result.now in
    omega (arith, part_short c.deref-2.result.now l.right l.end, ap length c.part-2.ensures, ap length c.deref-2.ensures.value, c.args.self.now.tokens.ok.0, c.args.self.now.tokens.ok.1, c.args.self.now.tokens.small)

pub returns : goal.returns
returns c = λ e cl q at h.
    let l = c.link_at-link.result.now in
    c.may_recur.ensures e cl.left cl.right q
    (c.part.ensures ∙ (ap (λ z. slice_range z l.left l.right) c.deref.ensures.value ∙ left_tokens c.requires.sound.0 c.args.self.now c.requires.sound.1 c.args.number l c.link_at-link.ensures cl at))
    (c.part-2.ensures ∙ (ap (λ z. slice_range z l.right l.end) c.deref-2.ensures.value ∙ right_tokens c.requires.sound.0 c.args.self.now c.requires.sound.1 c.args.number l c.link_at-link.ensures cl at)) h
