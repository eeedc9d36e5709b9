use Rattle.std.proofs.Common.{◌≡◌, ◌+◌, ◌∙◌, ◌∷◌, suc, drop, sym, ap, arith}
use Rattle.sexp_core.specs.Items.{view, views}
use Rattle.ari_text.specs.Least.{noted}
use Rattle.ari_text.specs.Faults.{deep_faults, all_deep_faults}
use Rattle.names_text.proofs.Loops.{one_more}
use Rattle.ari_text.proofs.Leasts.{noted_append}
use Rattle.ari_text.proofs.Noting.{deep_list}
use Rattle.ari_text.proofs.checking.+deep.Goals as goal
use Rattle.ari_text.proofs.checking.+deep.Goals.{note_all_deep-then-may_be_deep, note_all_deep-else-may_be_deep}

pub note_all_deep-loop-arg-preserved : goal.note_all_deep-loop-arg-preserved
note_all_deep-loop-arg-preserved t c =
    let n = c.args.levels in
    let least = c.loop-arg.least in
    let arg = c.arg-item.result in
    let more = all_deep_faults n (views (drop (c.loop-arg.arg-index + 1) c.args.args.now)) in
    let whole =
    sym (noted_append least (deep_faults n (view arg)) more)
    ∙ one_more (λ xs. noted least (all_deep_faults n (views xs))) c.args.args.now c.loop-arg.arg-index arg c.loop-arg-test.true c.arg-item.is
    ∙ c.loop-arg.invariant in
    elim c.if-may_be_deep.branch [
      | note_all_deep-then-may_be_deep w ↦ rw (w.least-is, w.note_deep.ensures) whole
      | note_all_deep-else-may_be_deep w ↦
          rw w.least-is (sym (ap (λ fs. noted (noted least fs) more) (c.may_be_deep.ensures w.if-may_be_deep.false)) ∙ whole)
    ]

pub note_deep-returns-in-Some-split_first : goal.note_deep-returns-in-Some-split_first
note_deep-returns-in-Some-split_first t c =
    let n = c.args.levels in
    let arm = c.in-Some-split_first in
    let deeper : n ≡ suc c.in-Some.below = omega (arith, c.in-Some.ensures) in
    let members : c.in-List.members.now ≡ arm.field-0-0.now ∷ arm.args.now = arm.ensures.cases.0 in
    c.note_all_deep.ensures
    ∙ ap (noted c.args.least.now)
    (sym (ap (λ i. deep_faults n (view i)) c.in-List.is ∙ deep_list n c.in-Some.below c.in-List.field-0 c.in-List.members arm.field-0-0.now arm.args.now deeper members))
