use Rattle.std.proofs.Common.{◌≡◌, ap, arith, sym, ◌∙◌}
use Rattle.trs_caps.specs.HoledTree.{symbol, holed_trees}
use Rattle.trs_caps.specs.Numbered.{number_none}
use Rattle.trs_caps.specs.View.{holed, holed_all}
use Rattle.trs_caps.proofs.CapSteps.{next_number, numbered_symbol, numbered_hole, numbered_own}
use Rattle.trs_caps.proofs.naming.+number.Goals as goal

pub loop-part-init : goal.loop-part-init
loop-part-init t c = λ is_own own. rw c.in_ok-args-in-Symbol.ensures.items number_none

pub loop-part-preserved : goal.loop-part-preserved
loop-part-preserved t c = λ is_own own.
    next_number is_own c.args.next.now c.loop-part.next c.number.new.next c.deref-part-items.result.now c.loop-part.args.items c.push.new.self.items c.loop-part.part-index c.part-item.result c.in_ok-number-in-Symbol.field-0
    c.loop-part-test.true c.part-item.is c.in_ok-push-in-Symbol.ensures.items (c.loop-part.invariant is_own own) (c.in_ok-number-in-Symbol.ensures is_own own)

pub returns-in_ok-fresh-in-Open : goal.returns-in_ok-fresh-in-Open
returns-in_ok-fresh-in-Open t c = λ is_own own.
    numbered_hole is_own c.args.next.now c.in_ok-fresh-in-Open.field-0 c.fresh.new.next (holed c.args.cap.now) (ap holed c.in-Open.is) c.in_ok-fresh-in-Open.ensures.next (c.in_ok-fresh-in-Open.ensures.variable is_own own)

pub returns-in-Own : goal.returns-in-Own
returns-in-Own t c = λ is_own own. numbered_own is_own c.args.next.now c.in-Own.v (holed c.args.cap.now) (ap holed c.in-Own.is)

pub returns-after-loop-part : goal.returns-after-loop-part
returns-after-loop-part t c = λ is_own own.
    let is : holed c.args.cap.now ≡ symbol c.in-Symbol.f (holed_all c.deref-part-items.result.now) =
    ap holed c.in-Symbol.is ∙ (ap (λ z. symbol c.in-Symbol.f (holed_trees z)) (sym c.parts.view_is) ∙ ap (λ z. symbol c.in-Symbol.f (holed_all z)) (sym c.deref-part-items.ensures.value)) in
    numbered_symbol is_own c.args.next.now c.loop-part.next (holed c.args.cap.now) c.in-Symbol.f c.deref-part-items.result.now c.loop-part.args.items c.loop-part.part-index is (omega arith) (c.loop-part.invariant is_own own)
