use Rattle.std.proofs.Common.{refl, arith}
use Rattle.std.proofs.lemmas.List.{take_more, take_all}
use Rattle.trs_core.proofs.terms.Term.+copy.Goals as goal

pub loop-arg-preserved : goal.loop-arg-preserved
loop-arg-preserved t c =
    let next = take_more c.deref-arg-items.result.now c.loop-arg.arg-index c.arg-item.result c.loop-arg-test.true in
    cc (c.in_ok-push-in-App.ensures.items, c.in_ok-copy-in-App.ensures)

pub returns-after-loop-arg : goal.returns-after-loop-arg
returns-after-loop-arg t c =
    rw (
      c.loop-arg.invariant,
      take_all c.loop-arg.arg-index c.deref-arg-items.result.now (omega arith),
      c.deref-arg-items.ensures.value,
      c.in-App.is,
      ← c.args-in-App.view_is,
    ) refl
