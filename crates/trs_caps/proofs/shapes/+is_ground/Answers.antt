use Rattle.std.proofs.Common.{◌≡◌, refl}
use Rattle.trs_defs.specs.Tree.{app}
use Rattle.trs_core.specs.View.{tree, forest}
use Rattle.trs_caps.proofs.ShapeLaws.{next_tells, all_tell}
use Rattle.trs_caps.proofs.shapes.+is_ground.Goals as goal

pub loop-arg-init : goal.loop-arg-init
loop-arg-init t c = λ v. refl

pub loop-arg-preserved : goal.loop-arg-preserved
loop-arg-preserved t c =
    next_tells c.deref-arg-items.result.now c.loop-arg.arg-index c.arg-item.result c.loop-arg-test.true c.arg-item.is (c.is_ground.ensures c.if-not-is_ground.false) c.loop-arg.invariant

pub returns-after-loop-arg : goal.returns-after-loop-arg
returns-after-loop-arg t c =
    let args = c.deref-arg-items.result.now in
    let is : tree c.args.t.now ≡ app c.in-App.field-0 (forest args) = rw (c.in-App.is, ← c.args-in-App.view_is, c.deref-arg-items.ensures.value) refl in
    λ _. all_tell (tree c.args.t.now) c.in-App.field-0 args c.loop-arg.arg-index is c.loop-arg-test.false c.loop-arg.invariant
