use Rattle.std.proofs.Common.{◌≡◌, [], refl, ap}
use Rattle.trs_defs.specs.Tree.{app}
use Rattle.trs_core.specs.View.{tree, forest}
use Rattle.loop_find.proofs.Recurrences.{nowhere_in_variable, none_yet, none_further, nowhere}
use Rattle.loop_find.proofs.instances.+may_hold.Goals as goal

pub returns-in-Var : goal.returns-in-Var
returns-in-Var t c = λ _.
    (nowhere_in_variable (tree c.args.pattern.now) (tree c.args.t.now) c.in-Var.field-0 [] [] refl (ap tree c.in-Var.is) (c.may_match.ensures c.if-may_match.false)).none

pub loop-arg-init : goal.loop-arg-init
loop-arg-init t c =
    let is : tree c.args.t.now ≡ app c.in-App.field-0 (forest c.deref-arg-items.result.now) = rw (c.in-App.is, ← c.args-in-App.view_is, c.deref-arg-items.ensures.value) refl in
    none_yet (tree c.args.pattern.now) (tree c.args.t.now) c.in-App.field-0 c.deref-arg-items.result.now is (c.may_match.ensures c.if-may_match.false)

pub loop-arg-preserved : goal.loop-arg-preserved
loop-arg-preserved t c =
    let is : tree c.args.t.now ≡ app c.in-App.field-0 (forest c.deref-arg-items.result.now) = rw (c.in-App.is, ← c.args-in-App.view_is, c.deref-arg-items.ensures.value) refl in
    none_further (tree c.args.pattern.now) (tree c.args.t.now) c.in-App.field-0 c.deref-arg-items.result.now is c.loop-arg.arg-index c.arg-item.result c.loop-arg-test.true c.arg-item.is c.loop-arg.invariant
    (c.may_hold.ensures c.if-may_hold.false)

pub returns-after-loop-arg : goal.returns-after-loop-arg
returns-after-loop-arg t c = λ _.
    let is : tree c.args.t.now ≡ app c.in-App.field-0 (forest c.deref-arg-items.result.now) = rw (c.in-App.is, ← c.args-in-App.view_is, c.deref-arg-items.ensures.value) refl in
    (nowhere (tree c.args.pattern.now) (tree c.args.t.now) c.in-App.field-0 c.deref-arg-items.result.now is c.loop-arg.arg-index c.loop-arg-test.false c.loop-arg.invariant [] [] refl).none
