use Rattle.std.proofs.Common.{◌≡◌, refl, arith}
use Rattle.trs_defs.specs.Tree.{app}
use Rattle.trs_core.specs.View.{tree, forest}
use Rattle.crit_pairs.proofs.SkeletonLaws.{one_more_skeleton, whole_skeleton}
use Rattle.crit_pairs.proofs.skeleton.Skeleton.+of.Goals as goal

pub loop-arg-preserved : goal.loop-arg-preserved
loop-arg-preserved t c =
    one_more_skeleton c.loop-arg.items.items c.push.new.self.items c.deref-arg-items.result.now c.loop-arg.arg-index c.arg-item.result c.in_ok-of-in-App.field-0
    c.loop-arg-test.true c.arg-item.is c.in_ok-push-in-App.ensures.items c.loop-arg.invariant c.in_ok-of-in-App.ensures

pub returns-after-loop-arg : goal.returns-after-loop-arg
returns-after-loop-arg t c =
    let is : tree c.args.t.now ≡ app c.in-App.f (forest c.deref-arg-items.result.now) = rw (c.in-App.is, ← c.args-in-App.view_is, c.deref-arg-items.ensures.value) refl in
    whole_skeleton (tree c.args.t.now) c.in-App.f c.loop-arg.items.items c.deref-arg-items.result.now c.loop-arg.arg-index is (omega (arith, c.loop-arg-test.false)) c.loop-arg.invariant
