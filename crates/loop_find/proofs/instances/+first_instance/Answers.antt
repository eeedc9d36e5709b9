use Rattle.std.proofs.Common.{◌≡◌, arith, refl, ap}
use Rattle.trs_defs.specs.Tree.{app}
use Rattle.trs_core.specs.View.{tree, forest}
use Rattle.rewrite_core.proofs.RedexWalk.{smaller_argument}
use Rattle.term_pool.proofs.RedexWalk.{popped, narrow_app, narrow_next, positive_below}
use Rattle.loop_find.proofs.Recurrences.{leads_root, nowhere_in_variable, none_yet, leads_below, none_further, nowhere, leads_true, leads_false}
use Rattle.loop_find.proofs.instances.+first_instance.Goals as goal

pub returns-then-branch-clause-leads : goal.returns-then-branch-clause-leads
returns-then-branch-clause-leads t c = leads_root (tree c.args.pattern.now) (tree c.args.t.now) c.args.place.now.items c.args.place.now.items refl (c.in_ok-is_instance.ensures.0 c.if-branch.true)

pub returns-in-Var-clause-leads : goal.returns-in-Var-clause-leads
returns-in-Var-clause-leads t c =
    nowhere_in_variable (tree c.args.pattern.now) (tree c.args.t.now) c.in-Var.field-0 c.args.place.now.items c.args.place.now.items refl (ap tree c.in-Var.is)
    (λ h. let e = c.in_ok-is_instance.ensures.1 h in absurd (cc (e, c.if-branch.false)))

pub loop-i-init : goal.loop-i-init
loop-i-init t c =
    let is : tree c.args.t.now ≡ app c.in-App.field-0 (forest c.deref-arg-items.result.now) = rw (c.in-App.is, ← c.args-in-App.view_is, c.deref-arg-items.ensures.value) refl in
    let n = narrow_app tree c.deref-arg-items.result.now c.in-App.field-0 (tree c.args.t.now) is c.requires.narrow in
    record {
      none = none_yet (tree c.args.pattern.now) (tree c.args.t.now) c.in-App.field-0 c.deref-arg-items.result.now is (λ h. let e = c.in_ok-is_instance.ensures.1 h in absurd (cc (e, c.if-branch.false)));
      narrow = n.1;
      few = n.0;
      same = refl;
    }

pub first_instance-requires : goal.first_instance-requires
first_instance-requires t c =
    let items = c.deref-arg-items.result.now in
    let is : tree c.args.t.now ≡ app c.in-App.field-0 (forest c.deref-arg-items.result.now) = rw (c.in-App.is, ← c.args-in-App.view_is, c.deref-arg-items.ensures.value) refl in
    let pushed = rw c.loop-i.invariant.same at c.in_ok-push-in-App.ensures.items in
    let narrow = narrow_next tree items c.loop-i.i c.arg-item.result c.loop-i-test.true c.arg-item.is c.loop-i.invariant.narrow in
    let positive = positive_below c.args.place.now.items c.push.new.self.items c.loop-i.i pushed c.requires.positive in
    let smaller = smaller_argument items c.loop-i.i c.in-App.field-0 (tree c.args.t.now) c.arg-item.result is c.loop-i-test.true c.arg-item.is in
    (omega (arith, smaller, c.decreases), (narrow.0, positive))

pub overflow_cast-i : goal.overflow_cast-i
overflow_cast-i t c = omega (arith, c.loop-i.invariant.few, c.loop-i-test.true)

pub returns-then-branch-2-clause-leads : goal.returns-then-branch-2-clause-leads
returns-then-branch-2-clause-leads t c =
    let items = c.deref-arg-items.result.now in
    let is : tree c.args.t.now ≡ app c.in-App.field-0 (forest c.deref-arg-items.result.now) = rw (c.in-App.is, ← c.args-in-App.view_is, c.deref-arg-items.ensures.value) refl in
    let pushed = rw c.loop-i.invariant.same at c.in_ok-push-in-App.ensures.items in
    leads_below (tree c.args.pattern.now) (tree c.args.t.now) c.in-App.field-0 items is c.loop-i.i c.arg-item.result c.loop-i-test.true c.arg-item.is c.loop-i.invariant.none
    c.args.place.now.items c.push.new.self.items c.first_instance.new.place.items pushed (leads_true _ _ _ _ _ c.if-branch-2.true c.in_ok-first_instance-in-App.ensures.leads)

pub loop-i-preserved : goal.loop-i-preserved
loop-i-preserved t c =
    let items = c.deref-arg-items.result.now in
    let place = c.args.place.now.items in
    let is : tree c.args.t.now ≡ app c.in-App.field-0 (forest c.deref-arg-items.result.now) = rw (c.in-App.is, ← c.args-in-App.view_is, c.deref-arg-items.ensures.value) refl in
    let pushed = rw c.loop-i.invariant.same at c.in_ok-push-in-App.ensures.items in
    let narrow = narrow_next tree items c.loop-i.i c.arg-item.result c.loop-i-test.true c.arg-item.is c.loop-i.invariant.narrow in
    let absent = leads_false _ _ _ _ _ c.if-branch-2.false c.in_ok-first_instance-in-App.ensures.leads in
    record {
      none = none_further (tree c.args.pattern.now) (tree c.args.t.now) c.in-App.field-0 items is c.loop-i.i c.arg-item.result c.loop-i-test.true c.arg-item.is c.loop-i.invariant.none absent.none;
      narrow = narrow.1;
      few = c.loop-i.invariant.few;
      same = popped place c.push.new.self.items c.first_instance.new.place.items c.pop.new.self.items _ c.first_instance.new.place.len pushed absent.same (omega (arith, c.first_instance.new.place.ok.0)) c.pop.ensures.rest;
    }

pub returns-after-loop-i-clause-leads : goal.returns-after-loop-i-clause-leads
returns-after-loop-i-clause-leads t c =
    let items = c.deref-arg-items.result.now in
    let is : tree c.args.t.now ≡ app c.in-App.field-0 (forest c.deref-arg-items.result.now) = rw (c.in-App.is, ← c.args-in-App.view_is, c.deref-arg-items.ensures.value) refl in
    nowhere (tree c.args.pattern.now) (tree c.args.t.now) c.in-App.field-0 items is c.loop-i.i c.loop-i-test.false c.loop-i.invariant.none c.args.place.now.items c.loop-i.place.items c.loop-i.invariant.same
