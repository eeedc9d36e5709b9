use Rattle.std.proofs.Common.{◌≡◌, ap, arith, refl}
use Rattle.trs_defs.specs.Tree.{app}
use Rattle.trs_core.specs.View.{tree, forest}
use Rattle.term_pool.proofs.ArgumentIds.{next_smaller}
use Rattle.trs_caps.specs.HoledCap.{no_holed}
use Rattle.trs_caps.specs.View.{holed, holed_all}
use Rattle.trs_caps.proofs.CapSteps.{next_cap, whole_cap, variable_is, first_shape, next_shape, whole_shape}
use Rattle.trs_caps.proofs.KnownSteps.{argument_there, ids_within}
use Rattle.trs_caps.proofs.capping.+cap_of.Goals as goal

pub loop-i-init : goal.loop-i-init
loop-i-init t c = record {
  caps = rw c.in_ok-items-in-App.ensures.items no_holed;
  known = c.requires.known;
  shape = first_shape _ _ c.in_ok-items-in-App.ensures.items c.symbol-whole.ensures.nodes c.symbol-whole.ensures.holes;
}

pub argument-part-requires : goal.argument-part-requires
argument-part-requires t c = ids_within c.args.pool.now c.args.id (tree c.args.t.now) c.requires.id

pub cap_of-requires : goal.cap_of-requires
cap_of-requires t c =
    let is : tree c.args.t.now ≡ app c.in-App.f (forest c.deref-arg-items.result.now) = rw (c.in-App.is, ← c.args-in-App.view_is, c.deref-arg-items.ensures.value) refl in
    let smaller = next_smaller tree c.deref-arg-items.result.now c.loop-i.i c.arg-item.result c.loop-i-test.true c.arg-item.is (tree c.args.t.now) c.in-App.f is in
    let there = argument_there (tree c.args.t.now) c.in-App.f c.deref-arg-items.result.now c.loop-i.i c.arg-item.result is c.loop-i-test.true c.arg-item.is in
    let id = c.argument-part.ensures (tree c.args.t.now) (tree c.arg-item.result) c.requires.id there in
    (omega (arith, smaller, c.decreases), (c.requires.sizes, (id, c.loop-i.invariant.known)))

pub loop-i-preserved : goal.loop-i-preserved
loop-i-preserved t c = record {
  caps = next_cap c.args.by_root.now.rules c.args.fixed c.deref-arg-items.result.now c.loop-i.items.items c.push.new.self.items c.loop-i.i c.arg-item.result c.in_ok-item-in-App.item
      c.loop-i-test.true c.arg-item.is c.in_ok-push-in-App.ensures.items c.loop-i.invariant.caps c.in_ok-item-in-App.ensures.cap;
  known = c.in_ok-item-in-App.ensures.known;
  shape = next_shape c.loop-i.items.items c.push.new.self.items c.in_ok-item-in-App.item c.loop-i.whole _ c.in_ok-push-in-App.ensures.items c.loop-i.invariant.shape c.in_ok-item-in-App.ensures.shape;
}

pub returns-in-Var-clause-cap : goal.returns-in-Var-clause-cap
returns-in-Var-clause-cap t c =
    variable_is c.args.by_root.now.rules c.args.fixed (tree c.args.t.now) c.in-Var.v (holed c.variable_cap.result) (ap tree c.in-Var.is) c.variable_cap.ensures.fixed c.variable_cap.ensures.free

pub close-requires-clause-shape : goal.close-requires-clause-shape
close-requires-clause-shape t c = whole_shape c.in-App.f (holed_all c.loop-i.items.items) c.loop-i.whole c.loop-i.invariant.shape

pub returns-after-loop-i-clause-cap : goal.returns-after-loop-i-clause-cap
returns-after-loop-i-clause-cap t c =
    let args = c.deref-arg-items.result.now in
    let is : tree c.args.t.now ≡ app c.in-App.f (forest args) = rw (c.in-App.is, ← c.args-in-App.view_is, c.deref-arg-items.ensures.value) refl in
    let whole = whole_cap c.args.by_root.now.rules c.args.fixed (tree c.args.t.now) c.in-App.f args c.loop-i.items.items c.loop-i.i is (omega arith) c.loop-i.invariant.caps in
    c.close.ensures.cap c.args.fixed c.args.pool.now (tree c.args.t.now) c.loop-i.invariant.known c.requires.id whole

pub returns-after-loop-i-clause-known : goal.returns-after-loop-i-clause-known
returns-after-loop-i-clause-known t c =
    let args = c.deref-arg-items.result.now in
    let is : tree c.args.t.now ≡ app c.in-App.f (forest args) = rw (c.in-App.is, ← c.args-in-App.view_is, c.deref-arg-items.ensures.value) refl in
    let whole = whole_cap c.args.by_root.now.rules c.args.fixed (tree c.args.t.now) c.in-App.f args c.loop-i.items.items c.loop-i.i is (omega arith) c.loop-i.invariant.caps in
    c.close.ensures.known c.args.fixed c.args.pool.now (tree c.args.t.now) c.loop-i.invariant.known c.requires.id whole
