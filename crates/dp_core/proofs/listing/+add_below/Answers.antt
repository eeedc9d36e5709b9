use Rattle.std.proofs.Common.{◌≡◌, arith, refl}
use Rattle.trs_defs.specs.Tree.{app}
use Rattle.trs_core.specs.View.{tree, forest}
use Rattle.rewrite_core.proofs.RedexWalk.{smaller_argument}
use Rattle.term_pool.proofs.RedexWalk.{popped, narrow_app, narrow_next, positive_below}
use Rattle.dp_core.proofs.PairWalk.{next_below, argument_passed, one_part_more, passed_over, from_root}
use Rattle.dp_core.proofs.listing.+add_below.Goals as goal

pub loop-i-init : goal.loop-i-init
loop-i-init t c =
    let is : tree c.args.part.now ≡ app c.in-App.f (forest c.deref-arg-items.result.now) = rw (c.in-App.is, ← c.args-in-App.view_is, c.deref-arg-items.ensures.value) refl in
    let n = narrow_app tree c.deref-arg-items.result.now c.in-App.f (tree c.args.part.now) is c.requires.narrow in
    record {
      pairs = from_root c.args.by_root.now.rules c.args.k c.args.place.now.items c.in-App.f (forest c.deref-arg-items.result.now) (tree c.args.part.now) is
          c.args.pairs.now.items c.add_here.new.pairs.items (rw (c.deref.ensures.value, c.is_defined-defined.ensures) at c.in_ok-add_here-in-App.ensures);
      narrow = n.1;
      few = n.0;
      same = refl;
    }

pub add_below-requires : goal.add_below-requires
add_below-requires t c =
    let items = c.deref-arg-items.result.now in
    let is : tree c.args.part.now ≡ app c.in-App.f (forest c.deref-arg-items.result.now) = rw (c.in-App.is, ← c.args-in-App.view_is, c.deref-arg-items.ensures.value) refl in
    let pushed = rw c.loop-i.invariant.same at c.in_ok-push-in-App.ensures.items in
    let narrow = narrow_next tree items c.loop-i.i c.arg-item.result c.loop-i-test.true c.arg-item.is c.loop-i.invariant.narrow in
    let positive = positive_below c.args.place.now.items c.push.new.self.items c.loop-i.i pushed c.requires.positive in
    let smaller = smaller_argument items c.loop-i.i c.in-App.f (tree c.args.part.now) c.arg-item.result is c.loop-i-test.true c.arg-item.is in
    (omega (arith, smaller, c.decreases), (narrow.0, positive))

pub overflow_cast-i : goal.overflow_cast-i
overflow_cast-i t c = omega (arith, c.loop-i.invariant.few, c.loop-i-test.true)

pub loop-i-preserved : goal.loop-i-preserved
loop-i-preserved t c =
    let items = c.deref-arg-items.result.now in
    let place = c.args.place.now.items in
    let pushed = rw c.loop-i.invariant.same at c.in_ok-push-in-App.ensures.items in
    let narrow = narrow_next tree items c.loop-i.i c.arg-item.result c.loop-i-test.true c.arg-item.is c.loop-i.invariant.narrow in
    record {
      pairs = one_part_more _ c.loop-i.pairs.items c.add_below.new.pairs.items _ _ _ c.loop-i.invariant.pairs
          (next_below c.args.by_root.now.rules c.args.k place c.push.new.self.items items c.loop-i.i c.arg-item.result c.loop-i-test.true c.arg-item.is pushed)
          c.in_ok-add_below-in-App.ensures.pairs;
      narrow = narrow.1;
      few = c.loop-i.invariant.few;
      same = popped place c.push.new.self.items c.add_below.new.place.items c.pop.new.self.items _ c.add_below.new.place.len pushed c.in_ok-add_below-in-App.ensures.place (omega (arith, c.add_below.new.place.ok.0)) c.pop.ensures.rest;
    }

pub loop-i-preserved-then-has_none : goal.loop-i-preserved-then-has_none
loop-i-preserved-then-has_none t c =
    let items = c.deref-arg-items.result.now in
    let narrow = narrow_next tree items c.loop-i.i c.arg-item.result c.loop-i-test.true c.arg-item.is c.loop-i.invariant.narrow in
    record {
      pairs = passed_over _ c.loop-i.pairs.items _ _ c.loop-i.invariant.pairs
          (argument_passed c.args.by_root.now.rules c.args.k c.args.place.now.items items c.loop-i.i c.arg-item.result c.loop-i-test.true c.arg-item.is (c.has_none.ensures c.if-has_none.true));
      narrow = narrow.1;
      few = c.loop-i.invariant.few;
      same = c.loop-i.invariant.same;
    }
