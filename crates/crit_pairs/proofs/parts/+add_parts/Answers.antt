use Rattle.std.proofs.Common.{◌≡◌, ◌∙◌, Some, ap, arith, refl}
use Rattle.trs_defs.specs.Position.{subterm_at}
use Rattle.trs_defs.specs.Tree.{Tree, app}
use Rattle.trs_core.specs.View.{tree, forest}
use Rattle.rewrite_core.proofs.RedexWalk.{smaller_argument}
use Rattle.term_pool.proofs.RedexWalk.{popped, narrow_app, narrow_next, positive_below}
use Rattle.crit_pairs.specs.Skeletons.{opened, all_opened}
use Rattle.crit_pairs.specs.SkeletonView.{skeleton_views}
use Rattle.crit_pairs.specs.Parts.{has_rule_at}
use Rattle.crit_pairs.proofs.PartLaws.{itself_first, one_argument_on}
use Rattle.crit_pairs.proofs.SkeletonLaws.{skeleton_count, skeleton_at}
use Rattle.crit_pairs.proofs.SpotWalk.{argument_there}
use Rattle.crit_pairs.proofs.parts.+add_parts.Goals.{After-deref-arg-items}
use Rattle.crit_pairs.proofs.parts.+add_parts.Goals as goal

-- the term is the symbol over the arguments
is_symbol : (t : _) (c : After-deref-arg-items t) → tree c.args.t.now ≡ app c.in-App.f (forest c.deref-arg-items.result.now)
is_symbol t c = rw (c.in-App.is, ← c.args-in-App.view_is, c.deref-arg-items.ensures.value) refl

-- the skeletons of the arguments
below_here : (t : _) (c : After-deref-arg-items t) → skeleton_views c.parts-below.result.now ≡ all_opened (forest c.deref-arg-items.result.now)
below_here t c = c.parts-below.ensures c.in-App.f (forest c.deref-arg-items.result.now) (c.requires.skeleton ∙ ap opened (is_symbol t c))

pub loop-i-init : goal.loop-i-init
loop-i-init t c =
    let is = is_symbol t (goal.at.loop-i-init t c).After-deref-arg-items in
    let n = narrow_app tree c.deref-arg-items.result.now c.in-App.f (tree c.args.t.now) is c.requires.narrow in
    record {
      places = λ whole there.
          itself_first (has_rule_at c.args.rules.now.rules whole) c.args.place.now.items c.in-App.f (forest c.deref-arg-items.result.now) (tree c.args.t.now) _ _ is
          ((rw c.deref.ensures.value at c.in_ok-add_part-in-App.ensures.places) whole there);
      each = λ whole there. c.in_ok-add_part-in-App.ensures.each whole (rw c.deref.ensures.value there);
      narrow = n.1;
      few = n.0;
      same = refl;
    }

pub bounds-below-i : goal.bounds-below-i
bounds-below-i t c = omega (arith, c.loop-i-test.true, skeleton_count c.parts-below.result.now c.deref-arg-items.result.now (below_here t (goal.at.bounds-below-i t c).After-deref-arg-items))

pub add_parts-requires : goal.add_parts-requires
add_parts-requires t c =
    let items = c.deref-arg-items.result.now in
    let is = is_symbol t (goal.at.add_parts-requires t c).After-deref-arg-items in
    let pushed = rw c.loop-i.invariant.same at c.in_ok-push-in-App.ensures.items in
    let narrow = narrow_next tree items c.loop-i.i c.arg-item.result c.loop-i-test.true c.arg-item.is c.loop-i.invariant.narrow in
    let positive = positive_below c.args.place.now.items c.push.new.self.items c.loop-i.i pushed c.requires.positive in
    let smaller = smaller_argument items c.loop-i.i c.in-App.f (tree c.args.t.now) c.arg-item.result is c.loop-i-test.true c.arg-item.is in
    let skeleton = skeleton_at c.parts-below.result.now items c.loop-i.i c.index-below-i.result c.arg-item.result (below_here t (goal.at.add_parts-requires t c).After-deref-arg-items) c.loop-i-test.true c.index-below-i.is c.arg-item.is in
    (omega (arith, smaller, c.decreases), (skeleton, (narrow.0, positive)))

pub loop-i-preserved : goal.loop-i-preserved
loop-i-preserved t c =
    let items = c.deref-arg-items.result.now in
    let place = c.args.place.now.items in
    let is = is_symbol t (goal.at.loop-i-preserved t c).After-deref-arg-items in
    let pushed = rw c.loop-i.invariant.same at c.in_ok-push-in-App.ensures.items in
    let narrow = narrow_next tree items c.loop-i.i c.arg-item.result c.loop-i-test.true c.arg-item.is c.loop-i.invariant.narrow in
    let below : (whole : Tree) → subterm_at place whole ≡ Some (tree c.args.t.now) → subterm_at c.push.new.self.items whole ≡ Some (tree c.arg-item.result) =
    λ whole there. argument_there place c.push.new.self.items whole (tree c.args.t.now) c.in-App.f items c.loop-i.i c.arg-item.result is c.loop-i-test.true c.arg-item.is pushed there
    in
    record {
      places = λ whole there.
          one_argument_on (has_rule_at c.args.rules.now.rules whole) place c.push.new.self.items items c.loop-i.i c.arg-item.result _ _ _ c.loop-i-test.true c.arg-item.is pushed
          (c.in_ok-add_parts-in-App.ensures.places whole (below whole there)) (c.loop-i.invariant.places whole there);
      each = λ whole there h. c.in_ok-add_parts-in-App.ensures.each whole (below whole there) (c.loop-i.invariant.each whole there h);
      narrow = narrow.1;
      few = c.loop-i.invariant.few;
      same = popped place c.push.new.self.items c.add_parts.new.place.items c.pop.new.self.items _ c.add_parts.new.place.len pushed c.in_ok-add_parts-in-App.ensures.place (omega (arith, c.add_parts.new.place.ok.0)) c.pop.ensures.rest;
    }
