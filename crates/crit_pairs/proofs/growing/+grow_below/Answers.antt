use Rattle.std.proofs.Common.{◌≡◌, ◌+◌, ◌++◌, ◌∙◌, List, ap, arith, drop, refl, append_assoc}
use Rattle.trs_defs.specs.Tree.{app}
use Rattle.trs_core.specs.View.{tree, forest}
use Rattle.rewrite_core.proofs.RedexWalk.{smaller_argument}
use Rattle.term_pool.proofs.RedexWalk.{popped, narrow_app, narrow_next, positive_below}
use Rattle.term_pool.proofs.Extending.{extends_on}
use Rattle.crit_pairs.proofs.GroundRights.{rights_still}
use Rattle.crit_pairs.proofs.SpotWalk.{part_below}
use Rattle.crit_pairs.specs.Skeletons.{opened, all_opened}
use Rattle.crit_pairs.specs.SkeletonView.{skeleton_views}
use Rattle.crit_pairs.specs.Table.{Site}
use Rattle.crit_pairs.proofs.SkeletonLaws.{skeleton_count, skeleton_at}
use Rattle.crit_pairs.proofs.GrowthLaws.{root_site, next_site, no_site_left, sites_under, grown_at}
use Rattle.crit_pairs.proofs.growing.+grow_below.Goals.{After-deref-arg-items}
use Rattle.crit_pairs.proofs.growing.+grow_below.Goals as goal

-- the part is the symbol over the arguments
is_symbol : (t : _) (c : After-deref-arg-items t) → tree c.args.part.now ≡ app c.in-App._f (forest c.deref-arg-items.result.now)
is_symbol t c = rw (c.in-App.is, ← c.args-in-App.view_is, c.deref-arg-items.ensures.value) refl

-- the skeletons of the arguments
parts_here : (t : _) (c : After-deref-arg-items t) → skeleton_views c.parts-parts.result.now ≡ all_opened (forest c.deref-arg-items.result.now)
parts_here t c = c.parts-parts.ensures c.in-App._f (forest c.deref-arg-items.result.now) (c.requires.skeleton ∙ ap opened (is_symbol t c))

pub loop-i-init : goal.loop-i-init
loop-i-init t c =
    let is = is_symbol t (goal.at.loop-i-init t c).After-deref-arg-items in
    let ts = forest c.deref-arg-items.result.now in
    let n = narrow_app tree c.deref-arg-items.result.now c.in-App._f (tree c.args.part.now) is c.requires.narrow in
    let grows = rw c.deref.ensures.value at c.in_ok-grow_at-in-App.ensures.grows in
    record {
      grows = λ left after h.
          grows (sites_under c.args.j c.args.place.now.items 1 ts ++ left) after
          (grown_at c.args.rules.now c.args.from c.args.pool.now c.args.growth.now _ _ after (ap (λ ss. ss ++ left) (root_site c.args.j c.args.place.now.items c.in-App._f ts (tree c.args.part.now) is)) h);
      narrow = n.1;
      few = n.0;
      same = refl;
      kept = c.in_ok-grow_at-in-App.ensures.kept;
      inside = c.in_ok-grow_at-in-App.ensures.inside;
    }

pub grow_below-requires : goal.grow_below-requires
grow_below-requires t c =
    let items = c.deref-arg-items.result.now in
    let is = is_symbol t (goal.at.grow_below-requires t c).After-deref-arg-items in
    let pushed = rw c.loop-i.invariant.same at c.in_ok-push-in-App.ensures.items in
    let narrow = narrow_next tree items c.loop-i.i c.arg-item.result c.loop-i-test.true c.arg-item.is c.loop-i.invariant.narrow in
    let positive = positive_below c.args.place.now.items c.push.new.self.items c.loop-i.i pushed c.requires.positive in
    let smaller = smaller_argument items c.loop-i.i c.in-App._f (tree c.args.part.now) c.arg-item.result is c.loop-i-test.true c.arg-item.is in
    let part = part_below c.args.rules.now c.args.j c.args.place.now.items c.push.new.self.items (tree c.args.part.now) c.in-App._f items c.loop-i.i c.arg-item.result is c.loop-i-test.true c.arg-item.is pushed c.requires.outer in
    let skeleton = skeleton_at c.parts-parts.result.now items c.loop-i.i c.index-parts-i.result c.arg-item.result (parts_here t (goal.at.grow_below-requires t c).After-deref-arg-items) c.loop-i-test.true c.index-parts-i.is c.arg-item.is in
    (omega (arith, smaller, c.decreases), (c.requires.prepared, (rights_still c.args.rules.now c.args.pool.now c.loop-i.pool c.args.rights.now c.loop-i.invariant.kept c.requires.rights, (c.requires.small, (part, (skeleton, (narrow.0, (positive, c.loop-i.invariant.inside))))))))

pub bounds-parts-i : goal.bounds-parts-i
bounds-parts-i t c = omega (arith, c.loop-i-test.true, skeleton_count c.parts-parts.result.now c.deref-arg-items.result.now (parts_here t (goal.at.bounds-parts-i t c).After-deref-arg-items))

pub overflow_cast-i : goal.overflow_cast-i
overflow_cast-i t c = omega (arith, c.loop-i.invariant.few, c.loop-i-test.true)

pub loop-i-preserved : goal.loop-i-preserved
loop-i-preserved t c =
    let items = c.deref-arg-items.result.now in
    let place = c.args.place.now.items in
    let pushed = rw c.loop-i.invariant.same at c.in_ok-push-in-App.ensures.items in
    let narrow = narrow_next tree items c.loop-i.i c.arg-item.result c.loop-i-test.true c.arg-item.is c.loop-i.invariant.narrow in
    record {
      grows = λ left after h.
          let rest : List Site = sites_under c.args.j place (c.loop-i.i + 1 + 1) (forest (drop (c.loop-i.i + 1) items)) in
          c.in_ok-grow_below-in-App.ensures.grows (rest ++ left) after
          (grown_at c.args.rules.now c.args.from c.loop-i.pool c.loop-i.growth _ _ after
          (ap (λ ss. ss ++ left) (next_site c.args.j place c.push.new.self.items items c.loop-i.i c.arg-item.result c.loop-i-test.true c.arg-item.is pushed) ∙ append_assoc _ rest left)
          (c.loop-i.invariant.grows left after h));
      narrow = narrow.1;
      few = c.loop-i.invariant.few;
      same = popped place c.push.new.self.items c.grow_below.new.place.items c.pop.new.self.items _ c.grow_below.new.place.len pushed c.in_ok-grow_below-in-App.ensures.place (omega (arith, c.grow_below.new.place.ok.0)) c.pop.ensures.rest;
      kept = extends_on c.args.pool.now c.loop-i.pool c.grow_below.new.pool c.loop-i.invariant.kept c.in_ok-grow_below-in-App.ensures.kept;
      inside = c.in_ok-grow_below-in-App.ensures.inside;
    }

pub returns-in_err-grow_below-in-App-clause-kept : goal.returns-in_err-grow_below-in-App-clause-kept
returns-in_err-grow_below-in-App-clause-kept t c = extends_on c.args.pool.now c.loop-i.pool c.grow_below.new.pool c.loop-i.invariant.kept c.in_err-grow_below-in-App.ensures.kept

pub returns-after-loop-i-clause-grows : goal.returns-after-loop-i-clause-grows
returns-after-loop-i-clause-grows t c = λ left after h.
    grown_at c.args.rules.now c.args.from c.loop-i.pool c.loop-i.growth _ _ after
    (ap (λ ss. ss ++ left) (no_site_left c.args.j c.args.place.now.items c.deref-arg-items.result.now c.loop-i.i c.loop-i-test.false)) (c.loop-i.invariant.grows left after h)
