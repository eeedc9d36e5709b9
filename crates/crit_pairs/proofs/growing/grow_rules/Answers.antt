use Rattle.std.proofs.Common.{◌≡◌, ◌<◌, ◌+◌, ◌++◌, ◌∙◌, List, Some, drop, length, slice_get, ap, sym, subst, refl, arith, append_assoc}
use Rattle.std.proofs.lemmas.Option.{slice_get_read}
use Rattle.trs_defs.specs.Tree.{Tree}
use Rattle.trs_defs.specs.System.{RewriteRule}
use Rattle.trs_defs.proofs.ListItems.{item_of_longer}
use Rattle.trs_core.specs.View.{tree}
use Rattle.term_pool.specs.Redexes.{IsNarrow}
use Rattle.term_pool.proofs.Extending.{extends_itself, extends_on}
use Rattle.crit_pairs.specs.Skeletons.{opened}
use Rattle.crit_pairs.specs.Table.{Site, sites_from}
use Rattle.crit_pairs.proofs.GroundRights.{rights_still}
use Rattle.crit_pairs.proofs.SpotWalk.{whole_part, no_place}
use Rattle.crit_pairs.proofs.SkeletonLaws.{skeletons_count, skeleton_read}
use Rattle.crit_pairs.proofs.GrowthLaws.{next_rule, no_rule_left, grown_at}
use Rattle.crit_pairs.proofs.growing.grow_rules.Goals.{After-outer}
use Rattle.crit_pairs.proofs.growing.grow_rules.Goals as goal

inside : (c : After-outer) → c.loop-j.j < length c.args.rules.now
inside c = omega (arith, c.loop-j-test.true, c.requires.end)

-- the outer rule, as it is read
numbered : (c : After-outer) → slice_get c.args.rules.now c.loop-j.j ≡ Some c.index-rules-j.result
numbered c = slice_get_read c.args.rules.now (length c.args.rules.now) c.loop-j.j c.index-rules-j.result refl (inside c) c.index-rules-j.is

outer_left : (c : After-outer) → tree c.outer.inside.left ≡ c.index-rules-j.result.left
outer_left c = ap (λ (r : RewriteRule). r.left) c.outer.view_is

pub bounds-rules-j : goal.bounds-rules-j
bounds-rules-j c = omega (arith, c.loop-j-test.true, c.requires.end)

pub loop-j-init : goal.loop-j-init
loop-j-init c = record {
  grows = λ known more are end left after h. h;
  kept = extends_itself c.args.pool.now;
  inside = c.requires.inside;
}

pub grow_below-requires : goal.grow_below-requires
grow_below-requires c =
    let a = (goal.at.grow_below-requires c).After-outer in
    let rules = c.args.rules.now in
    let count = skeletons_count c.args.prepared.now.skeletons.items rules c.requires.prepared.skeletons in
    let N : Tree → Type 0 = IsNarrow in
    let R : RewriteRule → Type 0 = λ r. IsNarrow r.left in
    record {
      prepared = c.requires.prepared;
      rights = rights_still rules c.args.pool.now c.loop-j.pool c.args.rights.now c.loop-j.invariant.kept c.requires.rights;
      small = c.requires.small;
      outer = whole_part rules c.loop-j.j c.new-place.result.items c.index-rules-j.result (tree c.outer.inside.left) c.new-place.ensures.items (outer_left a) (numbered a);
      skeleton = skeleton_read c.args.prepared.now.skeletons.items rules c.loop-j.j c.index-skeleton.result.now c.index-rules-j.result c.requires.prepared.skeletons (omega (arith, inside a, count)) c.index-skeleton.ensures (numbered a)
          ∙ ap opened (sym (outer_left a));
      narrow = subst N (sym (outer_left a)) (subst R (sym c.index-rules-j.is) (c.requires.narrow c.loop-j.j c.index-rules-j.result (inside a)));
      positive = no_place c.new-place.result.items c.new-place.ensures.items;
      inside = c.loop-j.invariant.inside;
    }

pub loop-j-preserved : goal.loop-j-preserved
loop-j-preserved c =
    let a = (goal.at.loop-j-preserved c).After-outer in
    record {
      grows = λ known more are end left after h.
          let S : List RewriteRule → Type 0 = λ rs. slice_get rs c.loop-j.j ≡ Some c.index-rules-j.result in
          let there = item_of_longer known more c.loop-j.j c.index-rules-j.result (omega (arith, c.loop-j-test.true, end)) (subst S are (numbered a)) in
          let rest : List Site = sites_from (c.loop-j.j + 1) (drop (c.loop-j.j + 1) known) in
          c.in_ok-grow_below.ensures.grows (rest ++ left) after
          (grown_at c.args.rules.now c.args.from c.loop-j.pool c.loop-j.growth _ _ after
          (ap (λ ss. ss ++ left) (next_rule c.loop-j.j known c.index-rules-j.result c.new-place.result.items (tree c.outer.inside.left) c.new-place.ensures.items (outer_left a) there) ∙ append_assoc _ rest left)
          (c.loop-j.invariant.grows known more are end left after h));
      kept = extends_on c.args.pool.now c.loop-j.pool c.grow_below.new.pool c.loop-j.invariant.kept c.in_ok-grow_below.ensures.kept;
      inside = c.in_ok-grow_below.ensures.inside;
    }

pub returns-in_err-grow_below-clause-kept : goal.returns-in_err-grow_below-clause-kept
returns-in_err-grow_below-clause-kept c = extends_on c.args.pool.now c.loop-j.pool c.grow_below.new.pool c.loop-j.invariant.kept c.in_err-grow_below.ensures.kept

pub returns-clause-grows : goal.returns-clause-grows
returns-clause-grows c = λ known more are end left after h.
    grown_at c.args.rules.now c.args.from c.loop-j.pool c.loop-j.growth _ _ after
    (ap (λ ss. ss ++ left) (no_rule_left c.loop-j.j known (omega (arith, c.loop-j-test.false, end)))) (c.loop-j.invariant.grows known more are end left after h)
