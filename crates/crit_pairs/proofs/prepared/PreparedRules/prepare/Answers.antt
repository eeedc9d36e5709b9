use Rattle.std.proofs.Common.{◌≡◌, List, [], ◌∷◌, map, ap, length, length-append, subst, sym, arith, ◌∙◌}
use Rattle.std.proofs.lemmas.List.{take_all, map-append}
use Rattle.trs_defs.specs.System.{RewriteRule}
use Rattle.trs_core.specs.View.{tree}
use Rattle.trs_unify.specs.Room.{HasRoom}
use Rattle.crit_pairs.specs.Apart.{renamed_apart, AreApartLefts, HaveSkeletons, HaveRoots}
use Rattle.crit_pairs.specs.Skeletons.{opened, root_symbol}
use Rattle.crit_pairs.proofs.EqualRules.{equal_of_more}
use Rattle.crit_pairs.proofs.SpotWalk.{left_small, small_room}
use Rattle.crit_pairs.proofs.GrowthLaws.{first_taken, one_image_more, one_skeleton_more}
use Rattle.crit_pairs.proofs.prepared.PreparedRules.prepare.Goals as goal

pub add-requires-clause-equal : goal.add-requires-clause-equal
add-requires-clause-equal c =
    let h = c.requires.first in
    equal_of_more c.args.rules.now h.first h.more c.args.self.equal.firsts.items h.are h.prepared_first.numbered h.prepared_first.equal

pub add-requires-clause-within : goal.add-requires-clause-within
add-requires-clause-within c =
    let h = c.requires.first in
    omega (arith, h.prepared_first.numbered, ap length h.are, length-append h.first h.more)

pub rename_apart-requires : goal.rename_apart-requires
rename_apart-requires c =
    let left_is : tree c.rule.inside.left ≡ c.index-rules-k.result.left = ap (λ (r : RewriteRule). r.left) c.rule.view_is in
    subst (HasRoom 65536) (sym left_is) (small_room c.index-rules-k.result.left (left_small c.args.rules.now c.loop-k.k c.index-rules-k.result c.requires.small c.loop-k-test.true c.index-rules-k.is))

pub loop-k-init : goal.loop-k-init
loop-k-init c =
    let h = c.requires.first in
    let taken = first_taken c.args.rules.now h.first h.more c.args.self c.len-known.result h.are h.prepared_first (omega (arith, c.len-known.ensures, c.args.self.apart_lefts.ok.0)) in
    let A : List RewriteRule → Type 0 = λ rs. AreApartLefts rs (map tree c.args.self.apart_lefts.items) in
    let S : List RewriteRule → Type 0 = λ rs. HaveSkeletons rs c.args.self.skeletons.items in
    let R : List RewriteRule → Type 0 = λ rs. HaveRoots rs c.args.self.roots.items in
    record {
      apart_lefts = subst A (sym taken) h.prepared_first.apart_lefts;
      skeletons = subst S (sym taken) h.prepared_first.skeletons;
      roots = subst R (sym taken) h.prepared_first.roots;
    }

pub loop-k-preserved : goal.loop-k-preserved
loop-k-preserved c =
    let left = c.in_ok-rename_apart.field-0 in
    let made = c.in_ok-skeleton.ensures ∙ ap (λ (r : RewriteRule). opened r.left) c.rule.view_is in
    record {
      apart_lefts = one_image_more (λ (r : RewriteRule). (renamed_apart r).left) c.args.rules.now c.loop-k.k c.index-rules-k.result (map tree c.loop-k.apart_lefts.items) _ (tree left) c.loop-k-test.true c.index-rules-k.is
          (c.in_ok-rename_apart.ensures ∙ ap (λ (r : RewriteRule). (renamed_apart r).left) c.rule.view_is)
          (ap (map tree) c.in_ok-push.ensures.items ∙ map-append tree c.loop-k.apart_lefts.items (left ∷ [])) c.loop-k.invariant.apart_lefts;
      skeletons = one_skeleton_more c.args.rules.now c.loop-k.k c.index-rules-k.result c.loop-k.skeletons.items _ _ c.loop-k-test.true c.index-rules-k.is made c.in_ok-push-2.ensures.items c.loop-k.invariant.skeletons;
      roots = one_image_more (λ (r : RewriteRule). root_symbol (opened r.left)) c.args.rules.now c.loop-k.k c.index-rules-k.result c.loop-k.roots.items _ _ c.loop-k-test.true c.index-rules-k.is (c.root-root.ensures ∙ ap root_symbol made) c.in_ok-push-3.ensures.items c.loop-k.invariant.roots;
    }

pub returns : goal.returns
returns c =
    let A : List RewriteRule → Type 0 = λ rs. AreApartLefts rs (map tree c.loop-k.apart_lefts.items) in
    let S : List RewriteRule → Type 0 = λ rs. HaveSkeletons rs c.loop-k.skeletons.items in
    let all = take_all c.loop-k.k c.args.rules.now c.loop-k-test.false in
    let R : List RewriteRule → Type 0 = λ rs. HaveRoots rs c.loop-k.roots.items in
    record {
      apart_lefts = subst A all c.loop-k.invariant.apart_lefts;
      skeletons = subst S all c.loop-k.invariant.skeletons;
      roots = subst R all c.loop-k.invariant.roots;
      numbered = c.in_ok-add.ensures.numbered;
      equal = c.in_ok-add.ensures.equal;
    }
