use Rattle.std.proofs.Common.{sym, subst}
use Rattle.trs_caps.specs.HoledTree.{HoledTree}
use Rattle.trs_caps.specs.Clash.{AreDisjoint}
use Rattle.trs_defs.specs.System.{RewriteRule}
use Rattle.crit_pairs.specs.Skeletons.{opened, root_symbol}
use Rattle.crit_pairs.specs.SkeletonView.{skeleton_view}
use Rattle.crit_pairs.proofs.SkeletonLaws.{skeleton_read}
use Rattle.crit_pairs.proofs.GrowthLaws.{image_read}
use Rattle.crit_pairs.proofs.prepared.PreparedRules.clashes.Goals as goal

pub returns-then-has_other_root : goal.returns-then-has_other_root
returns-then-has_other_root c = λ _ rules r h there.
    c.has_other_root.ensures c.if-has_other_root.true (opened r.left)
    (sym (image_read (λ (q : RewriteRule). root_symbol (opened q.left)) rules c.args.self.now.roots.items c.args.i r c.index-root.result.now h.roots c.requires.root c.index-root.ensures there))

pub returns : goal.returns
returns c = λ clash rules r h there.
    let D : HoledTree → Type 0 = λ d. AreDisjoint (skeleton_view c.args.skeleton.now) d in
    subst D (skeleton_read c.args.self.now.skeletons.items rules c.args.i c.index-other.result.now r h.skeletons c.requires.inside c.index-other.ensures there) (c.clashes.ensures clash)
