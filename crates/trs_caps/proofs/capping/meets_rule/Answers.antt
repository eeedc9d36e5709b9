use Rattle.std.proofs.Common.{◌↔◌, IsTrue, IfOk, subst}
use Rattle.trs_defs.specs.System.{RewriteRule}
use Rattle.trs_caps.specs.HoledCap.{MeetsLeft}
use Rattle.trs_caps.specs.View.{holed}
use Rattle.trs_caps.proofs.capping.meets_rule.Goals as goal

pub returns-then-excludes : goal.returns-then-excludes
returns-then-excludes c =
    let size = c.ground_size_at.result in
    let k = c.args.k in
    let rule = c.args.rule.now in (
      λ e. absurd cc,
      λ m. absurd (c.excludes.ensures c.if-excludes.true (holed c.args.cap.now) rule.left c.requires.shape (λ some. c.requires.sizes.ground k size rule (c.ground_size_at.ensures some) c.requires.rule some)
          (λ some. c.requires.sizes.size k size rule (c.ground_size_at.ensures some) c.requires.rule some) m),
    )

pub returns : goal.returns
returns c =
    let P : RewriteRule → Type 0 = λ r. IfOk c.meets.result (λ yes. IsTrue yes ↔ MeetsLeft (holed c.args.cap.now) r.left) in
    subst P c.rule.view_is c.meets.ensures
