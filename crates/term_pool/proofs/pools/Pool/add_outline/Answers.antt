use Rattle.std.proofs.Common.{subst}
use Rattle.trs_defs.specs.System.{RewriteRule}
use Rattle.trs_core.specs.View.{tree}
use Rattle.term_pool.specs.Outlines.{IsOutline}
use Rattle.term_pool.proofs.Extending.{extends_on}
use Rattle.term_pool.proofs.OutlineLaws.{outline_made, outline_added}
use Rattle.term_pool.proofs.pools.Pool.add_outline.Goals as goal

pub returns-clause-outlines : goal.returns-clause-outlines
returns-clause-outlines c = λ rules numbered before.
    let mid = c.outline.new.self in
    let pool = c.outline-2.new.self in
    let made : RewriteRule = record { left = tree c.in_ok-left.left; right = tree c.in_ok-right.right } in
    let P : RewriteRule → Type 0 = λ r. IsOutline pool r made in
    let own = subst P c.rule.view_is (outline_made mid pool c.in_ok-right.ensures.kept (record { left = tree c.rule.inside.left; right = tree c.rule.inside.right }) made
    c.in_ok-left.ensures.outline c.in_ok-right.ensures.outline) in
    outline_added rules c.args.self.now pool c.args.outlines.now _ c.args.k c.args.rule.now made before (extends_on c.args.self.now mid pool c.in_ok-left.ensures.kept c.in_ok-right.ensures.kept)
    c.in_ok-insert.ensures.updates numbered own
