use Rattle.std.proofs.Common.{◌≡◌, subst}
use Rattle.trs_defs.specs.System.{RewriteRule}
use Rattle.trs_core.specs.View.{tree}
use Rattle.lpo_find.specs.LpoSpace.{path_strict}
use Rattle.lpo_find.proofs.PathTests.{strict_answer}
use Rattle.lpo_find.proofs.comparing.falls_strictly.Goals as goal

pub returns : goal.returns
returns g c =
    let ranks = g.P.Precedence.ranks c.args.order.now in
    let filters = g.P.Precedence.filters c.args.order.now in
    subst (λ (r : RewriteRule). c.is_strict.result ≡ path_strict ranks filters r.left r.right) c.rule.view_is
    (strict_answer ranks filters (tree c.rule.inside.left.now) (tree c.rule.inside.right.now) c.is_strict.result c.is_strict.ensures)
