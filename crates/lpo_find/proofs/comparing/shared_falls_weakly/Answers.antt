use Rattle.std.proofs.Common.{◌≡◌, sym, subst}
use Rattle.trs_defs.specs.System.{RewriteRule}
use Rattle.trs_core.specs.View.{tree}
use Rattle.lpo_find.specs.LpoSpace.{path_weak}
use Rattle.lpo_find.specs.KeptSides.{AreSides}
use Rattle.lpo_find.proofs.PathTests.{weak_answer}
use Rattle.lpo_find.proofs.comparing.shared_falls_weakly.Goals as goal

pub is_weak_shared-requires : goal.is_weak_shared-requires
is_weak_shared-requires g c =
    subst (λ (r : RewriteRule). AreSides (g.P.Precedence.filters c.args.order.now) r c.args.shared.now) (sym c.rule.view_is) c.requires

pub returns : goal.returns
returns g c =
    let ranks = g.P.Precedence.ranks c.args.order.now in
    let filters = g.P.Precedence.filters c.args.order.now in
    subst (λ (r : RewriteRule). c.is_weak_shared.result ≡ path_weak ranks filters r.left r.right) c.rule.view_is
    (weak_answer ranks filters (tree c.rule.inside.left.now) (tree c.rule.inside.right.now) c.is_weak_shared.result c.is_weak_shared.ensures)
