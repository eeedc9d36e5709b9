use Rattle.std.proofs.Common.{◌≡◌, subst}
use Rattle.std.specs.Prelude.{IfSome}
use Rattle.trs_defs.specs.System.{RewriteRule}
use Rattle.trs_core.specs.View.{tree}
use Rattle.lpo_find.specs.LpoSpace.{path_weak}
use Rattle.lpo_find.specs.KeptSides.{AreSides}
use Rattle.lpo_find.proofs.PathTests.{weak_answer}
use Rattle.lpo_find.proofs.comparing.falls_weakly_sharing.Goals as goal

pub returns-clause-falls : goal.returns-clause-falls
returns-clause-falls g c =
    let ranks = g.P.Precedence.ranks c.args.order.now in
    let filters = g.P.Precedence.filters c.args.order.now in
    subst (λ (r : RewriteRule). c.is_weak_sharing.result.0 ≡ path_weak ranks filters r.left r.right) c.rule.view_is
    (weak_answer ranks filters (tree c.rule.inside.left.now) (tree c.rule.inside.right.now) c.is_weak_sharing.result.0 c.is_weak_sharing.ensures.weak)

pub returns-clause-shared : goal.returns-clause-shared
returns-clause-shared g c =
    let filters = g.P.Precedence.filters c.args.order.now in
    subst (λ (r : RewriteRule). IfSome c.is_weak_sharing.result.1 (AreSides filters r)) c.rule.view_is c.is_weak_sharing.ensures.shared
