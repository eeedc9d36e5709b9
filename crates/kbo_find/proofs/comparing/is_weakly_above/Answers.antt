use Rattle.std.proofs.Common.{◌≡◌, false, subst}
use Rattle.trs_defs.specs.System.{RewriteRule}
use Rattle.trs_core.specs.View.{tree}
use Rattle.kbo_find.specs.KnuthTest.{knuth_weak}
use Rattle.kbo_find.proofs.KboTests.{weak_answer, weak_too_big}
use Rattle.kbo_find.proofs.comparing.is_weakly_above.Goals as goal

pub returns-in-Ok : goal.returns-in-Ok
returns-in-Ok g c =
    let weights = g.W.Weighting.weights c.args.order.now in
    let ranks = g.W.Weighting.ranks c.args.order.now in
    subst (λ (r : RewriteRule). c.in-Ok.answer ≡ knuth_weak weights ranks r.left r.right) c.rule.view_is
    (weak_answer weights ranks (tree c.rule.inside.left.now) (tree c.rule.inside.right.now) c.in-Ok.answer c.in-Ok.ensures)

pub returns-in-Err : goal.returns-in-Err
returns-in-Err g c =
    let weights = g.W.Weighting.weights c.args.order.now in
    let ranks = g.W.Weighting.ranks c.args.order.now in
    subst (λ (r : RewriteRule). false ≡ knuth_weak weights ranks r.left r.right) c.rule.view_is
    (weak_too_big weights ranks (tree c.rule.inside.left.now) (tree c.rule.inside.right.now) c.in-Err.ensures)
