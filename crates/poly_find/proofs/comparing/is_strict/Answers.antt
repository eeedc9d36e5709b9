use Rattle.std.proofs.Common.{◌≡◌, true, false, not, sym, subst, ◌∙◌}
use Rattle.trs_defs.specs.System.{RewriteRule}
use Rattle.trs_core.specs.View.{tree}
use Rattle.poly_find.specs.SmallTerms.{IsSafe}
use Rattle.poly_find.specs.LinearTest.{linear_strict}
use Rattle.poly_find.proofs.PolyTests.{strict_missing, strict_fitting, strict_unless_big}
use Rattle.poly_find.proofs.comparing.is_strict.Goals as goal

pub returns-then-not-is_strictly_above_if_small : goal.returns-then-not-is_strictly_above_if_small
returns-then-not-is_strictly_above_if_small g c =
    let by = g.T.Coefficients.coefficient c.args.table.now in
    subst (λ (r : RewriteRule). false ≡ linear_strict by r.left r.right) c.rule.view_is
    (strict_missing by (tree c.rule.inside.left.now) (tree c.rule.inside.right.now) c.is_strictly_above_if_small.result c.is_strictly_above_if_small.ensures c.if-not-is_strictly_above_if_small.true)

pub returns-then-small : goal.returns-then-small
returns-then-small g c =
    let by = g.T.Coefficients.coefficient c.args.table.now in
    let fits = subst (λ (r : RewriteRule). IsSafe by c.args.small r) (sym c.rule.view_is) c.requires c.if-small.true in
    c.if-small.true
    ∙ subst (λ (r : RewriteRule). true ≡ linear_strict by r.left r.right) c.rule.view_is
    (strict_fitting by (tree c.rule.inside.left.now) (tree c.rule.inside.right.now) c.is_strictly_above_if_small.result c.is_strictly_above_if_small.ensures fits c.if-not-is_strictly_above_if_small.false)

pub returns-else-small : goal.returns-else-small
returns-else-small g c =
    let by = g.T.Coefficients.coefficient c.args.table.now in
    subst (λ (r : RewriteRule). not c.either_is_big.result ≡ linear_strict by r.left r.right) c.rule.view_is
    (strict_unless_big by (tree c.rule.inside.left.now) (tree c.rule.inside.right.now) c.is_strictly_above_if_small.result c.is_strictly_above_if_small.ensures c.either_is_big.result c.either_is_big.ensures c.if-not-is_strictly_above_if_small.false)
