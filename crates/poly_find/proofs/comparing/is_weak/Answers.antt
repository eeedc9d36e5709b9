use Rattle.std.proofs.Common.{◌≡◌, ◌↔◌, IsTrue, true, false, sym, subst}
use Rattle.trs_defs.specs.System.{RewriteRule}
use Rattle.order_theory.specs.LinearInterpretation.{LinearWeak}
use Rattle.poly_lin.specs.TooBig.{EitherIsBig}
use Rattle.trs_core.specs.View.{tree}
use Rattle.poly_find.specs.SmallTerms.{IsSafe}
use Rattle.poly_find.specs.LinearTest.{linear_weak}
use Rattle.poly_find.proofs.PolyTests.{weak_missing, weak_fitting, weak_unless_big}
use Rattle.poly_find.proofs.comparing.is_weak.Goals as goal

pub returns-then-not-is_weakly_above_if_small : goal.returns-then-not-is_weakly_above_if_small
returns-then-not-is_weakly_above_if_small g c =
    let by = g.T.Coefficients.coefficient c.args.table.now in
    subst (λ (r : RewriteRule). false ≡ linear_weak by r.left r.right) c.rule.view_is
    (weak_missing by (tree c.rule.inside.left.now) (tree c.rule.inside.right.now) c.is_weakly_above_if_small.result c.is_weakly_above_if_small.ensures c.if-not-is_weakly_above_if_small.true)

pub returns-then-small : goal.returns-then-small
returns-then-small g c =
    let by = g.T.Coefficients.coefficient c.args.table.now in
    let fits = subst (λ (r : RewriteRule). IsSafe by c.args.small r) (sym c.rule.view_is) c.requires.safe c.if-small.true in
    subst (λ (r : RewriteRule). true ≡ linear_weak by r.left r.right) c.rule.view_is
    (weak_fitting by (tree c.rule.inside.left.now) (tree c.rule.inside.right.now) c.is_weakly_above_if_small.result c.is_weakly_above_if_small.ensures fits c.if-not-is_weakly_above_if_small.false)

pub returns : goal.returns
returns g c =
    let by = g.T.Coefficients.coefficient c.args.table.now in
    let above = subst (λ (r : RewriteRule). (EitherIsBig by r.left r.right → ⊥) → (IsTrue c.is_weakly_above_if_small.result ↔ LinearWeak by r.left r.right)) c.rule.view_is c.is_weakly_above_if_small.ensures in
    weak_unless_big by c.args.rule.now.left c.args.rule.now.right c.is_weakly_above_if_small.result above c.in_ok-is_big.field-0 c.in_ok-is_big.ensures c.if-not-is_weakly_above_if_small.false
