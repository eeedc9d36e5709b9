use Rattle.std.proofs.Common.{map, ap, ◌∙◌}
use Rattle.trs_core.specs.View.{tree}
use Rattle.poly_lin.specs.Subterms.{terms, value_at_one}
use Rattle.poly_lin.proofs.Numbering.{value_there}
use Rattle.poly_lin.proofs.subterms.Subterms.values_at_one.Goals as goal

pub returns-clause-left : goal.returns-clause-left
returns-clause-left g c =
    let by = g.T.Coefficients.coefficient c.args.table.now in
    let values_are = c.in_ok-values.ensures ∙ ap (λ ms. map (value_at_one by) (terms ms)) c.deref.ensures.value in
    c.value_at.ensures (value_at_one by (tree c.args.self.now.left.now))
    (value_there by c.args.self.now.nodes.items c.deref-2.result.now c.args.self.now.left_number (tree c.args.self.now.left.now) (c.deref-2.ensures.value ∙ values_are) c.args.self.now.left_is)

pub returns-clause-right : goal.returns-clause-right
returns-clause-right g c =
    let by = g.T.Coefficients.coefficient c.args.table.now in
    let values_are = c.in_ok-values.ensures ∙ ap (λ ms. map (value_at_one by) (terms ms)) c.deref.ensures.value in
    c.value_at-2.ensures (value_at_one by (tree c.args.self.now.right.now))
    (value_there by c.args.self.now.nodes.items c.deref-3.result.now c.args.self.now.right_number (tree c.args.self.now.right.now) (c.deref-3.ensures.value ∙ values_are) c.args.self.now.right_is)
