use Rattle.std.proofs.Common.{◌≡◌, ◌+◌, ◌∙◌, drop, get_or, ap, sym, subst, arith}
use Rattle.trs_defs.proofs.EqualTerms.{app_root}
use Rattle.trs_core.specs.View.{tree}
use Rattle.poly_lin.specs.Subterms.{AreAt, term_of, value_at_one}
use Rattle.poly_lin.proofs.Saturation.{begun}
use Rattle.poly_lin.proofs.Numbering.{Summed, more_summed, next_number}
use Rattle.poly_lin.proofs.subterms.value_over.Goals as goal

pub loop-i-init : goal.loop-i-init
loop-i-init g c = λ f ts is.
    let by = g.T.Coefficients.coefficient c.args.table.now in
    let same : c.in-App.f ≡ f = app_root (sym (ap tree c.in-App.is) ∙ is) in
    let own = c.at-sum.ensures ∙ c.row-row.ensures 0 in (
      ts,
      subst (λ ns. AreAt (value_at_one by) c.args.values.now ns ts) (sym c.deref-n-items.ensures.value) (c.requires f ts is),
      begun by (λ x. 1) f ts c.at-sum.result (omega arith) (own ∙ ap (λ h. by h 0) same),
    )

pub loop-i-preserved : goal.loop-i-preserved
loop-i-preserved g c =
    let by = g.T.Coefficients.coefficient c.args.table.now in
    let args = c.deref-n-items.result.now in
    more_summed by c.args.values.now (get_or args c.loop-i.i 0) (drop (c.loop-i.i + 1) args) (term_of c.args.node.now) (c.loop-i.i + 1) c.loop-i.sum c.at-factor.result c.value_at.result c.plus_saturated-sum.result
    (λ f ts is. let same : c.in-App.f ≡ f = app_root (sym (ap tree c.in-App.is) ∙ is) in c.at-factor.ensures ∙ c.row-row.ensures (c.loop-i.i + 1) ∙ ap (λ h. by h (c.loop-i.i + 1)) same)
    c.value_at.ensures c.plus_saturated-sum.ensures
    (subst (λ ns. Summed by c.args.values.now ns (term_of c.args.node.now) (c.loop-i.i + 1) c.loop-i.sum) (next_number args c.loop-i.i c.loop-i-test.true) c.loop-i.invariant)
