use Rattle.std.proofs.Common.{◌≡◌, ◌+◌, ◌∙◌, ap, sym, subst, drop, arith}
use Rattle.std.proofs.lemmas.List.{drop_all}
use Rattle.trs_defs.specs.Tree.{cons}
use Rattle.trs_defs.proofs.ArgumentLists.{cell}
use Rattle.trs_defs.proofs.EqualTerms.{app_root}
use Rattle.trs_core.specs.View.{tree, forest}
use Rattle.pair_order.proofs.Opening.{application}
use Rattle.poly_lin.proofs.Saturation.{Partly, begun, passed, added, ended}
use Rattle.poly_lin.proofs.values.+saturated_value.Goals.{After-arg-item}
use Rattle.poly_lin.proofs.values.+saturated_value.Goals as goal

left : (g : _) (t : _) (c : After-arg-item g t)
    → Partly (g.T.Coefficients.coefficient c.args.table.now) (λ x. c.args.each) c.in-App.f (forest c.deref-arg-items.result.now)
    (cons (tree c.arg-item.result) (forest (drop (c.loop-i.i + 1) c.deref-arg-items.result.now))) (c.loop-i.i + 1) c.loop-i.sum
left g t c =
    subst (λ us. Partly (g.T.Coefficients.coefficient c.args.table.now) (λ x. c.args.each) c.in-App.f (forest c.deref-arg-items.result.now) (forest us) (c.loop-i.i + 1) c.loop-i.sum)
    (cell c.deref-arg-items.result.now c.loop-i.i c.arg-item.result c.loop-i-test.true c.arg-item.is)
    (c.loop-i.invariant c.in-App.f (application c.in-App.f (tree c.args.t.now) _ _ _ (ap tree c.in-App.is) c.args-in-App.view_is c.deref-arg-items.ensures.value))

pub loop-i-init : goal.loop-i-init
loop-i-init g t c = λ f is.
    let same : c.in-App.f ≡ f = app_root (sym (application c.in-App.f (tree c.args.t.now) _ _ _ (ap tree c.in-App.is) c.args-in-App.view_is c.deref-arg-items.ensures.value) ∙ is) in
    subst (λ root. Partly (g.T.Coefficients.coefficient c.args.table.now) (λ x. c.args.each) root (forest c.deref-arg-items.result.now) (forest c.deref-arg-items.result.now) 1 c.at-sum.result) same
    (begun (g.T.Coefficients.coefficient c.args.table.now) (λ x. c.args.each) c.in-App.f (forest c.deref-arg-items.result.now) c.at-sum.result (omega arith)
    (c.at-sum.ensures ∙ c.row-row.ensures 0))

pub loop-i-preserved-then-factor-eq0 : goal.loop-i-preserved-then-factor-eq0
loop-i-preserved-then-factor-eq0 g t c = λ f is.
    let items = c.deref-arg-items.result.now in
    let same : c.in-App.f ≡ f = app_root (sym (application c.in-App.f (tree c.args.t.now) _ _ _ (ap tree c.in-App.is) c.args-in-App.view_is c.deref-arg-items.ensures.value) ∙ is) in
    subst (λ root. Partly (g.T.Coefficients.coefficient c.args.table.now) (λ x. c.args.each) root (forest items) (forest (drop (c.loop-i.i + 1) items)) (c.loop-i.i + 1 + 1) c.loop-i.sum) same
    (passed (g.T.Coefficients.coefficient c.args.table.now) (λ x. c.args.each) c.in-App.f (forest items) (tree c.arg-item.result) (forest (drop (c.loop-i.i + 1) items)) (c.loop-i.i + 1) c.loop-i.sum
    c.at-factor.result (c.at-factor.ensures ∙ c.row-row.ensures (c.loop-i.i + 1)) (left g t (goal.at.loop-i-preserved-then-factor-eq0 g t c).After-arg-item) c.if-factor-eq0.true)

pub loop-i-preserved : goal.loop-i-preserved
loop-i-preserved g t c = λ f is.
    let items = c.deref-arg-items.result.now in
    let same : c.in-App.f ≡ f = app_root (sym (application c.in-App.f (tree c.args.t.now) _ _ _ (ap tree c.in-App.is) c.args-in-App.view_is c.deref-arg-items.ensures.value) ∙ is) in
    subst (λ root. Partly (g.T.Coefficients.coefficient c.args.table.now) (λ x. c.args.each) root (forest items) (forest (drop (c.loop-i.i + 1) items)) (c.loop-i.i + 1 + 1) c.plus_saturated-sum.result) same
    (added (g.T.Coefficients.coefficient c.args.table.now) (λ x. c.args.each) c.in-App.f (forest items) (tree c.arg-item.result) (forest (drop (c.loop-i.i + 1) items)) (c.loop-i.i + 1) c.loop-i.sum
    c.at-factor.result (c.at-factor.ensures ∙ c.row-row.ensures (c.loop-i.i + 1)) (left g t (goal.at.loop-i-preserved g t c).After-arg-item)
    c.saturated_value.result c.plus_saturated-sum.result c.saturated_value.ensures c.plus_saturated-sum.ensures)

pub returns-after-loop-i : goal.returns-after-loop-i
returns-after-loop-i g t c =
    let items = c.deref-arg-items.result.now in
    let is = application c.in-App.f (tree c.args.t.now) _ _ _ (ap tree c.in-App.is) c.args-in-App.view_is c.deref-arg-items.ensures.value in
    ended (g.T.Coefficients.coefficient c.args.table.now) (λ x. c.args.each) c.in-App.f (forest items) (c.loop-i.i + 1) c.loop-i.sum (tree c.args.t.now) is
    (subst (λ us. Partly (g.T.Coefficients.coefficient c.args.table.now) (λ x. c.args.each) c.in-App.f (forest items) (forest us) (c.loop-i.i + 1) c.loop-i.sum)
    (drop_all c.loop-i.i items c.loop-i-test.false) (c.loop-i.invariant c.in-App.f is))
