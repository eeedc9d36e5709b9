use Rattle.std.proofs.Common.{rules, ◌≡◌, ◌+◌, ◌∙◌, ap, sym, subst, drop}
use Rattle.std.proofs.lemmas.List.{drop_all}
use Rattle.trs_defs.specs.Tree.{cons}
use Rattle.trs_defs.proofs.ArgumentLists.{cell}
use Rattle.trs_defs.proofs.EqualTerms.{app_root}
use Rattle.trs_core.specs.View.{tree, forest}
use Rattle.pair_order.proofs.Opening.{application}
use Rattle.poly_lin.proofs.Windows.{Remains, all_remains, rest_remains, more_added, none_remains, IsNext, first_next, same_next, later_next, last_next}
use Rattle.poly_lin.proofs.window.+add_coefficients.Goals.{After-arg-item}
use Rattle.poly_lin.proofs.window.+add_coefficients.Goals as goal

so_far : (g : _) (t : _) (c : After-arg-item g t)
    → (let us = cons (tree c.arg-item.result) (forest (drop (c.loop-i.i + 1) c.deref-arg-items.result.now)) in
    Remains (g.T.Coefficients.coefficient c.args.table.now) g.row.W c.args.from c.args.factor c.in-App.f (tree c.args.t.now) c.args.sums.now c.loop-i.sums (c.loop-i.i + 1) us × IsNext (g.T.Coefficients.coefficient c.args.table.now) (c.args.from + g.row.W) c.in-App.f (tree c.args.t.now) c.args.best c.loop-i.next (c.loop-i.i + 1) us)
so_far g t c =
    subst (λ us. Remains (g.T.Coefficients.coefficient c.args.table.now) g.row.W c.args.from c.args.factor c.in-App.f (tree c.args.t.now) c.args.sums.now c.loop-i.sums (c.loop-i.i + 1) (forest us) × IsNext (g.T.Coefficients.coefficient c.args.table.now) (c.args.from + g.row.W) c.in-App.f (tree c.args.t.now) c.args.best c.loop-i.next (c.loop-i.i + 1) (forest us))
    (cell c.deref-arg-items.result.now c.loop-i.i c.arg-item.result c.loop-i-test.true c.arg-item.is)
    (c.loop-i.invariant.2 c.in-App.f (application c.in-App.f (tree c.args.t.now) _ _ _ (ap tree c.in-App.is) c.args-in-App.view_is c.deref-arg-items.ensures.value))

pub loop-i-init : goal.loop-i-init
loop-i-init g t c = (
  search rules,
  λ h. h,
  λ f is. (
    all_remains (g.T.Coefficients.coefficient c.args.table.now) g.row.W c.args.from c.args.factor f (forest c.deref-arg-items.result.now) (tree c.args.t.now) c.args.sums.now is,
    first_next (g.T.Coefficients.coefficient c.args.table.now) (c.args.from + g.row.W) f (forest c.deref-arg-items.result.now) (tree c.args.t.now) c.args.best is,
  ),
)

pub loop-i-preserved-then-coefficient-eq0 : goal.loop-i-preserved-then-coefficient-eq0
loop-i-preserved-then-coefficient-eq0 g t c = (
  c.loop-i.invariant.0,
  c.loop-i.invariant.1,
  λ f is.
      let rest = forest (drop (c.loop-i.i + 1) c.deref-arg-items.result.now) in
      let same : c.in-App.f ≡ f = app_root (sym (application c.in-App.f (tree c.args.t.now) _ _ _ (ap tree c.in-App.is) c.args-in-App.view_is c.deref-arg-items.ensures.value) ∙ is) in
      let known = so_far g t (goal.at.loop-i-preserved-then-coefficient-eq0 g t c).After-arg-item in
      let k_is = c.at-coefficient.ensures ∙ c.row-row.ensures (c.loop-i.i + 1) in
      subst (λ root. Remains (g.T.Coefficients.coefficient c.args.table.now) g.row.W c.args.from c.args.factor root (tree c.args.t.now) c.args.sums.now c.loop-i.sums (c.loop-i.i + 1 + 1) rest × IsNext (g.T.Coefficients.coefficient c.args.table.now) (c.args.from + g.row.W) root (tree c.args.t.now) c.args.best c.loop-i.next (c.loop-i.i + 1 + 1) rest) same (
        rest_remains (g.T.Coefficients.coefficient c.args.table.now) g.row.W c.args.from c.args.factor c.in-App.f (tree c.args.t.now) c.args.sums.now c.loop-i.sums (c.loop-i.i + 1) (tree c.arg-item.result) rest
            c.at-coefficient.result k_is known.0 c.if-coefficient-eq0.true,
        same_next (g.T.Coefficients.coefficient c.args.table.now) (c.args.from + g.row.W) c.in-App.f (tree c.args.t.now) c.args.best c.loop-i.next (c.loop-i.i + 1) (tree c.arg-item.result) rest
            c.at-coefficient.result k_is known.1 c.if-coefficient-eq0.true,
      ),
)

pub loop-i-preserved : goal.loop-i-preserved
loop-i-preserved g t c = (
  c.add_coefficients-next.ensures.length,
  λ h. c.add_coefficients-next.ensures.behind (c.loop-i.invariant.1 h),
  λ f is.
      let rest = forest (drop (c.loop-i.i + 1) c.deref-arg-items.result.now) in
      let same : c.in-App.f ≡ f = app_root (sym (application c.in-App.f (tree c.args.t.now) _ _ _ (ap tree c.in-App.is) c.args-in-App.view_is c.deref-arg-items.ensures.value) ∙ is) in
      let known = so_far g t (goal.at.loop-i-preserved g t c).After-arg-item in
      let k_is = c.at-coefficient.ensures ∙ c.row-row.ensures (c.loop-i.i + 1) in
      subst (λ root. Remains (g.T.Coefficients.coefficient c.args.table.now) g.row.W c.args.from c.args.factor root (tree c.args.t.now) c.args.sums.now c.add_coefficients-next.new.sums (c.loop-i.i + 1 + 1) rest × IsNext (g.T.Coefficients.coefficient c.args.table.now) (c.args.from + g.row.W) root (tree c.args.t.now) c.args.best c.add_coefficients-next.result (c.loop-i.i + 1 + 1) rest) same (
        more_added (g.T.Coefficients.coefficient c.args.table.now) g.row.W c.args.from c.args.factor c.in-App.f (tree c.args.t.now) c.args.sums.now c.loop-i.sums (c.loop-i.i + 1) (tree c.arg-item.result) rest
            c.at-coefficient.result k_is known.0 c.saturating_mul-product.result c.add_coefficients-next.new.sums c.saturating_mul-product.ensures c.add_coefficients-next.ensures.added,
        later_next (g.T.Coefficients.coefficient c.args.table.now) (c.args.from + g.row.W) c.in-App.f (tree c.args.t.now) c.args.best c.loop-i.next (c.loop-i.i + 1) (tree c.arg-item.result) rest
            c.at-coefficient.result k_is known.1 c.add_coefficients-next.result c.add_coefficients-next.ensures.next,
      ),
)

pub returns-after-loop-i-clause-added : goal.returns-after-loop-i-clause-added
returns-after-loop-i-clause-added g t c =
    none_remains (g.T.Coefficients.coefficient c.args.table.now) g.row.W c.args.from c.args.factor c.in-App.f (tree c.args.t.now) c.args.sums.now c.loop-i.sums (c.loop-i.i + 1)
    (subst (λ us. Remains (g.T.Coefficients.coefficient c.args.table.now) g.row.W c.args.from c.args.factor c.in-App.f (tree c.args.t.now) c.args.sums.now c.loop-i.sums (c.loop-i.i + 1) (forest us))
    (drop_all c.loop-i.i c.deref-arg-items.result.now c.loop-i-test.false)
    (c.loop-i.invariant.2 c.in-App.f (application c.in-App.f (tree c.args.t.now) _ _ _ (ap tree c.in-App.is) c.args-in-App.view_is c.deref-arg-items.ensures.value)).0)

pub returns-after-loop-i-clause-next : goal.returns-after-loop-i-clause-next
returns-after-loop-i-clause-next g t c =
    last_next (g.T.Coefficients.coefficient c.args.table.now) (c.args.from + g.row.W) c.in-App.f (tree c.args.t.now) c.args.best c.loop-i.next (c.loop-i.i + 1)
    (subst (λ us. IsNext (g.T.Coefficients.coefficient c.args.table.now) (c.args.from + g.row.W) c.in-App.f (tree c.args.t.now) c.args.best c.loop-i.next (c.loop-i.i + 1) (forest us))
    (drop_all c.loop-i.i c.deref-arg-items.result.now c.loop-i-test.false)
    (c.loop-i.invariant.2 c.in-App.f (application c.in-App.f (tree c.args.t.now) _ _ _ (ap tree c.in-App.is) c.args-in-App.view_is c.deref-arg-items.ensures.value)).1)

pub returns-after-loop-i-clause-behind : goal.returns-after-loop-i-clause-behind
returns-after-loop-i-clause-behind g t c = c.loop-i.invariant.1
