use Rattle.std.proofs.Common.{◌≡◌, ◌+◌, ◌∙◌, ap, sym, subst, drop}
use Rattle.std.proofs.lemmas.List.{drop_all}
use Rattle.trs_defs.specs.Tree.{cons}
use Rattle.trs_defs.proofs.ArgumentLists.{cell}
use Rattle.trs_defs.proofs.EqualTerms.{app_root}
use Rattle.trs_core.specs.View.{tree, forest}
use Rattle.pair_order.proofs.Opening.{application}
use Rattle.poly_lin.specs.TooBig.{IsBig, HasBigCoefficient}
use Rattle.poly_lin.proofs.BehindZero.{Rest, itself_big, all_rest, next_rest, no_rest, big_argument}
use Rattle.poly_lin.proofs.too_big.+has_big_behind_zero.Goals.{After-arg-item, else-at-eq0-via-then-at-eq0+else-is_big, else-at-eq0-via-else-at-eq0}
use Rattle.poly_lin.proofs.too_big.+has_big_behind_zero.Goals as goal

left : (g : _) (t : _) (c : After-arg-item g t)
    → Rest (g.T.Coefficients.coefficient c.args.table.now) c.in-App.f (forest c.deref-arg-items.result.now) (cons (tree c.arg-item.result) (forest (drop (c.loop-i.i + 1) c.deref-arg-items.result.now))) (c.loop-i.i + 1)
left g t c =
    subst (λ us. Rest (g.T.Coefficients.coefficient c.args.table.now) c.in-App.f (forest c.deref-arg-items.result.now) (forest us) (c.loop-i.i + 1))
    (cell c.deref-arg-items.result.now c.loop-i.i c.arg-item.result c.loop-i-test.true c.arg-item.is)
    (c.loop-i.invariant c.in-App.f (application c.in-App.f (tree c.args.t.now) _ _ _ (ap tree c.in-App.is) c.args-in-App.view_is c.deref-arg-items.ensures.value))

-- what is big in an argument is big in the term
found : (g : _) (t : _) (c : After-arg-item g t) (k : _) → k ≡ g.T.Coefficients.coefficient c.args.table.now c.in-App.f (c.loop-i.i + 1)
    → HasBigCoefficient (g.T.Coefficients.coefficient c.args.table.now) (tree c.arg-item.result) → HasBigCoefficient (g.T.Coefficients.coefficient c.args.table.now) (tree c.args.t.now)
found g t c k is big =
    subst (HasBigCoefficient (g.T.Coefficients.coefficient c.args.table.now)) (sym (application c.in-App.f (tree c.args.t.now) _ _ _ (ap tree c.in-App.is) c.args-in-App.view_is c.deref-arg-items.ensures.value))
    (big_argument (g.T.Coefficients.coefficient c.args.table.now) c.in-App.f (forest c.deref-arg-items.result.now) (tree c.arg-item.result) (forest (drop (c.loop-i.i + 1) c.deref-arg-items.result.now)) (c.loop-i.i + 1) k is (left g t c) big)

pub loop-i-init : goal.loop-i-init
loop-i-init g t c = λ f is. all_rest (g.T.Coefficients.coefficient c.args.table.now) f (forest c.deref-arg-items.result.now)

pub returns-then-is_big-clause-found : goal.returns-then-is_big-clause-found
returns-then-is_big-clause-found g t c = λ _.
    found g t (goal.at.returns-then-is_big-clause-found g t c).After-arg-item c.at.result (c.at.ensures ∙ c.row-row.ensures (c.loop-i.i + 1))
    (itself_big (g.T.Coefficients.coefficient c.args.table.now) (tree c.arg-item.result) (c.is_big.ensures.0 c.if-is_big.true))

pub returns-then-has_big_behind_zero-clause-found : goal.returns-then-has_big_behind_zero-clause-found
returns-then-has_big_behind_zero-clause-found g t c = λ _.
    found g t (goal.at.returns-then-has_big_behind_zero-clause-found g t c).After-arg-item c.at.result (c.at.ensures ∙ c.row-row.ensures (c.loop-i.i + 1))
    (c.has_big_behind_zero.ensures.found c.if-has_big_behind_zero.true)

pub loop-i-preserved : goal.loop-i-preserved
loop-i-preserved g t c = λ f is.
    let items = c.deref-arg-items.result.now in
    let same : c.in-App.f ≡ f = app_root (sym (application c.in-App.f (tree c.args.t.now) _ _ _ (ap tree c.in-App.is) c.args-in-App.view_is c.deref-arg-items.ensures.value) ∙ is) in
    subst (λ root. Rest (g.T.Coefficients.coefficient c.args.table.now) root (forest items) (forest (drop (c.loop-i.i + 1) items)) (c.loop-i.i + 1 + 1)) same
    (next_rest (g.T.Coefficients.coefficient c.args.table.now) c.in-App.f (forest items) (tree c.arg-item.result) (forest (drop (c.loop-i.i + 1) items)) (c.loop-i.i + 1)
    c.at.result (c.at.ensures ∙ c.row-row.ensures (c.loop-i.i + 1)) (left g t (goal.at.loop-i-preserved g t c).After-arg-item)
    (elim c.else-at-eq0.branch [
      | else-at-eq0-via-then-at-eq0+else-is_big w ↦ λ none big. cc (w.is_big.ensures.1 big, w.if-is_big.false)
      | else-at-eq0-via-else-at-eq0 w ↦ λ none big. w.if-at-eq0.false none
    ])
    (c.has_big_behind_zero.ensures.else_whole c.if-has_big_behind_zero.false))

pub returns-after-loop-i-clause-else_whole : goal.returns-after-loop-i-clause-else_whole
returns-after-loop-i-clause-else_whole g t c = λ _.
    let items = c.deref-arg-items.result.now in
    let is = application c.in-App.f (tree c.args.t.now) _ _ _ (ap tree c.in-App.is) c.args-in-App.view_is c.deref-arg-items.ensures.value in
    subst (λ u. HasBigCoefficient (g.T.Coefficients.coefficient c.args.table.now) u → IsBig (g.T.Coefficients.coefficient c.args.table.now) u) (sym is)
    (no_rest (g.T.Coefficients.coefficient c.args.table.now) c.in-App.f (forest items) (c.loop-i.i + 1)
    (subst (λ us. Rest (g.T.Coefficients.coefficient c.args.table.now) c.in-App.f (forest items) (forest us) (c.loop-i.i + 1))
    (drop_all c.loop-i.i items c.loop-i-test.false) (c.loop-i.invariant c.in-App.f is)))
