use Rattle.std.proofs.lemmas.Result.{err_from_is_err_and}
use Rattle.rewrite_core.proofs.Answering.{refused_first, refused_later, then_answers}
use Rattle.rule_label.proofs.labelled.peak_is_decreasing.Goals as goal

pub returns-in_err-peak_is_joined : goal.returns-in_err-peak_is_joined
returns-in_err-peak_is_joined g c =
    let p = err_from_is_err_and c.from_residual.result c.from_residual.ensures.1 in
    rw (p.1, p.2) (refused_first _ _ _ c.in_err-peak_is_joined.ensures.answers)

pub returns-in_err-labels_fit : goal.returns-in_err-labels_fit
returns-in_err-labels_fit g c =
    let p = err_from_is_err_and c.from_residual-in_err-labels_fit.result c.from_residual-in_err-labels_fit.ensures.1 in
    rw (p.1, p.2) (refused_later _ _ _ tt c.in_ok-peak_is_joined.ensures.answers
    (rw (← c.peak.view_is, ← c.join.view_is) (refused_first _ _ _ (rw c.deref.ensures.value at c.in_err-labels_fit.ensures))))

pub returns : goal.returns
returns g c =
    then_answers _ _ (λ u. u) tt c.labels_fit-2.result c.in_ok-peak_is_joined.ensures.answers
    (rw (← c.peak.view_is, ← c.join.view_is) (then_answers _ _ (λ u. u) tt c.labels_fit-2.result (rw c.deref.ensures.value at c.in_ok-labels_fit.ensures)
    (rw c.deref-2.ensures.value at c.labels_fit-2.ensures)))
