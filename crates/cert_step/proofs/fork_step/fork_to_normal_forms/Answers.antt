use Rattle.std.proofs.lemmas.Result.{err_from_is_err_and}
use Rattle.rewrite_core.proofs.Answering.{refused_first, refused_later, then_answers}
use Rattle.cert_step.proofs.fork_step.fork_to_normal_forms.Goals as goal

pub returns-in_err-left_made : goal.returns-in_err-left_made
returns-in_err-left_made c =
    let p = err_from_is_err_and c.from_residual.result c.from_residual.ensures.1 in
    rw (p.1, p.2) (refused_first _ _ _ c.in_err-left_made.ensures)

pub returns-in_err-right_made : goal.returns-in_err-right_made
returns-in_err-right_made c =
    let p = err_from_is_err_and c.from_residual-in_err-right_made.result c.from_residual-in_err-right_made.ensures.1 in
    rw (p.1, p.2) (refused_later _ _ _ _ c.in_ok-left_made.ensures (refused_first _ _ _ c.in_err-right_made.ensures))

pub returns : goal.returns
returns c =
    then_answers _ _ (λ u. u) _ c.different_normal_forms.result c.in_ok-left_made.ensures
    (then_answers _ _ (λ u. u) _ c.different_normal_forms.result c.in_ok-right_made.ensures (rw (c.end_of.ensures, c.end_of-2.ensures) at c.different_normal_forms.ensures))
