use Rattle.std.proofs.lemmas.Result.{err_from_is_err_and}
use Rattle.rewrite_core.proofs.Answering.{refused_first, refused_later, then_answers}
use Rattle.closed_pairs.proofs.ends.meet.Goals as goal

pub returns-in_err-first_made : goal.returns-in_err-first_made
returns-in_err-first_made c =
    let p = err_from_is_err_and c.from_residual.result c.from_residual.ensures.1 in
    rw (p.1, p.2) (refused_first _ _ _ c.in_err-first_made.ensures)

pub returns-in_err-second_made : goal.returns-in_err-second_made
returns-in_err-second_made c =
    let p = err_from_is_err_and c.from_residual-in_err-second_made.result c.from_residual-in_err-second_made.ensures.1 in
    rw (p.1, p.2) (refused_later _ _ _ _ c.in_ok-first_made.ensures (refused_first _ _ _ c.in_err-second_made.ensures))

pub returns : goal.returns
returns c =
    then_answers _ _ (λ u. u) _ c.same_ends.result c.in_ok-first_made.ensures
    (then_answers _ _ (λ u. u) _ c.same_ends.result c.in_ok-second_made.ensures (rw (c.end_of.ensures, c.end_of-2.ensures) at c.same_ends.ensures))
