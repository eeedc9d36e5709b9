use Rattle.std.proofs.lemmas.Result.{err_from_is_err_and}
use Rattle.rewrite_core.proofs.Answering.{refused_first, then_answers}
use Rattle.closed_pairs.proofs.strong.peak_is_joined_strongly.Goals as goal

pub returns-in_err-half : goal.returns-in_err-half
returns-in_err-half g c =
    let p = err_from_is_err_and c.from_residual.result c.from_residual.ensures.1 in
    rw (p.1, p.2, ← c.peak.view_is, ← c.four.view_is) (refused_first _ _ _ (rw (c.deref.ensures.value, c.deref-2.ensures.value, c.term.ensures, c.term-2.ensures) at c.in_err-half.ensures))

pub returns : goal.returns
returns g c =
    rw (← c.peak.view_is, ← c.four.view_is) (then_answers _ _ (λ u. u) tt c.half-2.result (rw (c.deref.ensures.value, c.deref-2.ensures.value, c.term.ensures, c.term-2.ensures) at c.in_ok-half.ensures)
    (rw (c.deref-3.ensures.value, c.deref-4.ensures.value, c.term-3.ensures, c.term-4.ensures) at c.half-2.ensures))
