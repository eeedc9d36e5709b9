use Rattle.std.proofs.lemmas.Result.{err_from_is_err_and}
use Rattle.rewrite_core.specs.Check.{stops, holds, lacks}
use Rattle.rewrite_core.proofs.Answering.{refused_first, refused_later, then_answers}
use Rattle.closed_pairs.proofs.parallel.peak_is_closed.Goals as goal

pub returns-then-not-is_parallel : goal.returns-then-not-is_parallel
returns-then-not-is_parallel g c = stops _ (lacks (λ h. let wrong = c.is_parallel.ensures.1 h in let other = c.if-not-is_parallel.true in absurd cc))

pub returns-in_err-made : goal.returns-in_err-made
returns-in_err-made g c =
    let p = err_from_is_err_and c.from_residual.result c.from_residual.ensures.1 in
    rw (p.1, p.2, ← c.peak.view_is) (refused_later _ _ _ tt (holds (c.is_parallel.ensures.0 (cc (c.if-not-is_parallel.false)))) (refused_first _ _ _ (rw c.term-left.ensures at c.in_err-made.ensures)))

pub returns : goal.returns
returns g c =
    rw (← c.peak.view_is) (then_answers _ _ (λ u. u) tt c.same_ends.result (holds (c.is_parallel.ensures.0 (cc (c.if-not-is_parallel.false))))
    (then_answers _ _ (λ u. u) _ c.same_ends.result (rw c.term-left.ensures at c.in_ok-made.ensures) (rw (c.end_of.ensures, c.term-left.ensures, c.term.ensures) at c.same_ends.ensures)))
