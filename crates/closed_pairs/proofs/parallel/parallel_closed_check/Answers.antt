use Rattle.std.proofs.Common.{IfSome, Option, subst}
use Rattle.std.proofs.lemmas.Result.{err_from_is_err_and}
use Rattle.rewrite_core.proofs.Answering.{refused_first, refused_later, then_answers}
use Rattle.crit_pairs.specs.PooledPeaks.{ArePooled}
use Rattle.crit_pairs.specs.declared.pooled.PooledPeaks.{PooledPeaks}
use Rattle.closed_pairs.proofs.parallel.parallel_closed_check.Goals as goal

pub returns-in_err-left_linear_check : goal.returns-in_err-left_linear_check
returns-in_err-left_linear_check c =
    let p = err_from_is_err_and c.from_residual.result c.from_residual.ensures.1 in
    rw (p.1, p.2) (record { answers = refused_first _ _ _ c.in_err-left_linear_check.ensures.answers })

pub pooled_peaks_are_closed-requires : goal.pooled_peaks_are_closed-requires
pooled_peaks_are_closed-requires c =
    let P : Option PooledPeaks → Type 0 = λ o. IfSome o (ArePooled c.args.trs.now.rules) in
    subst P c.in-Some.is c.in_ok-found.ensures

pub returns-in-Some : goal.returns-in-Some
returns-in-Some c = record { answers = then_answers _ _ (λ u. u) tt c.pooled_peaks_are_closed.result c.in_ok-left_linear_check.ensures.answers c.pooled_peaks_are_closed.ensures }

pub returns-in-None : goal.returns-in-None
returns-in-None c = record { answers = then_answers _ _ (λ u. u) tt c.listed_peaks_are_closed.result c.in_ok-left_linear_check.ensures.answers c.listed_peaks_are_closed.ensures }
