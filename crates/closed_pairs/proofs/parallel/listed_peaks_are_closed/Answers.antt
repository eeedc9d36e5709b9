use Rattle.std.proofs.lemmas.List.{length-map}
use Rattle.std.proofs.lemmas.Result.{err_from_is_err_and}
use Rattle.rewrite_core.proofs.Answering.{then_answers}
use Rattle.closed_pairs.specs.ParallelClosed.{paths_of}
use Rattle.closed_pairs.proofs.CountedPeaks.{listed_for, refused_for}
use Rattle.closed_pairs.proofs.parallel.listed_peaks_are_closed.Goals as goal

pub returns-in_err-peaks : goal.returns-in_err-peaks
returns-in_err-peaks c =
    let p = err_from_is_err_and c.from_residual.result c.from_residual.ensures.1 in
    rw (p.1, p.2) (refused_for _ (paths_of c.args.steps.now) _ _ (length-map c.args.steps.now (λ p. p.items)) _ c.in_err-peaks.ensures)

pub returns : goal.returns
returns c = then_answers _ _ (λ u. u) _ c.peaks_are_closed.result (listed_for _ _ _ c.in_ok-peaks.ensures) (rw c.deref.ensures.value at c.peaks_are_closed.ensures)
