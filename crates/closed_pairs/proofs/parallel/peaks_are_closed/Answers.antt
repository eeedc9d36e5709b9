use Rattle.std.proofs.lemmas.Result.{err_from_is_err_and}
use Rattle.rewrite_core.specs.Check.{goes_on, holds}
use Rattle.rewrite_core.proofs.Answering.{refused_later}
use Rattle.rewrite_core.proofs.Items.{one_more_passed, item_refused, all_passed, none_left}
use Rattle.closed_pairs.specs.ParallelClosed.{paths_of}
use Rattle.closed_pairs.proofs.ParallelItems.{path_read, same_count, wrong_count}
use Rattle.closed_pairs.proofs.parallel.peaks_are_closed.Goals as goal

pub returns-then-steps-peaks : goal.returns-then-steps-peaks
returns-then-steps-peaks g c = wrong_count c.args.peaks.now c.args.steps.now _ c.if-steps-peaks.true

pub returns-in_err-peak_is_closed : goal.returns-in_err-peak_is_closed
returns-in_err-peak_is_closed g c =
    let at = path_read c.args.peaks.now c.args.steps.now c.loop-n.n c.index-peaks-n.result c.index-steps-n.result c.if-steps-peaks.false c.loop-n-test.true c.index-peaks-n.is c.index-steps-n.is in
    let p = err_from_is_err_and c.from_residual.result c.from_residual.ensures.1 in
    rw (p.1, p.2) (refused_later _ _ _ tt (holds (same_count c.args.peaks.now c.args.steps.now c.if-steps-peaks.false))
    (item_refused _ _ c.loop-n.n _ _ at (rw c.deref.ensures.value at c.in_err-peak_is_closed.ensures) c.loop-n.invariant))

pub loop-n-preserved : goal.loop-n-preserved
loop-n-preserved g c =
    let at = path_read c.args.peaks.now c.args.steps.now c.loop-n.n c.index-peaks-n.result c.index-steps-n.result c.if-steps-peaks.false c.loop-n-test.true c.index-peaks-n.is c.index-steps-n.is in
    one_more_passed _ _ c.loop-n.n _ at (rw c.deref.ensures.value at c.in_ok-peak_is_closed.ensures) c.loop-n.invariant

pub returns : goal.returns
returns g c =
    goes_on tt _ (holds (same_count c.args.peaks.now c.args.steps.now c.if-steps-peaks.false))
    (all_passed _ _ c.loop-n.n (none_left c.args.peaks.now (paths_of c.args.steps.now) c.loop-n.n c.loop-n-test.false) c.loop-n.invariant)
