use Rattle.std.proofs.lemmas.Result.{err_from_is_err_and}
use Rattle.rewrite_core.specs.Check.{goes_on, stops, holds, lacks}
use Rattle.rewrite_core.proofs.Answering.{refused_later}
use Rattle.rewrite_core.proofs.Items.{one_more_passed, item_refused, all_passed, none_left}
use Rattle.closed_pairs.proofs.PairsOfLists.{both_read}
use Rattle.closed_pairs.proofs.strong.peaks_are_joined_strongly.Goals as goal

pub returns-then-fours-peaks : goal.returns-then-fours-peaks
returns-then-fours-peaks g c = stops _ (lacks c.if-fours-peaks.true)

pub returns-in_err-peak_is_joined_strongly : goal.returns-in_err-peak_is_joined_strongly
returns-in_err-peak_is_joined_strongly g c =
    let at = both_read c.args.peaks.now c.args.fours.now c.loop-n.n c.index-peaks-n.result c.index-fours-n.result c.if-fours-peaks.false c.loop-n-test.true c.index-peaks-n.is c.index-fours-n.is in
    let p = err_from_is_err_and c.from_residual.result c.from_residual.ensures.1 in
    rw (p.1, p.2) (refused_later _ _ _ tt (holds c.if-fours-peaks.false)
    (item_refused _ _ c.loop-n.n _ _ at c.in_err-peak_is_joined_strongly.ensures c.loop-n.invariant))

pub loop-n-preserved : goal.loop-n-preserved
loop-n-preserved g c =
    let at = both_read c.args.peaks.now c.args.fours.now c.loop-n.n c.index-peaks-n.result c.index-fours-n.result c.if-fours-peaks.false c.loop-n-test.true c.index-peaks-n.is c.index-fours-n.is in
    one_more_passed _ _ c.loop-n.n _ at c.in_ok-peak_is_joined_strongly.ensures c.loop-n.invariant

pub returns : goal.returns
returns g c =
    goes_on tt _ (holds c.if-fours-peaks.false)
    (all_passed _ _ c.loop-n.n (none_left c.args.peaks.now c.args.fours.now c.loop-n.n c.loop-n-test.false) c.loop-n.invariant)
