use Rattle.std.proofs.lemmas.Result.{err_from_is_err_and}
use Rattle.rewrite_core.specs.Check.{goes_on, stops, holds, lacks}
use Rattle.rewrite_core.proofs.Answering.{refused_later}
use Rattle.rewrite_core.proofs.Items.{one_more_passed, item_refused, all_passed, none_left}
use Rattle.closed_pairs.proofs.PairsOfLists.{both_read}
use Rattle.closed_pairs.proofs.joined.peaks_are_joined.Goals as goal

pub returns-then-joins-peaks : goal.returns-then-joins-peaks
returns-then-joins-peaks g c = stops _ (lacks c.if-joins-peaks.true)

pub returns-in_err-peak_is_joined : goal.returns-in_err-peak_is_joined
returns-in_err-peak_is_joined g c =
    let at = both_read c.args.peaks.now c.args.joins.now c.loop-n.n c.index-peaks-n.result c.index-joins-n.result c.if-joins-peaks.false c.loop-n-test.true c.index-peaks-n.is c.index-joins-n.is in
    let p = err_from_is_err_and c.from_residual.result c.from_residual.ensures.1 in
    rw (p.1, p.2) (refused_later _ _ _ tt (holds c.if-joins-peaks.false)
    (item_refused _ _ c.loop-n.n _ _ at c.in_err-peak_is_joined.ensures.answers c.loop-n.invariant))

pub loop-n-preserved : goal.loop-n-preserved
loop-n-preserved g c =
    let at = both_read c.args.peaks.now c.args.joins.now c.loop-n.n c.index-peaks-n.result c.index-joins-n.result c.if-joins-peaks.false c.loop-n-test.true c.index-peaks-n.is c.index-joins-n.is in
    one_more_passed _ _ c.loop-n.n _ at c.in_ok-peak_is_joined.ensures.answers c.loop-n.invariant

pub returns : goal.returns
returns g c =
    goes_on tt _ (holds c.if-joins-peaks.false)
    (all_passed _ _ c.loop-n.n (none_left c.args.peaks.now c.args.joins.now c.loop-n.n c.loop-n-test.false) c.loop-n.invariant)
