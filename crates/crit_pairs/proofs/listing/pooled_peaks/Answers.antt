use Rattle.std.proofs.lemmas.Result.{err_from_is_err_and}
use Rattle.crit_pairs.proofs.listing.pooled_peaks.Goals as goal

pub returns-clause-peaks : goal.returns-clause-peaks
returns-clause-peaks c = c.in_ok-peaks.ensures.peaks

pub returns-clause-pairs : goal.returns-clause-pairs
returns-clause-pairs c = c.into_pairs.ensures c.args.trs.now.rules c.in_ok-peaks.peaks.list.items c.in_ok-peaks.ensures.held

pub returns-clause-covers : goal.returns-clause-covers
returns-clause-covers c = c.listed_peaks_cover.ensures c.args.trs.now c.in_ok-peaks.peaks.list.items c.in_ok-peaks.ensures.valid c.in_ok-peaks.ensures.peaks

pub returns-in_err-peaks-clause-fault : goal.returns-in_err-peaks-clause-fault
returns-in_err-peaks-clause-fault c =
    let p = err_from_is_err_and c.from_residual-in_err-peaks.result c.from_residual-in_err-peaks.ensures.1 in
    rw (p.1, p.2) c.in_err-peaks.ensures.fault

pub returns-in_err-list_by-clause-fault : goal.returns-in_err-list_by-clause-fault
returns-in_err-list_by-clause-fault c =
    let p = err_from_is_err_and c.from_residual-in_err-list_by.result c.from_residual-in_err-list_by.ensures.1 in
    rw (p.1, p.2) c.in_err-list_by.ensures.fault
