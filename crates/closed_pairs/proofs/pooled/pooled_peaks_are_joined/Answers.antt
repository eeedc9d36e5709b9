use Rattle.std.specs.Prelude.{ℕ, List, length}
use Rattle.std.proofs.Common.{refl}
use Rattle.std.proofs.lemmas.Option.{slice_get_read}
use Rattle.std.proofs.lemmas.Result.{err_from_is_err_and}
use Rattle.closed_pairs.specs.Joined.{joins}
use Rattle.closed_pairs.proofs.PooledItems.{count_refused, none_passed, peaks_there, peak_there, refused_at, one_more, all_hold}
use Rattle.closed_pairs.proofs.pooled.pooled_peaks_are_joined.Goals as goal

pub returns-then-joins-count : goal.returns-then-joins-count
returns-then-joins-count c =
    let rules = c.args.trs.now.rules in
    count_refused (joins rules) rules c.args.joins.now c.args.peaks c.len-count.result (length c.args.joins.now) c.requires c.len-count.ensures refl c.if-joins-count.true

pub loop-n-init : goal.loop-n-init
loop-n-init c =
    let rules = c.args.trs.now.rules in
    none_passed (joins rules) rules c.args.joins.now c.args.peaks c.len-count.result c.requires c.len-count.ensures c.if-joins-count.false

pub pooled_peak_is_joined-requires-clause-peaks : goal.pooled_peak_is_joined-requires-clause-peaks
pooled_peak_is_joined-requires-clause-peaks c =
    let rules = c.args.trs.now.rules in
    peaks_there (joins rules) rules c.args.joins.now c.loop-n.n c.loop-n.pooled c.make_room.new.self c.loop-n.invariant c.make_room.ensures

pub pooled_peak_is_joined-requires-clause-there : goal.pooled_peak_is_joined-requires-clause-there
pooled_peak_is_joined-requires-clause-there c =
    let rules = c.args.trs.now.rules in
    peak_there (joins rules) rules c.args.joins.now c.loop-n.n c.loop-n.pooled c.make_room.new.self c.loop-n.invariant c.make_room.ensures c.loop-n-test.true

pub returns-in_err-pooled_peak_is_joined : goal.returns-in_err-pooled_peak_is_joined
returns-in_err-pooled_peak_is_joined c =
    let rules = c.args.trs.now.rules in
    let items = c.args.joins.now in
    let at = slice_get_read items (length items) c.loop-n.n c.index-joins-n.result refl c.loop-n-test.true c.index-joins-n.is in
    let p = err_from_is_err_and c.from_residual.result c.from_residual.ensures.1 in
    rw (p.1, p.2) (refused_at (joins rules) rules items c.loop-n.n c.loop-n.pooled c.make_room.new.self c.loop-n.invariant c.make_room.ensures c.index-joins-n.result c.loop-n-test.true at _
    c.in_err-pooled_peak_is_joined.ensures.answers)

pub loop-n-preserved : goal.loop-n-preserved
loop-n-preserved c =
    let rules = c.args.trs.now.rules in
    let items = c.args.joins.now in
    let at = slice_get_read items (length items) c.loop-n.n c.index-joins-n.result refl c.loop-n-test.true c.index-joins-n.is in
    one_more (joins rules) rules items c.loop-n.n c.loop-n.pooled c.make_room.new.self c.loop-n.invariant c.make_room.ensures c.index-joins-n.result c.loop-n-test.true at
    c.pooled_peak_is_joined.new.peaks c.in_ok-pooled_peak_is_joined.ensures.peaks c.in_ok-pooled_peak_is_joined.ensures.answers

pub returns : goal.returns
returns c =
    let rules = c.args.trs.now.rules in
    all_hold (joins rules) rules c.args.joins.now c.loop-n.n c.loop-n.pooled c.loop-n.invariant c.loop-n-test.false
