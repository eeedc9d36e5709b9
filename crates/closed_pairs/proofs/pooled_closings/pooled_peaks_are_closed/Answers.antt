use Rattle.std.specs.Prelude.{ℕ, List, length}
use Rattle.std.proofs.Common.{◌∙◌, arith}
use Rattle.std.proofs.lemmas.List.{length-map}
use Rattle.std.proofs.lemmas.Result.{err_from_is_err_and}
use Rattle.trs_defs.proofs.ListItems.{read_image}
use Rattle.closed_pairs.specs.ParallelClosed.{paths_of, closes_in_parallel}
use Rattle.closed_pairs.proofs.PooledItems.{count_refused, none_passed, peaks_there, peak_there, refused_at, one_more, all_hold}
use Rattle.closed_pairs.proofs.pooled_closings.pooled_peaks_are_closed.Goals as goal

pub returns-then-steps-count : goal.returns-then-steps-count
returns-then-steps-count c =
    let rules = c.args.trs.now.rules in
    count_refused (closes_in_parallel rules) rules (paths_of c.args.steps.now) c.args.peaks c.len-count.result (length c.args.steps.now) c.requires c.len-count.ensures (length-map c.args.steps.now (λ p. p.items))
    c.if-steps-count.true

pub loop-n-init : goal.loop-n-init
loop-n-init c =
    let rules = c.args.trs.now.rules in
    none_passed (closes_in_parallel rules) rules (paths_of c.args.steps.now) c.args.peaks c.len-count.result c.requires c.len-count.ensures (length-map c.args.steps.now (λ p. p.items) ∙ c.if-steps-count.false)

pub pooled_peak_is_closed-requires-clause-peaks : goal.pooled_peak_is_closed-requires-clause-peaks
pooled_peak_is_closed-requires-clause-peaks c =
    let rules = c.args.trs.now.rules in
    peaks_there (closes_in_parallel rules) rules (paths_of c.args.steps.now) c.loop-n.n c.loop-n.pooled c.make_room.new.self c.loop-n.invariant c.make_room.ensures

pub pooled_peak_is_closed-requires-clause-there : goal.pooled_peak_is_closed-requires-clause-there
pooled_peak_is_closed-requires-clause-there c =
    let rules = c.args.trs.now.rules in
    peak_there (closes_in_parallel rules) rules (paths_of c.args.steps.now) c.loop-n.n c.loop-n.pooled c.make_room.new.self c.loop-n.invariant c.make_room.ensures
    (omega (arith, c.loop-n-test.true, length-map c.args.steps.now (λ p. p.items)))

pub returns-in_err-pooled_peak_is_closed : goal.returns-in_err-pooled_peak_is_closed
returns-in_err-pooled_peak_is_closed c =
    let rules = c.args.trs.now.rules in
    let steps = c.args.steps.now in
    let at = read_image (λ p. p.items) steps c.loop-n.n c.index-steps-n.result c.loop-n-test.true c.index-steps-n.is in
    let p = err_from_is_err_and c.from_residual.result c.from_residual.ensures.1 in
    rw (p.1, p.2) (refused_at (closes_in_parallel rules) rules (paths_of steps) c.loop-n.n c.loop-n.pooled c.make_room.new.self c.loop-n.invariant c.make_room.ensures c.index-steps-n.result.items (omega (arith, c.loop-n-test.true, length-map steps (λ p. p.items))) at _
    (rw c.deref.ensures.value at c.in_err-pooled_peak_is_closed.ensures.answers))

pub loop-n-preserved : goal.loop-n-preserved
loop-n-preserved c =
    let rules = c.args.trs.now.rules in
    let steps = c.args.steps.now in
    let at = read_image (λ p. p.items) steps c.loop-n.n c.index-steps-n.result c.loop-n-test.true c.index-steps-n.is in
    one_more (closes_in_parallel rules) rules (paths_of steps) c.loop-n.n c.loop-n.pooled c.make_room.new.self c.loop-n.invariant c.make_room.ensures c.index-steps-n.result.items (omega (arith, c.loop-n-test.true, length-map steps (λ p. p.items))) at
    c.pooled_peak_is_closed.new.peaks c.in_ok-pooled_peak_is_closed.ensures.peaks (rw c.deref.ensures.value at c.in_ok-pooled_peak_is_closed.ensures.answers)

pub returns : goal.returns
returns c =
    let rules = c.args.trs.now.rules in
    all_hold (closes_in_parallel rules) rules (paths_of c.args.steps.now) c.loop-n.n c.loop-n.pooled c.loop-n.invariant (omega (arith, c.loop-n-test.false, length-map c.args.steps.now (λ p. p.items)))
