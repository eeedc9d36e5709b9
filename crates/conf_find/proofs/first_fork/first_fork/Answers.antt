use Rattle.std.proofs.Common.{◌≡◌, Some, slice_get, refl, arith}
use Rattle.std.proofs.lemmas.Option.{slice_get_read}
use Rattle.conf_find.specs.ForkRows.{PartsNot}
use Rattle.assign_search.proofs.Continuing.{continues_on}
use Rattle.join_find.specs.crit_pairs.PeakList.{IsListed}
use Rattle.join_find.proofs.Firsts.{read_in}
use Rattle.conf_find.proofs.ForkPeaks.{IsOfPassed, passed_again}
use Rattle.join_find.proofs.crit_pairs.TableLaws.{pairs_count}
use Rattle.conf_find.proofs.KeptReach.{none_reached, none_marked}
use Rattle.conf_find.proofs.PeakList.{none_passed, one_more_passed, all_passed, behind_read}
use Rattle.conf_find.proofs.first_fork.first_fork.Goals.{After-pair-pair}
use Rattle.conf_find.proofs.first_fork.first_fork.Goals as goal

-- the peak, as it is read
here : (g : _) (c : After-pair-pair g) → slice_get c.args.peaks.now c.loop-n.n ≡ Some c.index-peaks-n.result
here g c = slice_get_read c.args.peaks.now _ c.loop-n.n c.index-peaks-n.result refl c.loop-n-test.true c.index-peaks-n.is

pub loop-n-init : goal.loop-n-init
loop-n-init g c =
    let rules = c.args.trs.now.rules in
    record {
      passed = none_passed (PartsNot g.M.Marks.never_meet rules) c.args.peaks.now;
      before = tt;
      sides = none_reached rules c.args.pairs.now.pool c.new-sides.result c.new-sides.ensures.lists (c.new-sides.ensures.ids c.args.pairs.now.pool) (c.new-sides.ensures.known rules);
      marks = none_marked g.M.Marks.has_mark g.M.Marks.of_pool rules c.new-sides.result c.new-marks.result c.new-sides.ensures.lists (c.new-marks.ensures rules c.new-sides.result.pool);
      continues = record { later = c.stopped.ensures.later; kept = c.stopped.ensures.kept };
    }

pub fork_at-requires-clause-listed : goal.fork_at-requires-clause-listed
fork_at-requires-clause-listed g c =
    let rules = c.args.trs.now.rules in
    let listed : IsListed rules c.index-peaks-n.result = record {
      peaks = c.args.peaks.now;
      lists = c.requires.critical;
      is_one = read_in c.args.peaks.now c.loop-n.n c.index-peaks-n.result c.loop-n-test.true c.index-peaks-n.is;
    } in
    rw c.in_ok-by_root.ensures listed

pub fork_at-requires-clause-peak : goal.fork_at-requires-clause-peak
fork_at-requires-clause-peak g c =
    c.critical_peaks_have_sides.ensures c.args.peaks.now c.requires.critical c.index-peaks-n.result
    (read_in c.args.peaks.now c.loop-n.n c.index-peaks-n.result c.loop-n-test.true c.index-peaks-n.is)

pub fork_at-requires-clause-sides : goal.fork_at-requires-clause-sides
fork_at-requires-clause-sides g c = rw (c.in_ok-by_root.ensures, c.pool-from.ensures) c.loop-n.invariant.sides

pub fork_at-requires-clause-marks : goal.fork_at-requires-clause-marks
fork_at-requires-clause-marks g c = rw c.in_ok-by_root.ensures c.loop-n.invariant.marks

pub returns-in-Some-2-clause-answer : goal.returns-in-Some-2-clause-answer
returns-in-Some-2-clause-answer g c = (
  c.index-peaks-n.result,
  behind_read (PartsNot g.M.Marks.never_meet c.args.trs.now.rules) c.args.peaks.now c.loop-n.n c.index-peaks-n.result c.loop-n-test.true c.index-peaks-n.is c.loop-n.invariant.passed,
  rw (c.in-Some-2.is, c.in_ok-by_root.ensures) at c.in_ok-found.ensures.fork,
)

pub loop-n-preserved : goal.loop-n-preserved
loop-n-preserved g c =
    let none = rw (c.in-None.is, c.in_ok-by_root.ensures) at c.in_ok-found.ensures.fork in
    record {
      passed = one_more_passed (PartsNot g.M.Marks.never_meet c.args.trs.now.rules) c.args.peaks.now c.loop-n.n c.index-peaks-n.result c.loop-n-test.true c.index-peaks-n.is none c.loop-n.invariant.passed;
      before = record { peak = c.index-peaks-n.result; stands = c.pair-pair.ensures c.args.peaks.now c.index-peaks-n.result c.requires.pairs (here g (goal.at.loop-n-preserved g c).After-pair-pair); passed = none };
      sides = rw (c.in_ok-by_root.ensures, c.pool-from.ensures) at c.in_ok-found.ensures.sides;
      marks = rw c.in_ok-by_root.ensures at c.in_ok-found.ensures.marks;
      continues = continues_on c.loop-n.invariant.continues (record { later = c.stopped-in-loop-n.ensures.later; kept = c.stopped-in-loop-n.ensures.kept });
    }

pub loop-n-preserved-then-have_same_ids : goal.loop-n-preserved-then-have_same_ids
loop-n-preserved-then-have_same_ids g c =
    let rules = c.args.trs.now.rules in
    let before : IsOfPassed g.M.Marks.never_meet rules c.args.pairs.now.pool c.in-Some.other = rw c.in-Some.is at c.loop-n.invariant.before in
    let stands = c.pair-pair.ensures c.args.peaks.now c.index-peaks-n.result c.requires.pairs (here g (goal.at.loop-n-preserved-then-have_same_ids g c).After-pair-pair) in
    let again = passed_again g.M.Marks.never_meet rules c.index-peaks-n.result c.args.pairs.now.pool c.in-Some.other c.pair-pair.result before (c.have_same_ids.ensures c.if-have_same_ids.true) stands in
    record {
      passed = one_more_passed (PartsNot g.M.Marks.never_meet rules) c.args.peaks.now c.loop-n.n c.index-peaks-n.result c.loop-n-test.true c.index-peaks-n.is again c.loop-n.invariant.passed;
      before = before;
      sides = c.loop-n.invariant.sides;
      marks = c.loop-n.invariant.marks;
      continues = continues_on c.loop-n.invariant.continues (record { later = c.stopped-in-loop-n.ensures.later; kept = c.stopped-in-loop-n.ensures.kept });
    }

pub returns-clause-answer : goal.returns-clause-answer
returns-clause-answer g c = all_passed (PartsNot g.M.Marks.never_meet c.args.trs.now.rules) c.args.peaks.now c.loop-n.n c.loop-n-test.false c.loop-n.invariant.passed

pub pair-pair-requires : goal.pair-pair-requires
pair-pair-requires g c = omega (arith, pairs_count c.requires.pairs, c.loop-n-test.true)

pub fork_at-requires-clause-pair : goal.fork_at-requires-clause-pair
fork_at-requires-clause-pair g c =
    rw c.pool-from.ensures (c.pair-pair.ensures c.args.peaks.now c.index-peaks-n.result c.requires.pairs (here g (goal.at.fork_at-requires-clause-pair g c).After-pair-pair))
