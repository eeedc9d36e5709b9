use Rattle.std.proofs.Common.{List, [], length, ◌<◌, sym, subst, arith}
use Rattle.std.specs.Global.{Vec}
use Rattle.trs_defs.specs.Tree.{Tree}
use Rattle.trs_defs.specs.Path.{PlacedRule}
use Rattle.term_pool.specs.Pooled.{StandsFor, tree_at}
use Rattle.term_pool.proofs.PoolTrees.{stands_within}
use Rattle.closed_pairs.specs.ParallelClosed.{paths_of}
use Rattle.assign_search.proofs.Continuing.{continues_on}
use Rattle.join_find.specs.First.{Along, along_end}
use Rattle.term_pool.specs.Crossing.{AreKnownIds}
use Rattle.join_find.specs.Sides.{HasSides}
use Rattle.join_find.specs.ParallelRow.{IsParallelClosing, not_closed}
use Rattle.join_find.specs.LastSteps.{AreLastSteps}
use Rattle.join_find.proofs.Firsts.{along_all}
use Rattle.join_find.proofs.KeptSteps.{last_still}
use Rattle.closed_pairs.proofs.crit_pairs.TableLaws.{pairs_count}
use Rattle.join_find.proofs.PairPlaces.{IsPeakOf, peak_of, side_at, stands_too}
use Rattle.join_find.proofs.ParallelPeaks.{one_more_closing, closes_peak, none_closes_peak}
use Rattle.join_find.proofs.parallel.parallel_among.Goals.{After-pair, In_ok-ids}
use Rattle.join_find.proofs.parallel.parallel_among.Goals as goal

pub loop-n-init : goal.loop-n-init
loop-n-init g c =
    let P : List (Vec PlacedRule) → Type 0 = λ xs. Along (IsParallelClosing c.args.trs.now.rules) [] (paths_of xs) in
    record {
      joined = subst P (sym c.new-steps.ensures.items) along_end;
      known = c.new-known.ensures c.args.pairs.now.pool c.new-pool.result;
      last = c.new-last.ensures c.args.trs.now.rules c.new-pool.result;
      continues = record { later = c.stopped.ensures.later; kept = c.stopped.ensures.kept };
    }

pub pair-requires : goal.pair-requires
pair-requires g c = omega (arith, pairs_count c.requires.pairs, c.loop-n-test.true)

-- the peak of this number
peak : (g : _) (c : After-pair g) → IsPeakOf c.args.pairs.now.pool c.args.peaks.now c.loop-n.n c.pair.result
peak g c = peak_of c.args.pairs.now c.args.peaks.now c.loop-n.n c.pair.result c.loop-n-test.true c.requires.pairs c.pair.ensures

pub own_ids-requires-clause-left : goal.own_ids-requires-clause-left
own_ids-requires-clause-left g c =
    let p = peak g (goal.at.own_ids-requires-clause-left g c).After-pair in
    let N : List Tree → Type 0 = λ pool. c.pair.result.left < length pool in
    subst N (sym c.pool-from.ensures) (stands_within c.args.pairs.now.pool c.pair.result.left p.peak.left p.stand.0)

pub own_ids-requires-clause-right : goal.own_ids-requires-clause-right
own_ids-requires-clause-right g c =
    let p = peak g (goal.at.own_ids-requires-clause-right g c).After-pair in
    let N : List Tree → Type 0 = λ pool. c.pair.result.right < length pool in
    subst N (sym c.pool-from.ensures) (stands_within c.args.pairs.now.pool c.pair.result.right p.peak.right p.stand.1)

pub own_ids-requires-clause-known : goal.own_ids-requires-clause-known
own_ids-requires-clause-known g c = rw c.pool-from.ensures c.loop-n.invariant.known

-- its sides have these ids
left_stands : (g : _) (c : In_ok-ids g) (p : IsPeakOf c.args.pairs.now.pool c.args.peaks.now c.loop-n.n c.pair.result) → StandsFor c.own_ids.new.pool c.in_ok-ids.ids.0 p.peak.left
left_stands g c p =
    let S : List Tree → Type 0 = λ pool. StandsFor c.own_ids.new.pool c.in_ok-ids.ids.0 (tree_at pool c.pair.result.left) in
    stands_too c.args.pairs.now.pool c.own_ids.new.pool c.pair.result.left c.in_ok-ids.ids.0 p.peak.left p.stand.0 (subst S c.pool-from.ensures c.in_ok-ids.ensures.left)

right_stands : (g : _) (c : In_ok-ids g) (p : IsPeakOf c.args.pairs.now.pool c.args.peaks.now c.loop-n.n c.pair.result) → StandsFor c.own_ids.new.pool c.in_ok-ids.ids.1 p.peak.right
right_stands g c p =
    let S : List Tree → Type 0 = λ pool. StandsFor c.own_ids.new.pool c.in_ok-ids.ids.1 (tree_at pool c.pair.result.right) in
    stands_too c.args.pairs.now.pool c.own_ids.new.pool c.pair.result.right c.in_ok-ids.ids.1 p.peak.right p.stand.1 (subst S c.pool-from.ensures c.in_ok-ids.ensures.right)

-- the sides of the peak of this number
sides : (g : _) (c : After-pair g) → HasSides (peak g c).peak
sides g c = c.critical_peaks_have_sides.ensures c.args.peaks.now c.requires.critical (peak g c).peak (peak g c).within

pub closing-requires-clause-left : goal.closing-requires-clause-left
closing-requires-clause-left g c =
    let a = (goal.at.closing-requires-clause-left g c).After-pair in
    let b = (goal.at.closing-requires-clause-left g c).In_ok-ids in
    side_at c.own_ids.new.pool c.in_ok-ids.ids.0 (peak g a).peak.left (left_stands g b (peak g a)) (sides g a).left

pub closing-requires-clause-right : goal.closing-requires-clause-right
closing-requires-clause-right g c =
    let a = (goal.at.closing-requires-clause-right g c).After-pair in
    let b = (goal.at.closing-requires-clause-right g c).In_ok-ids in
    side_at c.own_ids.new.pool c.in_ok-ids.ids.1 (peak g a).peak.right (right_stands g b (peak g a)) (sides g a).right

pub closing-requires-clause-last : goal.closing-requires-clause-last
closing-requires-clause-last g c = last_still c.args.trs.now.rules c.loop-n.pool c.own_ids.new.pool c.loop-n.last c.in_ok-ids.ensures.kept c.loop-n.invariant.last

pub returns-then-stopped-2-clause-answer : goal.returns-then-stopped-2-clause-answer
returns-then-stopped-2-clause-answer g c = omega (arith, c.loop-n.invariant.continues.later, c.stopped-in-loop-n.ensures.rose c.if-stopped-2.true)

pub returns-in-None-clause-answer : goal.returns-in-None-clause-answer
returns-in-None-clause-answer g c =
    let p = peak g (goal.at.returns-in-None-clause-answer g c).After-pair in
    let b = (goal.at.returns-in-None-clause-answer g c).In_ok-ids in
    not_closed (p.peak, p.within, none_closes_peak c.args.trs.now.rules c.own_ids.new.pool c.in_ok-ids.ids p.peak (left_stands g b p) (right_stands g b p) (rw c.in-None.is at c.in_ok-step.ensures.step))

pub loop-n-preserved : goal.loop-n-preserved
loop-n-preserved g c =
    let p = peak g (goal.at.loop-n-preserved g c).After-pair in
    let b = (goal.at.loop-n-preserved g c).In_ok-ids in
    let closing = closes_peak c.args.trs.now.rules c.own_ids.new.pool c.in_ok-ids.ids p.peak (left_stands g b p) (right_stands g b p) c.in-Some.step.items (rw c.in-Some.is at c.in_ok-step.ensures.step) in
    let K : List Tree → Type 0 = λ pool. AreKnownIds c.args.pairs.now.pool pool c.own_ids.new.known in
    let F : List Tree → Type 0 = λ from. AreKnownIds from c.own_ids.new.pool c.own_ids.new.known in
    let L : List Tree → Type 0 = λ pool. AreLastSteps c.args.trs.now.rules pool c.closing.new.last in
    record {
      joined = one_more_closing c.args.trs.now.rules c.args.peaks.now c.loop-n.steps.items c.push.new.self.items c.loop-n.n p.peak c.in-Some.step
          c.loop-n-test.true p.read c.loop-n.invariant.joined closing c.in_ok-push-in-Some.ensures.items;
      known = subst K (sym c.in_ok-step.ensures.released) (subst F c.pool-from.ensures c.in_ok-ids.ensures.known);
      last = subst L (sym c.in_ok-step.ensures.released) c.in_ok-step.ensures.last;
      continues = continues_on c.loop-n.invariant.continues (record { later = c.stopped-in-loop-n.ensures.later; kept = c.stopped-in-loop-n.ensures.kept });
    }

pub returns-clause-answer : goal.returns-clause-answer
returns-clause-answer g c = record {
  linear = c.are_left_linear.ensures.linear (cc (c.if-not-are_left_linear.false));
  closed = along_all (IsParallelClosing c.args.trs.now.rules) c.args.peaks.now (paths_of c.loop-n.steps.items) c.loop-n.n c.loop-n-test.false c.loop-n.invariant.joined;
}
