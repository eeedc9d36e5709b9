use Rattle.std.proofs.Common.{List, [], sym, subst, arith}
use Rattle.trs_defs.specs.Tree.{Tree}
use Rattle.closed_pairs.specs.StronglyClosed.{FourPaths}
use Rattle.assign_search.proofs.Continuing.{continues_on}
use Rattle.join_find.specs.First.{Along, along_end}
use Rattle.join_find.specs.StrongRow.{IsFirstFour, not_joined}
use Rattle.closed_pairs.specs.crit_pairs.Table.{IsPair}
use Rattle.join_find.specs.Sides.{HasSides}
use Rattle.join_find.specs.ReachedSides.{IsNarrowAt}
use Rattle.join_find.proofs.Firsts.{along_one_more, along_all}
use Rattle.join_find.proofs.KeptOfSides.{narrow_at}
use Rattle.closed_pairs.proofs.crit_pairs.TableLaws.{pairs_count}
use Rattle.join_find.proofs.PairPlaces.{IsPeakOf, peak_of}
use Rattle.join_find.proofs.strong.strong_among.Goals.{After-pair}
use Rattle.join_find.proofs.strong.strong_among.Goals as goal

pub loop-n-init : goal.loop-n-init
loop-n-init g c =
    let P : List FourPaths → Type 0 = λ fs. Along (IsFirstFour c.args.trs.now.rules) [] fs in
    record {
      joined = subst P (sym c.new-fours.ensures.items) along_end;
      sides = c.new-sides.ensures.sides c.args.trs.now.rules;
      ids = c.new-sides.ensures.ids c.args.pairs.now.pool;
      continues = record { later = c.stopped.ensures.later; kept = c.stopped.ensures.kept };
    }

-- the peak of this number
peak : (g : _) (c : After-pair g) → IsPeakOf c.args.pairs.now.pool c.args.peaks.now c.loop-n.n c.pair.result
peak g c = peak_of c.args.pairs.now c.args.peaks.now c.loop-n.n c.pair.result c.loop-n-test.true c.requires.pairs c.pair.ensures

pub pair-requires : goal.pair-requires
pair-requires g c = omega (arith, pairs_count c.requires.pairs, c.loop-n-test.true)

-- its sides stand there
stands_from : (g : _) (c : After-pair g) → IsPair c.pool-from.result.now c.pair.result (peak g c).peak
stands_from g c =
    let I : List Tree → Type 0 = λ pool. IsPair pool c.pair.result (peak g c).peak in
    subst I (sym c.pool-from.ensures) (peak g c).stand

-- and keep the limits
sides : (g : _) (c : After-pair g) → HasSides (peak g c).peak
sides g c = c.critical_peaks_have_sides.ensures c.args.peaks.now c.requires.critical (peak g c).peak (peak g c).within

pub first_four-requires-clause-left : goal.first_four-requires-clause-left
first_four-requires-clause-left g c =
    let a = (goal.at.first_four-requires-clause-left g c).After-pair in
    let N : List Tree → Type 0 = λ pool. IsNarrowAt pool c.pair.result.left in
    subst N (sym c.pool-from.ensures) (narrow_at c.args.pairs.now.pool c.pair.result.left (peak g a).peak.left (peak g a).stand.0 (sides g a).left)

pub first_four-requires-clause-right : goal.first_four-requires-clause-right
first_four-requires-clause-right g c =
    let a = (goal.at.first_four-requires-clause-right g c).After-pair in
    let N : List Tree → Type 0 = λ pool. IsNarrowAt pool c.pair.result.right in
    subst N (sym c.pool-from.ensures) (narrow_at c.args.pairs.now.pool c.pair.result.right (peak g a).peak.right (peak g a).stand.1 (sides g a).right)

pub first_four-requires-clause-sides : goal.first_four-requires-clause-sides
first_four-requires-clause-sides g c = rw c.in_ok-by_root.ensures c.loop-n.invariant.sides

pub first_four-requires-clause-ids : goal.first_four-requires-clause-ids
first_four-requires-clause-ids g c = rw c.pool-from.ensures c.loop-n.invariant.ids

pub returns-in-None-clause-answer : goal.returns-in-None-clause-answer
returns-in-None-clause-answer g c =
    let p = peak g (goal.at.returns-in-None-clause-answer g c).After-pair in
    not_joined (p.peak, p.within, (rw (c.in-None.is, c.in_ok-by_root.ensures) at c.in_ok-four.ensures.four) p.peak (stands_from g (goal.at.returns-in-None-clause-answer g c).After-pair))

pub loop-n-preserved : goal.loop-n-preserved
loop-n-preserved g c =
    let p = peak g (goal.at.loop-n-preserved g c).After-pair in
    record {
      joined = along_one_more (IsFirstFour c.args.trs.now.rules) c.args.peaks.now c.loop-n.fours.items c.push.new.self.items c.loop-n.n p.peak _
          c.loop-n-test.true p.read c.loop-n.invariant.joined ((rw (c.in-Some.is, c.in_ok-by_root.ensures) at c.in_ok-four.ensures.four) p.peak (stands_from g (goal.at.loop-n-preserved g c).After-pair)) c.in_ok-push-in-Some.ensures.items;
      sides = rw c.in_ok-by_root.ensures at c.in_ok-four.ensures.sides;
      ids = rw c.pool-from.ensures at c.in_ok-four.ensures.ids;
      continues = continues_on c.loop-n.invariant.continues (record { later = c.stopped-in-loop-n.ensures.later; kept = c.stopped-in-loop-n.ensures.kept });
    }

pub returns-then-stopped-2-clause-answer : goal.returns-then-stopped-2-clause-answer
returns-then-stopped-2-clause-answer g c = omega (arith, c.loop-n.invariant.continues.later, c.stopped-in-loop-n.ensures.rose c.if-stopped-2.true)

pub returns-clause-answer : goal.returns-clause-answer
returns-clause-answer g c = record {
  linear = c.are_linear.ensures.linear (cc (c.if-not-are_linear.false));
  joined = along_all (IsFirstFour c.args.trs.now.rules) c.args.peaks.now c.loop-n.fours.items c.loop-n.n c.loop-n-test.false c.loop-n.invariant.joined;
}
