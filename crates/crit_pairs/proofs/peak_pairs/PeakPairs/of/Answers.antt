use Rattle.std.proofs.Common.{List, take, ap, sym, subst, ◌∙◌}
use Rattle.std.proofs.lemmas.List.{take_all}
use Rattle.term_pool.specs.Pooled.{StandsFor}
use Rattle.term_pool.proofs.Extending.{extends_on}
use Rattle.rewrite_core.specs.PlacedPeak.{PlacedPeak}
use Rattle.crit_pairs.specs.Table.{ArePairs, no_pair}
use Rattle.crit_pairs.specs.declared.table.PeakPair.{PeakPair}
use Rattle.crit_pairs.proofs.TableLaws.{pair_next}
use Rattle.crit_pairs.proofs.peak_pairs.PeakPairs.of.Goals as goal

pub loop-peak-init : goal.loop-peak-init
loop-peak-init g c =
    let P : List PeakPair → Type 0 = λ xs. ArePairs c.new-pool.result xs (take 0 c.args.peaks.now) in
    subst P (sym c.in_ok-pairs.ensures.items) no_pair

pub loop-peak-preserved : goal.loop-peak-preserved
loop-peak-preserved g c =
    let peak = c.peak-item.result in
    let first = c.intern.new.self in
    let second = c.intern-in-loop-peak.new.self in
    let left : StandsFor first c.in_ok-left.left peak.left = subst (StandsFor first c.in_ok-left.left) (c.term.ensures ∙ ap (λ (p : PlacedPeak). p.left) c.peak.view_is) c.in_ok-left.ensures.id in
    let right : StandsFor second c.in_ok-right.right peak.right = subst (StandsFor second c.in_ok-right.right) (c.term-in-loop-peak.ensures ∙ ap (λ (p : PlacedPeak). p.right) c.peak.view_is) c.in_ok-right.ensures.id in
    pair_next c.args.peaks.now c.loop-peak.peak-index peak c.loop-peak.pool second c.loop-peak.pairs.items _ _ c.loop-peak-test.true c.peak-item.is c.in_ok-push.ensures.items
    (extends_on c.loop-peak.pool first second c.in_ok-left.ensures.kept c.in_ok-right.ensures.kept) (c.in_ok-right.ensures.kept.kept _ _ left, right) c.loop-peak.invariant

pub returns : goal.returns
returns g c =
    let P : List PlacedPeak → Type 0 = ArePairs c.loop-peak.pool c.loop-peak.pairs.items in
    subst P (take_all c.loop-peak.peak-index c.args.peaks.now c.loop-peak-test.false) c.loop-peak.invariant
