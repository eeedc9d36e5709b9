use Rattle.std.proofs.Common.{◌≡◌, ◌+◌, ℕ, List, Ok, ap, arith, drop, get_or, map, subst, take}
use Rattle.std.proofs.lemmas.List.{drop_all}
use Rattle.std.proofs.lemmas.Option.{slice_get-get_or}
use Rattle.trs_defs.specs.System.{RewriteRule}
use Rattle.rewrite_core.specs.PlacedPeak.{PlacedPeak}
use Rattle.term_pool.specs.Pooled.{tree_at}
use Rattle.crit_pairs.specs.PeakList.{ListsPeaks}
use Rattle.crit_pairs.specs.Table.{ArePairs}
use Rattle.crit_pairs.specs.declared.table.PeakPair.{PeakPair}
use Rattle.completion.specs.declared.treating.Outcome.{Outcome as CodeOutcome}
use Rattle.completion.specs.declared.treating.Outcome.TheVariants as outcome
use Rattle.completion.specs.CompletionRun.{Treats, sides}
use Rattle.completion.specs.GreaterBy.{GreaterBy}
use Rattle.completion.specs.MetTerms.{KeepsBase}
use Rattle.completion.specs.Taking.{at_peaks}
use Rattle.completion.specs.Treating.{pair_of, IsOutcome}
use Rattle.completion.proofs.LoopLaws.{find_next, find_rule, find_end, find_none}
use Rattle.completion.proofs.MetLaws.{base_itself, base_kept}
use Rattle.crit_pairs.proofs.TableLaws.{pairs_count}
use Rattle.completion.proofs.PairLaws.{IsAtHand, at_hand, of_hand, pairs_left, keeps_on}
use Rattle.completion.proofs.closing.find_pair.Goals.{After-make_room, In_ok-more}
use Rattle.completion.proofs.closing.find_pair.Goals as goal

pub loop-pair-init : goal.loop-pair-init
loop-pair-init c = record { on = λ peaks lists stand made f. f; kept = base_itself c.args.met.now; met = c.requires.met }

pub make_room-requires : goal.make_room-requires
make_room-requires c = c.loop-pair.invariant.met.within

-- the pair of a number
abbrev pair_at : List PeakPair → ℕ → PeakPair
pair_at pairs k = get_or pairs k (record { left = 0; right = 0 })

hand : (c : After-make_room) (peaks : List PlacedPeak) → ListsPeaks c.args.system.now.rules (Ok peaks) → ArePairs (take c.args.met.now.base c.args.met.now.pool) c.args.pairs.now peaks
    → IsAtHand c.args.system.now c.make_room.new.self.pool peaks c.loop-pair.pair-index (pair_at c.args.pairs.now c.loop-pair.pair-index)
hand c peaks lists stand =
    let kept = keeps_on c.args.met.now c.loop-pair.met c.make_room.new.self c.loop-pair.invariant.kept c.make_room.ensures.kept in
    at_hand c.args.system.now c.growing_systems_are_valid.ensures.valid (take c.args.met.now.base c.args.met.now.pool) c.make_room.new.self.pool c.args.pairs.now peaks c.loop-pair.pair-index
    (pair_at c.args.pairs.now c.loop-pair.pair-index) lists stand kept.kept
    (slice_get-get_or c.args.pairs.now c.loop-pair.pair-index (record { left = 0; right = 0 }) c.loop-pair-test.true)

pub treat_ids-requires-clause-left : goal.treat_ids-requires-clause-left
treat_ids-requires-clause-left c =
    (hand (goal.at.treat_ids-requires-clause-left c).After-make_room c.requires.pairs.peaks c.requires.pairs.lists c.requires.pairs.stand).left_over

pub treat_ids-requires-clause-right : goal.treat_ids-requires-clause-right
treat_ids-requires-clause-right c =
    (hand (goal.at.treat_ids-requires-clause-right c).After-make_room c.requires.pairs.peaks c.requires.pairs.lists c.requires.pairs.stand).right_over

pub treat_ids-requires-clause-met : goal.treat_ids-requires-clause-met
treat_ids-requires-clause-met c = c.make_room.ensures.met _ c.loop-pair.invariant.met

-- the base after the pair
kept_on : (c : In_ok-more) → KeepsBase c.args.met.now c.treat_ids.new.met
kept_on c =
    keeps_on c.args.met.now c.make_room.new.self c.treat_ids.new.met (keeps_on c.args.met.now c.loop-pair.met c.make_room.new.self c.loop-pair.invariant.kept c.make_room.ensures.kept)
    (base_kept c.make_room.new.self c.treat_ids.new.met c.in_ok-more.ensures.base c.in_ok-more.ensures.kept)

-- what became of the peak
treated : (c : In_ok-more) (peaks : List PlacedPeak) (h : IsAtHand c.args.system.now c.make_room.new.self.pool peaks c.loop-pair.pair-index (pair_at c.args.pairs.now c.loop-pair.pair-index))
    (made : CodeOutcome) → c.in_ok-more.field-0 ≡ made
    → IsOutcome (Treats c.args.system.now.arities (GreaterBy c.args.order.now) c.args.system.now.rules c.loop-pair.left (sides h.peak)) made
treated c peaks h made is =
    let x = pair_at c.args.pairs.now c.loop-pair.pair-index in
    let P : RewriteRule → Type 0 = λ p. IsOutcome (Treats c.args.system.now.arities (GreaterBy c.args.order.now) c.args.system.now.rules c.loop-pair.left p) made in
    let R : CodeOutcome → Type 0 = λ o.
    IsOutcome (Treats c.args.system.now.arities (GreaterBy c.args.order.now) c.args.system.now.rules c.loop-pair.left
    (pair_of (tree_at c.make_room.new.self.pool x.left) (tree_at c.make_room.new.self.pool x.right))) o in
    of_hand c.args.system.now c.make_room.new.self.pool peaks c.loop-pair.pair-index x h P (subst R is c.in_ok-more.ensures.outcome)

pub returns-in-Added-clause-looks : goal.returns-in-Added-clause-looks
returns-in-Added-clause-looks c =
    let m = (goal.at.returns-in-Added-clause-looks c).In_ok-more in
    let peaks = c.requires.pairs.peaks in
    let h = hand (goal.at.returns-in-Added-clause-looks c).After-make_room peaks c.requires.pairs.lists c.requires.pairs.stand in
    at_peaks peaks c.requires.pairs.lists
    (find_rule (GreaterBy c.args.order.now) c.args.system.now (map sides peaks) c.args.units c.loop-pair.left (map sides (drop c.loop-pair.pair-index peaks)) (sides h.peak)
    (map sides (drop (c.loop-pair.pair-index + 1) peaks)) (pairs_left peaks c.loop-pair.pair-index h.peak h.there) (c.loop-pair.invariant.on peaks c.requires.pairs.lists c.requires.pairs.stand)
    c.in-Added.rule c.in-Added.more (treated m peaks h (outcome.Added c.in-Added.rule c.in-Added.more) c.in-Added.is))

pub returns-in-Added-clause-kept : goal.returns-in-Added-clause-kept
returns-in-Added-clause-kept c = kept_on (goal.at.returns-in-Added-clause-kept c).In_ok-more

pub returns-in-Ended-clause-looks : goal.returns-in-Ended-clause-looks
returns-in-Ended-clause-looks c =
    let m = (goal.at.returns-in-Ended-clause-looks c).In_ok-more in
    let peaks = c.requires.pairs.peaks in
    let h = hand (goal.at.returns-in-Ended-clause-looks c).After-make_room peaks c.requires.pairs.lists c.requires.pairs.stand in
    at_peaks peaks c.requires.pairs.lists
    (find_end (GreaterBy c.args.order.now) c.args.system.now (map sides peaks) c.args.units c.loop-pair.left (map sides (drop c.loop-pair.pair-index peaks)) (sides h.peak)
    (map sides (drop (c.loop-pair.pair-index + 1) peaks)) (pairs_left peaks c.loop-pair.pair-index h.peak h.there) (c.loop-pair.invariant.on peaks c.requires.pairs.lists c.requires.pairs.stand)
    c.in-Ended.why (treated m peaks h (outcome.Ended c.in-Ended.why) c.in-Ended.is))

pub returns-in-Ended-clause-kept : goal.returns-in-Ended-clause-kept
returns-in-Ended-clause-kept c = kept_on (goal.at.returns-in-Ended-clause-kept c).In_ok-more

pub loop-pair-preserved : goal.loop-pair-preserved
loop-pair-preserved c =
    let m = (goal.at.loop-pair-preserved c).In_ok-more in
    let a = (goal.at.loop-pair-preserved c).After-make_room in
    record {
      on = λ peaks lists stand.
          let h = hand a peaks lists stand in
          find_next (GreaterBy c.args.order.now) c.args.system.now (map sides peaks) c.args.units c.loop-pair.left (map sides (drop c.loop-pair.pair-index peaks)) (sides h.peak)
          (map sides (drop (c.loop-pair.pair-index + 1) peaks)) (pairs_left peaks c.loop-pair.pair-index h.peak h.there) (c.loop-pair.invariant.on peaks lists stand) c.in-Passed.more
          (treated m peaks h (outcome.Passed c.in-Passed.more) c.in-Passed.is);
      kept = kept_on m;
      met = c.in_ok-more.ensures.met;
    }

pub returns-clause-looks : goal.returns-clause-looks
returns-clause-looks c =
    let peaks = c.requires.pairs.peaks in
    let count = pairs_count c.requires.pairs.stand in
    at_peaks peaks c.requires.pairs.lists
    (find_none (GreaterBy c.args.order.now) c.args.system.now (map sides peaks) c.args.units c.loop-pair.left (map sides (drop c.loop-pair.pair-index peaks))
    (ap (map sides) (drop_all c.loop-pair.pair-index peaks (omega (arith, count, c.loop-pair-test.false)))) (c.loop-pair.invariant.on peaks c.requires.pairs.lists c.requires.pairs.stand))
