use Rattle.std.proofs.Common.{◌≡◌, ◌+◌, ◌∙◌, ap, drop, map, subst, sym}
use Rattle.completion.specs.Taking.{IsTermOver}
use Rattle.std.proofs.lemmas.List.{drop_all}
use Rattle.rewrite_core.specs.PlacedPeak.{PlacedPeak}
use Rattle.trs_core.specs.View.{tree}
use Rattle.trs_defs.specs.Tree.{Tree}
use Rattle.completion.specs.declared.treating.Outcome.{Outcome as CodeOutcome}
use Rattle.completion.specs.declared.treating.Outcome.TheVariants as outcome
use Rattle.completion.specs.CompletionRun.{Treats, sides}
use Rattle.completion.specs.GreaterBy.{GreaterBy}
use Rattle.completion.specs.Treating.{pair_of, IsOutcome}
use Rattle.completion.proofs.LoopLaws.{read_pair, next_pairs, find_next, find_rule, find_end, find_none}
use Rattle.completion.proofs.PairLaws.{keeps_on}
use Rattle.completion.proofs.closing.find.Goals as goal

pub returns-in-Added-clause-kept : goal.returns-in-Added-clause-kept
returns-in-Added-clause-kept g c = keeps_on c.args.met.now c.loop-peak.met c.treat.new.met c.loop-peak.invariant.kept c.in_ok-more.ensures.kept

pub returns-in-Ended-clause-kept : goal.returns-in-Ended-clause-kept
returns-in-Ended-clause-kept g c = keeps_on c.args.met.now c.loop-peak.met c.treat.new.met c.loop-peak.invariant.kept c.in_ok-more.ensures.kept

pub treat-requires-clause-left : goal.treat-requires-clause-left
treat-requires-clause-left g c =
    let left : tree c.term.result.now ≡ c.peak-item.result.left = c.term.ensures ∙ ap (λ (p : PlacedPeak). p.left) c.peak.view_is in
    subst (IsTermOver c.args.system.now.arities) (sym left)
    (read_pair c.args.system.now.arities c.args.peaks.now c.loop-peak.peak-index c.peak-item.result c.requires.pairs c.loop-peak-test.true c.peak-item.is).0

pub treat-requires-clause-right : goal.treat-requires-clause-right
treat-requires-clause-right g c =
    let right : tree c.term-in-loop-peak.result.now ≡ c.peak-item.result.right = c.term-in-loop-peak.ensures ∙ ap (λ (p : PlacedPeak). p.right) c.peak.view_is in
    subst (IsTermOver c.args.system.now.arities) (sym right)
    (read_pair c.args.system.now.arities c.args.peaks.now c.loop-peak.peak-index c.peak-item.result c.requires.pairs c.loop-peak-test.true c.peak-item.is).1

pub returns-in-Added-clause-outcome : goal.returns-in-Added-clause-outcome
returns-in-Added-clause-outcome g c =
    let T : CodeOutcome → Tree → Tree → Type 0 = λ made s t. IsOutcome (Treats c.args.system.now.arities (GreaterBy c.args.order.now) c.args.system.now.rules c.loop-peak.left (pair_of s t)) made in
    let R : CodeOutcome → Type 0 = λ made. T made (tree c.term.result.now) (tree c.term-in-loop-peak.result.now) in
    let left : tree c.term.result.now ≡ c.peak-item.result.left = c.term.ensures ∙ ap (λ (p : PlacedPeak). p.left) c.peak.view_is in
    let right : tree c.term-in-loop-peak.result.now ≡ c.peak-item.result.right = c.term-in-loop-peak.ensures ∙ ap (λ (p : PlacedPeak). p.right) c.peak.view_is in
    find_rule (GreaterBy c.args.order.now) c.args.system.now (map sides c.args.peaks.now) c.args.units c.loop-peak.left (map sides (drop c.loop-peak.peak-index c.args.peaks.now)) (sides c.peak-item.result)
    (map sides (drop (c.loop-peak.peak-index + 1) c.args.peaks.now)) (next_pairs c.args.peaks.now c.loop-peak.peak-index c.peak-item.result c.loop-peak-test.true c.peak-item.is)
    c.loop-peak.invariant.on c.in-Added.rule c.in-Added.more
    (subst (T (outcome.Added c.in-Added.rule c.in-Added.more) c.peak-item.result.left) right (subst (λ s. T (outcome.Added c.in-Added.rule c.in-Added.more) s (tree c.term-in-loop-peak.result.now)) left (subst R c.in-Added.is c.in_ok-more.ensures.outcome)))

pub returns-in-Ended-clause-outcome : goal.returns-in-Ended-clause-outcome
returns-in-Ended-clause-outcome g c =
    let T : CodeOutcome → Tree → Tree → Type 0 = λ made s t. IsOutcome (Treats c.args.system.now.arities (GreaterBy c.args.order.now) c.args.system.now.rules c.loop-peak.left (pair_of s t)) made in
    let R : CodeOutcome → Type 0 = λ made. T made (tree c.term.result.now) (tree c.term-in-loop-peak.result.now) in
    let left : tree c.term.result.now ≡ c.peak-item.result.left = c.term.ensures ∙ ap (λ (p : PlacedPeak). p.left) c.peak.view_is in
    let right : tree c.term-in-loop-peak.result.now ≡ c.peak-item.result.right = c.term-in-loop-peak.ensures ∙ ap (λ (p : PlacedPeak). p.right) c.peak.view_is in
    find_end (GreaterBy c.args.order.now) c.args.system.now (map sides c.args.peaks.now) c.args.units c.loop-peak.left (map sides (drop c.loop-peak.peak-index c.args.peaks.now)) (sides c.peak-item.result)
    (map sides (drop (c.loop-peak.peak-index + 1) c.args.peaks.now)) (next_pairs c.args.peaks.now c.loop-peak.peak-index c.peak-item.result c.loop-peak-test.true c.peak-item.is)
    c.loop-peak.invariant.on c.in-Ended.why
    (subst (T (outcome.Ended c.in-Ended.why) c.peak-item.result.left) right (subst (λ s. T (outcome.Ended c.in-Ended.why) s (tree c.term-in-loop-peak.result.now)) left (subst R c.in-Ended.is c.in_ok-more.ensures.outcome)))

pub loop-peak-preserved : goal.loop-peak-preserved
loop-peak-preserved g c =
    let T : CodeOutcome → Tree → Tree → Type 0 = λ made s t. IsOutcome (Treats c.args.system.now.arities (GreaterBy c.args.order.now) c.args.system.now.rules c.loop-peak.left (pair_of s t)) made in
    let R : CodeOutcome → Type 0 = λ made. T made (tree c.term.result.now) (tree c.term-in-loop-peak.result.now) in
    let left : tree c.term.result.now ≡ c.peak-item.result.left = c.term.ensures ∙ ap (λ (p : PlacedPeak). p.left) c.peak.view_is in
    let right : tree c.term-in-loop-peak.result.now ≡ c.peak-item.result.right = c.term-in-loop-peak.ensures ∙ ap (λ (p : PlacedPeak). p.right) c.peak.view_is in
    record {
      on = find_next (GreaterBy c.args.order.now) c.args.system.now (map sides c.args.peaks.now) c.args.units c.loop-peak.left (map sides (drop c.loop-peak.peak-index c.args.peaks.now)) (sides c.peak-item.result)
          (map sides (drop (c.loop-peak.peak-index + 1) c.args.peaks.now)) (next_pairs c.args.peaks.now c.loop-peak.peak-index c.peak-item.result c.loop-peak-test.true c.peak-item.is)
          c.loop-peak.invariant.on c.in-Passed.more
          (subst (T (outcome.Passed c.in-Passed.more) c.peak-item.result.left) right (subst (λ s. T (outcome.Passed c.in-Passed.more) s (tree c.term-in-loop-peak.result.now)) left (subst R c.in-Passed.is c.in_ok-more.ensures.outcome)));
      kept = keeps_on c.args.met.now c.loop-peak.met c.treat.new.met c.loop-peak.invariant.kept c.in_ok-more.ensures.kept;
      met = c.in_ok-more.ensures.met;
    }

pub returns-clause-outcome : goal.returns-clause-outcome
returns-clause-outcome g c =
    find_none (GreaterBy c.args.order.now) c.args.system.now (map sides c.args.peaks.now) c.args.units c.loop-peak.left (map sides (drop c.loop-peak.peak-index c.args.peaks.now))
    (ap (map sides) (drop_all c.loop-peak.peak-index c.args.peaks.now c.loop-peak-test.false)) c.loop-peak.invariant.on
