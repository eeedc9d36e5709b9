use Rattle.std.proofs.Common.{◌≡◌, ◌≤◌, subst, sym, ap, refl, ◌∙◌, arith, map, length, option_map}
use Rattle.std.proofs.lemmas.List.{take_all, length-map}
use Rattle.std.proofs.lemmas.Option.{same_Some, slice_get-map, slice_get_read}
use Rattle.pair_theory.specs.DependencyPair.{dependency_pairs}
use Rattle.dp_core.specs.LeftNumbers.{AreLeftsOf}
use Rattle.dp_core.proofs.PairSides.{pair_there, one_more_taken}
use Rattle.dp_core.proofs.LeftNumbering.{rule_of, are_lefts}
use Rattle.dp_core.proofs.prepared.Pairs.keeping.Goals as goal

pub unreachable-requires : goal.unreachable-requires
unreachable-requires c =
    let p = pair_there c.placed_pairs_are_the_pairs.ensures.all c.placed_pairs_are_the_pairs.ensures.order c.args.trs.now c.systems_are_valid.ensures.valid c.args.all.now c.requires.all c.loop-p.p-index c.p-item.result c.loop-p-test.true c.p-item.is in
    c.in_default.not-Some p.0 (c.sides_of.ensures p.0 p.2)

pub loop-p-preserved : goal.loop-p-preserved
loop-p-preserved c =
    let p = pair_there c.placed_pairs_are_the_pairs.ensures.all c.placed_pairs_are_the_pairs.ensures.order c.args.trs.now c.systems_are_valid.ensures.valid c.args.all.now c.requires.all c.loop-p.p-index c.p-item.result c.loop-p-test.true c.p-item.is in
    let same = same_Some c.in-Some.both p.0 (sym c.in-Some.is ∙ c.sides_of.ensures p.0 p.2) in
    let rules = map rule_of c.args.all.now in (
      one_more_taken (dependency_pairs c.args.trs.now.rules) c.loop-p.sides.items c.push.new.self.items c.loop-p.p-index p.0 c.in-Some.both p.1 same c.loop-p.invariant.0 c.in_ok-push.ensures.items,
      one_more_taken rules c.loop-p.numbers.items c.push-in-loop-p.new.self.items c.loop-p.p-index c.p-item.result.rule c.p.inside.rule
          (slice_get-map rule_of c.args.all.now c.loop-p.p-index ∙ ap (option_map rule_of) (slice_get_read c.args.all.now (length c.args.all.now) c.loop-p.p-index c.p-item.result refl c.loop-p-test.true c.p-item.is))
          (ap rule_of c.p.view_is) c.loop-p.invariant.1 c.in_ok-push-2.ensures.items,
    )

pub invariant_of-result : goal.invariant_of-result
invariant_of-result c =
    let all = c.args.all.now in
    let rules = map rule_of all in
    let pairs = dependency_pairs c.args.trs.now.rules in
    let whole = c.placed_pairs_are_the_pairs.ensures.all in
    let as_many : length pairs ≤ c.loop-p.p-index = omega (arith, whole c.args.trs.now c.systems_are_valid.ensures.valid, ap length c.requires.all, c.loop-p-test.false) in
    let some_rules : length rules ≤ c.loop-p.p-index = omega (arith, length-map all rule_of, c.loop-p-test.false) in
    let sides_are : c.loop-p.sides.items ≡ pairs = c.loop-p.invariant.0 ∙ take_all c.loop-p.p-index pairs as_many in
    let numbers_are : c.loop-p.numbers.items ≡ rules = c.loop-p.invariant.1 ∙ take_all c.loop-p.p-index rules some_rules in
    subst (AreLeftsOf (record { numbers = c.loop-p.numbers; kept = c.args.kept })) (sym sides_are)
    (are_lefts whole c.placed_pairs_are_the_pairs.ensures.order c.args.trs.now c.systems_are_valid.ensures.valid all c.requires.all c.args.kept c.requires.kept c.loop-p.numbers numbers_are)
