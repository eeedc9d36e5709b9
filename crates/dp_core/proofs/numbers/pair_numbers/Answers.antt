use Rattle.std.proofs.Common.{◌≡◌, length, ap, arith, ◌∙◌}
use Rattle.pair_theory.specs.DependencyPair.{dependency_pairs}
use Rattle.dp_core.specs.PlacedPairs.{placed_pairs}
use Rattle.dp_core.proofs.AllNumbers.{few_pairs, one_number_more, all_numbers}
use Rattle.dp_core.proofs.numbers.pair_numbers.Goals as goal

pub overflow_cast-n : goal.overflow_cast-n
overflow_cast-n c =
    let few = few_pairs c.args.trs.now.rules in
    let nodes = c.systems_are_valid.ensures.limits.nodes in
    let same : length c.args.all.now ≡ length (placed_pairs c.args.trs.now.rules) = ap length c.requires in
    omega (arith, few, nodes, same, c.loop-n-test.true)

pub loop-n-preserved : goal.loop-n-preserved
loop-n-preserved c = one_number_more c.args.all.now c.loop-n.n c.loop-n.numbers.items c.push.new.self.items c.loop-n-test.true c.loop-n.invariant c.in_ok-push.ensures.items

pub returns : goal.returns
returns c =
    let same : length c.args.all.now ≡ length (dependency_pairs c.args.trs.now.rules) =
    ap length c.requires ∙ c.placed_pairs_are_the_pairs.ensures.all c.args.trs.now c.systems_are_valid.ensures.valid in
    all_numbers c.args.all.now (dependency_pairs c.args.trs.now.rules) c.loop-n.n c.loop-n.numbers.items same c.loop-n-test.false c.loop-n.invariant
