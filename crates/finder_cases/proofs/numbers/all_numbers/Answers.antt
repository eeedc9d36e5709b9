use Rattle.pair_theory.specs.DependencyPair.{dependency_pairs}
use Rattle.finder_cases.proofs.Counting.{counted_increase, counted_within}
use Rattle.finder_cases.proofs.numbers.all_numbers.Goals as goal

pub returns : goal.returns
returns c = record {
  ascending = counted_increase (dependency_pairs c.args.trs.now.rules) c.pair_numbers.result c.pair_numbers.ensures;
  within = counted_within (dependency_pairs c.args.trs.now.rules) c.pair_numbers.result c.pair_numbers.ensures;
}
