use Rattle.dp_core.specs.PlacedPairs.{placed_pairs, IsPairAt}
use Rattle.pair_theory.specs.DependencyPair.{dependency_pairs}
use Rattle.dp_core.proofs.PlacedLaws.{pairs_placed, paired_length, paired_items}
use Rattle.dp_core.proofs.laws.placed_pairs_are_the_pairs.Goals as goal

pub returns : goal.returns
returns c = record {
  all = λ system valid. paired_length (IsPairAt system.rules) (placed_pairs system.rules) (dependency_pairs system.rules) (pairs_placed system valid);
  order = λ system n s pair valid e d. paired_items (IsPairAt system.rules) (placed_pairs system.rules) (dependency_pairs system.rules) n s pair (pairs_placed system valid) e d;
}
