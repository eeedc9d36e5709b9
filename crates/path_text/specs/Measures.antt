-- What is known of a path without a look at its steps.
use Rattle.std.specs.Prelude.{◌≡◌, ℕ, min, List, length}
use Rattle.trs_defs.specs.Path.{PlacedRule}
use Rattle.path_text.specs.Sharing.{path_weight, longest_place}

-- the number of steps, the numbers of the longest place, which stand still at the last 64-bit number, and the weight
pub record AreMeasures (steps : List PlacedRule) (count longest weight : ℕ) : Type 0 where
  pub count_is : count ≡ length steps
  pub longest_is : longest ≡ min (longest_place steps) 18446744073709551615
  pub weight_is : weight ≡ path_weight steps
