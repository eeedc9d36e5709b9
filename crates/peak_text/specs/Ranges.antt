-- The ranges of the numbers in what is said of peaks.
use Rattle.std.specs.Prelude.{ℕ, ◌<◌, ◌^◌}
use Rattle.std.specs.List.{AllByRecursion}
use Rattle.rewrite_core.specs.PathsOfJoin.{PathsOfJoin}
use Rattle.closed_pairs.specs.StronglyClosed.{FourPaths}
use Rattle.path_text.specs.Ranges.{IsPlacedInRange}

abbrev pub IsRank : ℕ → Type 0
IsRank n = n < 2 ^ 63

abbrev pub AreTwoInRange : PathsOfJoin → Type 0
AreTwoInRange two = AllByRecursion IsPlacedInRange two.left × AllByRecursion IsPlacedInRange two.right

-- the numbers of each of the four paths
pub record AreFourInRange (four : FourPaths) : Type 0 where
  pub left_u : AllByRecursion IsPlacedInRange four.left_u
  pub right_u : AllByRecursion IsPlacedInRange four.right_u
  pub right_v : AllByRecursion IsPlacedInRange four.right_v
  pub left_v : AllByRecursion IsPlacedInRange four.left_v
