-- The first two paths that close a peak, by the ids of their ends and by their ends.
use Rattle.std.specs.Prelude.{◌≡◌, ℕ, List}
use Rattle.trs_defs.specs.Member.{In}
use Rattle.trs_defs.specs.Tree.{Tree}
use Rattle.trs_defs.specs.System.{RewriteRule}
use Rattle.term_pool.specs.ListedIds.{listed}
use Rattle.rewrite_core.specs.PlacedPeak.{PlacedPeak}
use Rattle.rewrite_core.specs.PathsOfJoin.{PathsOfJoin}
use Rattle.join_find.specs.First.{First, Some_in}
use Rattle.path_lists.specs.Adding.{Entry}
use Rattle.label_find.specs.LabelRow.{PeakPaths, ArePathsOf, Closes, CanClose, IsFirstClosing}

abbrev pub ClosesFrom : List ℕ → ℕ → ℕ → List Tree → Entry → Entry → Type 0
ClosesFrom ranks inner outer pool e f = Closes ranks inner outer (listed pool e) (listed pool f)

abbrev pub CanCloseIds : List ℕ → ℕ → ℕ → List Tree → List Entry → List Entry → Type 0
CanCloseIds ranks inner outer pool lefts rights = Some_in (λ (e : Entry). Some_in (ClosesFrom ranks inner outer pool e) rights) lefts

pub record IsFirstClosingIds (ranks : List ℕ) (inner outer : ℕ) (pool : List Tree) (lefts rights : List Entry) (join : PathsOfJoin) : Type 0 where
  pub left : Entry
  pub right : Entry
  pub first_left : First (λ (e : Entry). Some_in (ClosesFrom ranks inner outer pool e) rights) lefts left
  pub first_right : First (ClosesFrom ranks inner outer pool left) rights right
  pub left_path : join.left ≡ left.1.items
  pub right_path : join.right ≡ right.1.items

-- the ranks close the peak, whatever its paths are
pub record CanBeClosed (rules : List RewriteRule) (ranks : List ℕ) (peak : PlacedPeak) : Type 0 where
  pub by_paths : (paths : PeakPaths) → ArePathsOf rules peak paths → CanClose ranks paths

abbrev pub CanAllBeClosed : List RewriteRule → List ℕ → List PlacedPeak → Type 0
CanAllBeClosed rules ranks peaks = (peak : PlacedPeak) → In peak peaks → CanBeClosed rules ranks peak

-- the first two of the peak's paths that close it
pub record IsJoinBy (rules : List RewriteRule) (ranks : List ℕ) (peak : PlacedPeak) (join : PathsOfJoin) : Type 0 where
  pub paths : PeakPaths
  pub are_paths : ArePathsOf rules peak paths
  pub closing : IsFirstClosing ranks paths join
