-- What the finder of ranks answers.
use Rattle.std.specs.Prelude.{◌≡◌, ℕ, List}
use Rattle.trs_defs.specs.System.{RewriteRule}
use Rattle.rewrite_core.specs.PlacedPeak.{PlacedPeak}
use Rattle.assign_search.specs.declared.search.Search.{Search}
use Rattle.assign_search.specs.declared.search.Search.TheVariants.{Found, NotThere, Spent, Stopped}
use Rattle.join_find.specs.First.{Along}
use Rattle.label_find.specs.declared.label.Labelled.{Labelled}
use Rattle.label_find.specs.LabelRow.{FindsLabel, FailsLabel, SpendsLabel}
use Rattle.label_find.specs.Closing.{IsJoinBy}

-- `rose` says that the count of stops rose
abbrev pub IsLabelling : List RewriteRule → List PlacedPeak → ℕ → Type 0 → Search Labelled → Type 0
IsLabelling rules peaks budget rose (Found a) = FindsLabel rules peaks budget a.ranks.items a.joins.items
IsLabelling rules peaks budget rose NotThere = FailsLabel rules peaks budget
IsLabelling rules peaks budget rose Spent = SpendsLabel rules peaks budget
IsLabelling rules peaks budget rose Stopped = rose

-- these ranks, with the paths that close the peaks by them
pub record IsLabelledBy (rules : List RewriteRule) (peaks : List PlacedPeak) (ranks : List ℕ) (a : Labelled) : Type 0 where
  pub ranks_are : a.ranks.items ≡ ranks
  pub joined : Along (IsJoinBy rules ranks) peaks a.joins.items
