-- The texts of paths, as keys of a table.
use Rattle.std.specs.Prelude.{◌≡◌, ℕ, List, map, take, slice_get, Some, None}
use Rattle.std.specs.List.{AllByRecursion}
use Rattle.sexp_core.specs.Printed.{text_of}
use Rattle.trs_defs.specs.Path.{PlacedRule}
use Rattle.path_text.specs.PathNames.{path_number}
use Rattle.path_text.specs.Paths.{plain_path_item}
use Rattle.path_text.specs.Ranges.{IsPlacedInRange}

abbrev pub path_text : List PlacedRule → List ℕ
path_text path = text_of (plain_path_item path)

-- these are the texts of the paths, whose numbers are in range
pub record HasTexts (texts : List (List ℕ)) (paths : List (List PlacedRule)) : Type 0 where
  pub same : texts ≡ map path_text paths
  pub range : AllByRecursion (AllByRecursion IsPlacedInRange) paths
  -- no path stands twice
  pub alone : (k : ℕ) (p : List PlacedRule) → slice_get paths k ≡ Some p → path_number (take k paths) p ≡ None
