-- `(pair path path path path)`: paths from the left and the right of a peak to one term, and from its right and its left
-- to another
use Rattle.std.specs.Prelude.{List, [], ◌∷◌, codes}
use Rattle.sexp_core.specs.Items.{Item}
use Rattle.trs_defs.specs.Path.{PlacedRule}
use Rattle.closed_pairs.specs.StronglyClosed.{FourPaths}
use Rattle.text_reading.specs.Reading.{Read, Parts, done, part, keyword, list}
use Rattle.text_reading.specs.Printed.{word_item, list_item}
use Rattle.path_text.specs.Sharing.{Sharing}
use Rattle.path_text.specs.Paths.{part_path, no_path, path_item}

abbrev pub four_paths : Unit {0} → List PlacedRule → List PlacedRule → List PlacedRule → List PlacedRule → FourPaths
four_paths head left_u right_u right_v left_v =
    record { left_u = left_u; right_u = right_u; right_v = right_v; left_v = left_v }

-- the paths behind the word
abbrev pub paths_behind_pair : Sharing → Parts (List PlacedRule → List PlacedRule → List PlacedRule → List PlacedRule → FourPaths) FourPaths
paths_behind_pair = part_path (part_path (part_path (part_path (no_path done))))

abbrev pub four : Sharing → Item → Read FourPaths
four sharing = list (part (keyword (codes "pair")) (paths_behind_pair sharing)) four_paths

-- the paths in the order of the text
abbrev pub paths_of_four : FourPaths → List (List PlacedRule)
paths_of_four f = f.left_u ∷ f.right_u ∷ f.right_v ∷ f.left_v ∷ []

-- what is printed of the paths to the second term, at the end
abbrev pub second_half : List (List PlacedRule) → FourPaths → List Item
second_half names f = path_item names f.right_v ∷ path_item names f.left_v ∷ []

abbrev pub four_item : List (List PlacedRule) → FourPaths → Item
four_item names f =
    list_item (word_item (codes "pair") ∷ path_item names f.left_u ∷ path_item names f.right_u ∷ second_half names f)
