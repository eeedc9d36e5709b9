-- Two paths of a peak: `(join path path)`, and where rules have ranks `(pair path path)`.
use Rattle.std.specs.Prelude.{List, ℕ, [], ◌∷◌, codes}
use Rattle.sexp_core.specs.Items.{Item}
use Rattle.trs_defs.specs.Path.{PlacedRule}
use Rattle.rewrite_core.specs.PathsOfJoin.{PathsOfJoin}
use Rattle.text_reading.specs.Reading.{Read, done, part, keyword, list}
use Rattle.text_reading.specs.Printed.{word_item, list_item}
use Rattle.path_text.specs.Sharing.{Sharing}
use Rattle.path_text.specs.Paths.{part_path, no_path, path_item}

abbrev pub two_paths : Unit {0} → List PlacedRule → List PlacedRule → PathsOfJoin
two_paths head left right = record { left = left; right = right }

-- two paths behind this word
abbrev pub two_behind : List ℕ → Sharing → Item → Read PathsOfJoin
two_behind head sharing = list (part (keyword head) (part_path (part_path (no_path done)) sharing)) two_paths

abbrev pub two_item : List ℕ → List (List PlacedRule) → PathsOfJoin → Item
two_item head names two = list_item (word_item head ∷ path_item names two.left ∷ path_item names two.right ∷ [])

-- the paths in the order of the text
abbrev pub paths_of_two : PathsOfJoin → List (List PlacedRule)
paths_of_two two = two.left ∷ two.right ∷ []

-- `(join path path)`
abbrev pub join : Sharing → Item → Read PathsOfJoin
join = two_behind (codes "join")

abbrev pub join_item : List (List PlacedRule) → PathsOfJoin → Item
join_item = two_item (codes "join")

-- `(pair path path)`
abbrev pub pair : Sharing → Item → Read PathsOfJoin
pair = two_behind (codes "pair")

abbrev pub pair_item : List (List PlacedRule) → PathsOfJoin → Item
pair_item = two_item (codes "pair")
