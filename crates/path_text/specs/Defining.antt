-- `(define word path)`: how definitions are read, and how they are printed.
use Rattle.std.specs.Prelude.{ℕ, suc, Bool, List, [], ◌∷◌, Some, Ok, Err, codes, if◌then◌else◌}
use Rattle.std.specs.List.{list_any}
use Rattle.std.specs.Str.{bytes_eq}
use Rattle.sexp_core.specs.Items.{Item, a_word, a_list}
use Rattle.trs_defs.specs.Path.{PlacedRule}
use Rattle.text_reading.specs.Reading.{Read, done, part, keyword, list}
use Rattle.text_reading.specs.Printed.{word_item, list_item}
use Rattle.path_text.specs.declared.sharing.Shared.{Shared}
use Rattle.path_text.specs.Sharing.{Definition}
use Rattle.path_text.specs.PathNames.{path_name}
use Rattle.path_text.specs.Paths.{part_path, no_path, plain_path_item}

abbrev pub is_defined : List Definition → List ℕ → Bool
is_defined definitions w = list_any (λ d. bytes_eq w d.0) definitions

-- a word that no earlier definition has
abbrev pub new_word : List Definition → Item → Read (List ℕ)
new_word definitions (a_word w at) = if is_defined definitions w then Err at else Ok w
new_word definitions (a_list xs at) = Err at

abbrev pub definition : Unit {0} → List ℕ → List PlacedRule → Definition
definition head w steps = (w, steps)

-- read with the definitions before it
abbrev pub define : Shared → Item → Read Definition
define shared =
    list (part (keyword (codes "define")) (part (new_word shared.definitions) (part_path (no_path done) (Some shared)))) definition

abbrev pub define_item : ℕ → List PlacedRule → Item
define_item k steps = list_item (word_item (codes "define") ∷ word_item (path_name k) ∷ plain_path_item steps ∷ [])

-- the definitions of paths, named from this number on
abbrev pub define_items : ℕ → List (List PlacedRule) → List Item
define_items k [] = []
define_items k (path ∷ paths) = define_item k path ∷ define_items (suc k) paths
