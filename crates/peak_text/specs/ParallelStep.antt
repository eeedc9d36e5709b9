-- `(par at ..)`: a step at parallel positions
use Rattle.std.specs.Prelude.{List, ◌∷◌, map, codes}
use Rattle.sexp_core.specs.Items.{Item}
use Rattle.trs_defs.specs.Path.{PlacedRule}
use Rattle.text_reading.specs.Reading.{Read, part, keyword, rest, list}
use Rattle.text_reading.specs.Printed.{word_item, list_item}
use Rattle.path_text.specs.Paths.{placed_rule, placed_rule_item, path_steps}

abbrev pub par : Item → Read (List PlacedRule)
par = list (part (keyword (codes "par")) (rest placed_rule)) path_steps

abbrev pub par_item : List PlacedRule → Item
par_item steps = list_item (word_item (codes "par") ∷ map placed_rule_item steps)
