-- `(group number number ..)` and `(single number)`: pairs by their numbers.
use Rattle.std.specs.Prelude.{ℕ, ◌-◌, ◌^◌, List, [], ◌∷◌, map, Ok, codes}
use Rattle.sexp_core.specs.Items.{Item}
use Rattle.dp_graph.specs.GroupOrSingle.{GroupOrSingle, group, single}
use Rattle.text_reading.specs.Reading.{Read, ◌<*>◌, Form, form, Parts, part, done, by_word}
use Rattle.text_reading.specs.Numbers.{number}
use Rattle.text_reading.specs.Printed.{word_item, number_item, list_item}
use Rattle.pair_text.specs.LongLists.{long_list}
use Rattle.pair_text.specs.InTurn.{ascending}

abbrev pub group_of : List ℕ → GroupOrSingle
group_of pairs = group pairs

abbrev pub single_of : ℕ → GroupOrSingle
single_of pair = single pair

-- the numbers of a group ascend strictly
abbrev pub group_form : Form GroupOrSingle
group_form at xs = Ok group_of <*> ascending (2 ^ 32 - 1) xs 0

abbrev pub single_parts : Parts (ℕ → GroupOrSingle) GroupOrSingle
single_parts = part (number (2 ^ 32 - 1)) done

abbrev pub single_form : Form GroupOrSingle
single_form = form single_parts single_of

abbrev pub group_forms : List (List ℕ × Form GroupOrSingle)
group_forms = (codes "group", group_form) ∷ (codes "single", single_form) ∷ []

-- at least one number stands behind the word
abbrev pub graph_item : Item → Read GroupOrSingle
graph_item = long_list 2 (by_word group_forms)

abbrev pub group_item : List ℕ → Item
group_item pairs = list_item (word_item (codes "group") ∷ map number_item pairs)

abbrev pub single_item : ℕ → Item
single_item pair = list_item (word_item (codes "single") ∷ number_item pair ∷ [])

abbrev pub printed_item : GroupOrSingle → Item
printed_item (group pairs) = group_item pairs
printed_item (single pair) = single_item pair
