-- `(ranks number ..)`: the rank of each rule
use Rattle.std.specs.Prelude.{ℕ, ◌-◌, ◌^◌, List, ◌∷◌, map, codes}
use Rattle.sexp_core.specs.Items.{Item}
use Rattle.text_reading.specs.Reading.{Read, part, keyword, rest, list}
use Rattle.text_reading.specs.Numbers.{number}
use Rattle.text_reading.specs.Printed.{word_item, number_item, list_item}

abbrev pub rule_ranks : Unit {0} → List ℕ → List ℕ
rule_ranks head numbers = numbers

abbrev pub ranks : Item → Read (List ℕ)
ranks = list (part (keyword (codes "ranks")) (rest (number (2 ^ 63 - 1)))) rule_ranks

abbrev pub ranks_item : List ℕ → Item
ranks_item numbers = list_item (word_item (codes "ranks") ∷ map number_item numbers)
