-- `(label (ranks number ..) pair ..)`
use Rattle.std.specs.Prelude.{ℕ, List, ◌∷◌, map, codes}
use Rattle.std.specs.List.{AllByRecursion}
use Rattle.sexp_core.specs.Items.{Item}
use Rattle.trs_defs.specs.Path.{PlacedRule}
use Rattle.rewrite_core.specs.PathsOfJoin.{PathsOfJoin}
use Rattle.cert_step.specs.ProofStep.{ProofStep, label}
use Rattle.text_reading.specs.Reading.{Form, form, Parts, part}
use Rattle.text_reading.specs.Printed.{word_item, list_item}
use Rattle.path_text.specs.Sharing.{Sharing}
use Rattle.path_text.specs.Paths.{paths_in, rest_in_turn}
use Rattle.peak_text.specs.TwoPaths.{pair, paths_of_two, pair_item}
use Rattle.peak_text.specs.RuleRanks.{ranks, ranks_item}
use Rattle.peak_text.specs.Ranges.{AreTwoInRange}
use Rattle.step_text.specs.StepText.{StepText}

abbrev pub label_parts : Sharing → Parts (List ℕ → List PathsOfJoin → ProofStep) ProofStep
label_parts sharing = part ranks (rest_in_turn pair paths_of_two sharing)

abbrev pub label_step : List ℕ → List PathsOfJoin → ProofStep
label_step numbers joins = label numbers joins

abbrev pub label_form : Sharing → Form ProofStep
label_form sharing = form (label_parts sharing) label_step

abbrev pub label_item : List (List PlacedRule) → List ℕ → List PathsOfJoin → Item
label_item names numbers joins =
    list_item (word_item (codes "label") ∷ ranks_item numbers ∷ map (pair_item names) joins)

abbrev pub label_text : List ℕ → List PathsOfJoin → StepText
label_text numbers joins = record {
  item = λ named names. label_item names numbers joins;
  in_order = label numbers joins;
  paths = paths_in paths_of_two joins;
  is_in_range = AllByRecursion AreTwoInRange joins;
}
