-- `(newman join ..)`
use Rattle.std.specs.Prelude.{List, ◌∷◌, map, codes}
use Rattle.std.specs.List.{AllByRecursion}
use Rattle.sexp_core.specs.Items.{Item}
use Rattle.trs_defs.specs.Path.{PlacedRule}
use Rattle.rewrite_core.specs.PathsOfJoin.{PathsOfJoin}
use Rattle.cert_step.specs.ProofStep.{ProofStep, newman}
use Rattle.text_reading.specs.Reading.{Form, form, Parts}
use Rattle.text_reading.specs.Printed.{word_item, list_item}
use Rattle.path_text.specs.Sharing.{Sharing}
use Rattle.path_text.specs.Paths.{paths_in, rest_in_turn}
use Rattle.peak_text.specs.TwoPaths.{join, paths_of_two, join_item}
use Rattle.peak_text.specs.Ranges.{AreTwoInRange}
use Rattle.step_text.specs.StepText.{StepText}

abbrev pub newman_parts : Sharing → Parts (List PathsOfJoin → ProofStep) ProofStep
newman_parts sharing = rest_in_turn join paths_of_two sharing

abbrev pub newman_step : List PathsOfJoin → ProofStep
newman_step joins = newman joins

abbrev pub newman_form : Sharing → Form ProofStep
newman_form sharing = form (newman_parts sharing) newman_step

abbrev pub newman_item : List (List PlacedRule) → List PathsOfJoin → Item
newman_item names joins = list_item (word_item (codes "newman") ∷ map (join_item names) joins)

abbrev pub newman_text : List PathsOfJoin → StepText
newman_text joins = record {
  item = λ named names. newman_item names joins;
  in_order = newman joins;
  paths = paths_in paths_of_two joins;
  is_in_range = AllByRecursion AreTwoInRange joins;
}
