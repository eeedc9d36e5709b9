-- `(strong four ..)`
use Rattle.std.specs.Prelude.{List, ◌∷◌, map, codes}
use Rattle.std.specs.List.{AllByRecursion}
use Rattle.sexp_core.specs.Items.{Item}
use Rattle.trs_defs.specs.Path.{PlacedRule}
use Rattle.peak_text.specs.closed_pairs.StronglyClosed.{FourPaths}
use Rattle.cert_step.specs.ProofStep.{ProofStep, strong}
use Rattle.text_reading.specs.Reading.{Form, form, Parts}
use Rattle.text_reading.specs.Printed.{word_item, list_item}
use Rattle.path_text.specs.Sharing.{Sharing}
use Rattle.path_text.specs.Paths.{paths_in, rest_in_turn}
use Rattle.peak_text.specs.FourPaths.{four, paths_of_four, four_item}
use Rattle.peak_text.specs.Ranges.{AreFourInRange}
use Rattle.step_text.specs.StepText.{StepText}

abbrev pub strong_parts : Sharing → Parts (List FourPaths → ProofStep) ProofStep
strong_parts sharing = rest_in_turn four paths_of_four sharing

abbrev pub strong_step : List FourPaths → ProofStep
strong_step fours = strong fours

abbrev pub strong_form : Sharing → Form ProofStep
strong_form sharing = form (strong_parts sharing) strong_step

abbrev pub strong_item : List (List PlacedRule) → List FourPaths → Item
strong_item names fours = list_item (word_item (codes "strong") ∷ map (four_item names) fours)

abbrev pub strong_text : List FourPaths → StepText
strong_text fours = record {
  item = λ named names. strong_item names fours;
  in_order = strong fours;
  paths = paths_in paths_of_four fours;
  is_in_range = AllByRecursion AreFourInRange fours;
}
