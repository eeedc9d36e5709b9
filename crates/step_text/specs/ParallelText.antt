-- `(parallel par ..)`
use Rattle.std.specs.Prelude.{List, [], ◌∷◌, map, codes}
use Rattle.std.specs.List.{AllByRecursion}
use Rattle.sexp_core.specs.Items.{Item}
use Rattle.trs_defs.specs.Path.{PlacedRule}
use Rattle.cert_step.specs.ProofStep.{ProofStep, parallel}
use Rattle.text_reading.specs.Reading.{Form, form, Parts, rest}
use Rattle.text_reading.specs.Printed.{word_item, list_item}
use Rattle.path_text.specs.Ranges.{IsPlacedInRange}
use Rattle.peak_text.specs.ParallelStep.{par, par_item}
use Rattle.step_text.specs.StepText.{StepText}

abbrev pub parallel_parts : Parts (List (List PlacedRule) → ProofStep) ProofStep
parallel_parts = rest par

abbrev pub parallel_step : List (List PlacedRule) → ProofStep
parallel_step steps = parallel steps

abbrev pub parallel_form : Form ProofStep
parallel_form = form parallel_parts parallel_step

abbrev pub parallel_item : List (List PlacedRule) → Item
parallel_item steps = list_item (word_item (codes "parallel") ∷ map par_item steps)

abbrev pub parallel_text : List (List PlacedRule) → StepText
parallel_text steps = record {
  item = λ named names. parallel_item steps;
  in_order = parallel steps;
  paths = [];
  is_in_range = AllByRecursion (AllByRecursion IsPlacedInRange) steps;
}
