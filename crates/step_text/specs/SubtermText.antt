-- `(subterm entry ..)`
use Rattle.std.specs.Prelude.{ℕ, List, [], ◌∷◌, map, codes}
use Rattle.std.specs.List.{AllByRecursion}
use Rattle.sexp_core.specs.Items.{Item}
use Rattle.names_text.specs.Named.{NamedSystem}
use Rattle.cert_step.specs.ProofStep.{ProofStep, subterm}
use Rattle.text_reading.specs.Reading.{Form, form, Parts}
use Rattle.text_reading.specs.Printed.{word_item, list_item}
use Rattle.pair_text.specs.Projections.{projections, projection_item}
use Rattle.pair_text.specs.Ranges.{HasPlace}
use Rattle.step_text.specs.StepText.{StepText}
use Rattle.step_text.specs.Together.{together}

abbrev pub subterm_parts : NamedSystem → Parts (List (ℕ × ℕ) → ProofStep) ProofStep
subterm_parts named = together (projections named)

abbrev pub subterm_step : List (ℕ × ℕ) → ProofStep
subterm_step projection = subterm projection

abbrev pub subterm_form : NamedSystem → Form ProofStep
subterm_form named = form (subterm_parts named) subterm_step

abbrev pub subterm_item : NamedSystem → List (ℕ × ℕ) → Item
subterm_item named projection = list_item (word_item (codes "subterm") ∷ map (projection_item named) projection)

abbrev pub subterm_text : List (ℕ × ℕ) → StepText
subterm_text projection = record {
  item = λ named names. subterm_item named projection;
  in_order = subterm projection;
  paths = [];
  is_in_range = AllByRecursion HasPlace projection;
}
