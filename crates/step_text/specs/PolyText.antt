-- `(poly pe ..)`
use Rattle.std.specs.Prelude.{ℕ, List, [], ◌∷◌, map, codes}
use Rattle.sexp_core.specs.Items.{Item}
use Rattle.names_text.specs.Named.{NamedSystem}
use Rattle.cert_step.specs.ProofStep.{ProofStep, poly}
use Rattle.text_reading.specs.Reading.{Form, form, Parts}
use Rattle.text_reading.specs.Printed.{word_item, list_item}
use Rattle.pair_text.specs.LinearEntries.{linear_entries, linear_entry_item}
use Rattle.step_text.specs.StepText.{StepText}
use Rattle.step_text.specs.Together.{together}

abbrev pub poly_parts : NamedSystem → Parts (List (ℕ × List ℕ) → ProofStep) ProofStep
poly_parts named = together (linear_entries named)

abbrev pub poly_step : List (ℕ × List ℕ) → ProofStep
poly_step entries = poly entries

abbrev pub poly_form : NamedSystem → Form ProofStep
poly_form named = form (poly_parts named) poly_step

abbrev pub poly_item : NamedSystem → List (ℕ × List ℕ) → Item
poly_item named entries = list_item (word_item (codes "poly") ∷ map (linear_entry_item named) entries)

abbrev pub poly_text : List (ℕ × List ℕ) → StepText
poly_text entries = record {
  item = λ named names. poly_item named entries;
  in_order = poly entries;
  paths = [];
  is_in_range = Unit {0};
}
