-- `(usable-poly pe ..)`
use Rattle.std.specs.Prelude.{ℕ, List, [], ◌∷◌, map, codes}
use Rattle.sexp_core.specs.Items.{Item}
use Rattle.names_text.specs.Named.{NamedSystem}
use Rattle.cert_step.specs.ProofStep.{ProofStep, usable_poly}
use Rattle.text_reading.specs.Reading.{Form, form, Parts}
use Rattle.text_reading.specs.Printed.{word_item, list_item}
use Rattle.pair_text.specs.LinearEntries.{linear_entries, linear_entry_item}
use Rattle.step_text.specs.StepText.{StepText}
use Rattle.step_text.specs.Together.{together}

abbrev pub usable_parts : NamedSystem → Parts (List (ℕ × List ℕ) → ProofStep) ProofStep
usable_parts named = together (linear_entries named)

abbrev pub usable_step : List (ℕ × List ℕ) → ProofStep
usable_step entries = usable_poly entries

abbrev pub usable_form : NamedSystem → Form ProofStep
usable_form named = form (usable_parts named) usable_step

abbrev pub usable_item : NamedSystem → List (ℕ × List ℕ) → Item
usable_item named entries = list_item (word_item (codes "usable-poly") ∷ map (linear_entry_item named) entries)

abbrev pub usable_text : List (ℕ × List ℕ) → StepText
usable_text entries = record {
  item = λ named names. usable_item named entries;
  in_order = usable_poly entries;
  paths = [];
  is_in_range = Unit {0};
}
