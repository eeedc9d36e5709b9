-- `(lpo le ..)`
use Rattle.std.specs.Prelude.{List, [], ◌∷◌, map, codes}
use Rattle.std.specs.List.{AllByRecursion}
use Rattle.sexp_core.specs.Items.{Item}
use Rattle.cert_step.specs.path_lpo.Table.{PathEntry}
use Rattle.names_text.specs.Named.{NamedSystem}
use Rattle.cert_step.specs.ProofStep.{ProofStep, lpo}
use Rattle.text_reading.specs.Reading.{Form, form, Parts}
use Rattle.text_reading.specs.Printed.{word_item, list_item}
use Rattle.pair_text.specs.PathEntries.{path_entries, path_entry_item}
use Rattle.pair_text.specs.EntryRanges.{HasPlaces}
use Rattle.step_text.specs.StepText.{StepText}
use Rattle.step_text.specs.Together.{together}

abbrev pub lpo_parts : NamedSystem → Parts (List PathEntry → ProofStep) ProofStep
lpo_parts named = together (path_entries named)

abbrev pub lpo_step : List PathEntry → ProofStep
lpo_step entries = lpo entries

abbrev pub lpo_form : NamedSystem → Form ProofStep
lpo_form named = form (lpo_parts named) lpo_step

abbrev pub lpo_item : NamedSystem → List PathEntry → Item
lpo_item named entries = list_item (word_item (codes "lpo") ∷ map (path_entry_item named) entries)

abbrev pub lpo_text : List PathEntry → StepText
lpo_text entries = record {
  item = λ named names. lpo_item named entries;
  in_order = lpo entries;
  paths = [];
  is_in_range = AllByRecursion HasPlaces entries;
}
