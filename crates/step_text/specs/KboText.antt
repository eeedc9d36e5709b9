-- `(kbo ke ..)`
use Rattle.std.specs.Prelude.{List, [], ◌∷◌, map, codes}
use Rattle.sexp_core.specs.Items.{Item}
use Rattle.cert_step.specs.kbo_order.declared.entries.KboEntry.{KboEntry}
use Rattle.names_text.specs.Named.{NamedSystem}
use Rattle.cert_step.specs.ProofStep.{ProofStep, kbo}
use Rattle.text_reading.specs.Reading.{Form, form, Parts}
use Rattle.text_reading.specs.Printed.{word_item, list_item}
use Rattle.pair_text.specs.KnuthEntries.{kbo_entries, kbo_entry_item}
use Rattle.step_text.specs.StepText.{StepText}
use Rattle.step_text.specs.Together.{together}

abbrev pub kbo_parts : NamedSystem → Parts (List KboEntry → ProofStep) ProofStep
kbo_parts named = together (kbo_entries named)

abbrev pub kbo_step : List KboEntry → ProofStep
kbo_step entries = kbo entries

abbrev pub kbo_form : NamedSystem → Form ProofStep
kbo_form named = form (kbo_parts named) kbo_step

abbrev pub kbo_item : NamedSystem → List KboEntry → Item
kbo_item named entries = list_item (word_item (codes "kbo") ∷ map (kbo_entry_item named) entries)

abbrev pub kbo_text : List KboEntry → StepText
kbo_text entries = record {
  item = λ named names. kbo_item named entries;
  in_order = kbo entries;
  paths = [];
  is_in_range = Unit {0};
}
