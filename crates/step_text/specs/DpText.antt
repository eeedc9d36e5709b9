-- `(dp)`
use Rattle.std.specs.Prelude.{[], ◌∷◌, codes}
use Rattle.sexp_core.specs.Items.{Item}
use Rattle.cert_step.specs.ProofStep.{ProofStep, dp}
use Rattle.text_reading.specs.Reading.{Form, form, Parts, done}
use Rattle.text_reading.specs.Printed.{word_item, list_item}
use Rattle.step_text.specs.StepText.{StepText}

abbrev pub dp_parts : Parts ProofStep ProofStep
dp_parts = done

abbrev pub dp_form : Form ProofStep
dp_form = form dp_parts dp

abbrev pub dp_item : Item
dp_item = list_item (word_item (codes "dp") ∷ [])

abbrev pub dp_text : StepText
dp_text = record { item = λ named names. dp_item; in_order = dp; paths = []; is_in_range = Unit {0} }
