-- `(confluence)`
use Rattle.std.specs.Prelude.{[], ◌∷◌, codes}
use Rattle.sexp_core.specs.Items.{Item}
use Rattle.cert_step.specs.ProofStep.{ProofStep, confluence}
use Rattle.text_reading.specs.Reading.{Form, form, Parts, done}
use Rattle.text_reading.specs.Printed.{word_item, list_item}
use Rattle.step_text.specs.StepText.{StepText}

abbrev pub confluence_parts : Parts ProofStep ProofStep
confluence_parts = done

abbrev pub confluence_form : Form ProofStep
confluence_form = form confluence_parts confluence

abbrev pub confluence_item : Item
confluence_item = list_item (word_item (codes "confluence") ∷ [])

abbrev pub confluence_text : StepText
confluence_text = record { item = λ named names. confluence_item; in_order = confluence; paths = []; is_in_range = Unit {0} }
