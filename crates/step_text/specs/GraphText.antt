-- `(graph item ..)`
use Rattle.std.specs.Prelude.{List, [], ◌∷◌, map, codes}
use Rattle.std.specs.List.{AllByRecursion}
use Rattle.sexp_core.specs.Items.{Item}
use Rattle.cert_step.specs.dp_graph.GroupOrSingle.{GroupOrSingle}
use Rattle.cert_step.specs.ProofStep.{ProofStep, graph}
use Rattle.text_reading.specs.Reading.{Form, form, Parts, rest}
use Rattle.text_reading.specs.Printed.{word_item, list_item}
use Rattle.pair_text.specs.GraphItems.{graph_item, printed_item}
use Rattle.pair_text.specs.Ranges.{HasPairs}
use Rattle.step_text.specs.StepText.{StepText}

abbrev pub graph_parts : Parts (List GroupOrSingle → ProofStep) ProofStep
graph_parts = rest graph_item

abbrev pub graph_step : List GroupOrSingle → ProofStep
graph_step items = graph items

abbrev pub graph_form : Form ProofStep
graph_form = form graph_parts graph_step

abbrev pub graph_step_item : List GroupOrSingle → Item
graph_step_item items = list_item (word_item (codes "graph") ∷ map printed_item items)

abbrev pub graph_text : List GroupOrSingle → StepText
graph_text items = record {
  item = λ named names. graph_step_item items;
  in_order = graph items;
  paths = [];
  is_in_range = AllByRecursion HasPairs items;
}
