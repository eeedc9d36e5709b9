-- `(step number method)`, and the methods by their words.
use Rattle.std.specs.Prelude.{ℕ, ◌-◌, ◌^◌, List, [], ◌∷◌, codes}
use Rattle.sexp_core.specs.Items.{Item}
use Rattle.trs_defs.specs.Path.{PlacedRule}
use Rattle.names_text.specs.Named.{NamedSystem}
use Rattle.cert_step.specs.ProofStep.{ProofStep, dp, graph, subterm, poly, lpo, kbo, usable_poly, loop, newman, parallel, strong, label, fork, confluence, ProofNodeStep}
use Rattle.text_reading.specs.Reading.{Read, Form, done, part, keyword, list, by_word}
use Rattle.text_reading.specs.Numbers.{number}
use Rattle.text_reading.specs.Printed.{word_item, number_item, list_item}
use Rattle.path_text.specs.Sharing.{Sharing}
use Rattle.step_text.specs.StepText.{StepText}
use Rattle.step_text.specs.DpText.{dp_form, dp_text}
use Rattle.step_text.specs.GraphText.{graph_form, graph_text}
use Rattle.step_text.specs.SubtermText.{subterm_form, subterm_text}
use Rattle.step_text.specs.PolyText.{poly_form, poly_text}
use Rattle.step_text.specs.LpoText.{lpo_form, lpo_text}
use Rattle.step_text.specs.KboText.{kbo_form, kbo_text}
use Rattle.step_text.specs.UsableText.{usable_form, usable_text}
use Rattle.step_text.specs.LoopText.{loop_form, loop_text}
use Rattle.step_text.specs.NewmanText.{newman_form, newman_text}
use Rattle.step_text.specs.ParallelText.{parallel_form, parallel_text}
use Rattle.step_text.specs.StrongText.{strong_form, strong_text}
use Rattle.step_text.specs.LabelText.{label_form, label_text}
use Rattle.step_text.specs.ForkText.{fork_form, fork_text}
use Rattle.step_text.specs.ConfluenceText.{confluence_form, confluence_text}

-- each method by its word
abbrev pub forms : NamedSystem → Sharing → List (List ℕ × Form ProofStep)
forms named sharing =
    (codes "dp", dp_form) ∷
    (codes "graph", graph_form) ∷
    (codes "subterm", subterm_form named) ∷
    (codes "poly", poly_form named) ∷
    (codes "lpo", lpo_form named) ∷
    (codes "kbo", kbo_form named) ∷
    (codes "usable-poly", usable_form named) ∷
    (codes "loop", loop_form named sharing) ∷
    (codes "newman", newman_form sharing) ∷
    (codes "parallel", parallel_form) ∷
    (codes "strong", strong_form sharing) ∷
    (codes "label", label_form sharing) ∷
    (codes "fork", fork_form named sharing) ∷
    (codes "confluence", confluence_form) ∷ []

abbrev pub method : NamedSystem → Sharing → Item → Read ProofStep
method named sharing = by_word (forms named sharing)

-- how a method is written
abbrev pub method_text : ProofStep → StepText
method_text dp = dp_text
method_text (graph items) = graph_text items
method_text (subterm projection) = subterm_text projection
method_text (poly entries) = poly_text entries
method_text (lpo entries) = lpo_text entries
method_text (kbo entries) = kbo_text entries
method_text (usable_poly entries) = usable_text entries
method_text (loop start path place) = loop_text start path place
method_text (newman items) = newman_text items
method_text (parallel items) = parallel_text items
method_text (strong items) = strong_text items
method_text (label ranks items) = label_text ranks items
method_text (fork start left right test) = fork_text start left right test
method_text confluence = confluence_text

abbrev pub method_item : NamedSystem → List (List PlacedRule) → ProofStep → Item
method_item named names s = (method_text s).item named names

abbrev pub paths_of_method : ProofStep → List (List PlacedRule)
paths_of_method s = (method_text s).paths

-- `(step number method)`: the number of a node, and the method for it
abbrev pub node_step : Unit {0} → ℕ → ProofStep → ProofNodeStep
node_step head node s = record { node = node; step = s }

abbrev pub step : NamedSystem → Sharing → Item → Read ProofNodeStep
step named sharing =
    list (part (keyword (codes "step")) (part (number (2 ^ 63 - 1)) (part (method named sharing) done))) node_step

-- its paths, in the order of the text
abbrev pub paths_of_step : ProofNodeStep → List (List PlacedRule)
paths_of_step s = paths_of_method s.step

abbrev pub step_item : NamedSystem → List (List PlacedRule) → ProofNodeStep → Item
step_item named names s =
    list_item (word_item (codes "step") ∷ number_item s.node ∷ method_item named names s.step ∷ [])

-- what this is read as
abbrev pub step_renumbered : ProofNodeStep → ProofNodeStep
step_renumbered s = record { node = s.node; step = (method_text s.step).in_order }
