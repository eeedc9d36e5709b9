-- Steps by the dependency graph that are read are well-made, and printed ones are read again.
use Rattle.std.proofs.Common.{List, [], ◌∷◌, refl, subst, arith}
use Rattle.std.specs.List.{AllByRecursion}
use Rattle.std.specs.Prelude.{map}
use Rattle.sexp_core.specs.Items.{items_of}
use Rattle.trs_defs.specs.System.{System}
use Rattle.cert_step.specs.dp_graph.GroupOrSingle.{GroupOrSingle, group, single}
use Rattle.cert_step.specs.GraphKind.{IsGraphItem}
use Rattle.cert_step.specs.ProofStep.{graph}
use Rattle.text_reading.proofs.Made.{MakesForm, made_rest, made_form}
use Rattle.text_reading.proofs.Again.{SpellsParts, spells_rest, spells_each, spells_deeper}
use Rattle.pair_text.specs.GraphItems.{graph_item, printed_item}
use Rattle.pair_text.specs.Ranges.{HasPairs}
use Rattle.pair_text.proofs.GraphItemLaws.{IsReadable, graph_item_made, graph_item_again}
use Rattle.step_text.specs.Ranges.{IsReadMethod}
use Rattle.step_text.specs.GraphText.{graph_parts, graph_step, graph_form}

well_made : (items : List GroupOrSingle) → AllByRecursion IsReadable items → AllByRecursion IsGraphItem items × AllByRecursion HasPairs items
well_made [] h = (tt, tt)
well_made (group pairs ∷ items) h = let rest = well_made items h.1 in ((h.0.0, rest.0), (h.0.1, rest.1))
well_made (single pair ∷ items) h = let rest = well_made items h.1 in ((tt, rest.0), (h.0.1, rest.1))

readable : (items : List GroupOrSingle) → AllByRecursion IsGraphItem items → AllByRecursion HasPairs items → AllByRecursion IsReadable items
readable [] h k = tt
readable (group pairs ∷ items) h k = ((h.0, k.0), readable items h.1 k.1)
readable (single pair ∷ items) h k = ((tt, k.0), readable items h.1 k.1)

pub graph_made : (system : System) → MakesForm graph_form (IsReadMethod system)
graph_made system at xs v e =
    let (items, are, same) = made_form graph_parts _ graph_step (made_rest graph_item IsReadable graph_item_made) at xs v e in
    let parts = well_made items are in
    subst (IsReadMethod system) same (parts.0, parts.1, refl)

pub graph_again : (items : List GroupOrSingle) → AllByRecursion IsGraphItem items → AllByRecursion HasPairs items
    → SpellsParts graph_parts 1023 (items_of (map printed_item items)) graph_step (graph items)
graph_again items h k =
    spells_rest graph_item graph_step
    (spells_each graph_item printed_item 1023 IsReadable (λ g is. spells_deeper 1023 (graph_item_again g is) (omega arith)) items (readable items h k))
