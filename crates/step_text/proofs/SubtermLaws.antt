-- Steps by the subterm criterion that are read are well-made, and printed ones are read again.
use Rattle.std.proofs.Common.{ℕ, List, [], refl, arith}
use Rattle.std.specs.List.{AllByRecursion}
use Rattle.std.specs.Prelude.{map}
use Rattle.sexp_core.specs.Items.{items_of}
use Rattle.cert_step.specs.dp_core.Projection.{IsProjection}
use Rattle.names_text.specs.Named.{NamedSystem, IsNamed}
use Rattle.cert_step.specs.Entries.{AreProjections}
use Rattle.cert_step.specs.ProofStep.{subterm}
use Rattle.text_reading.proofs.Made.{MakesForm}
use Rattle.text_reading.proofs.Again.{SpellsParts}
use Rattle.pair_text.specs.Entries.{AreNewBehind}
use Rattle.pair_text.specs.Projections.{projected_symbol, projections, projection_item}
use Rattle.pair_text.specs.Ranges.{HasPlace}
use Rattle.pair_text.proofs.ProjectionLaws.{IsReadable, projections_made, projections_again}
use Rattle.step_text.specs.Ranges.{IsReadMethod}
use Rattle.step_text.specs.SubtermText.{subterm_parts, subterm_step, subterm_form}
use Rattle.step_text.proofs.TogetherLaws.{made_together, spells_together}
use Rattle.step_text.proofs.DistinctSymbols.{distinct_symbols, new_symbols, both_parts, both_of}

pub subterm_made : (named : NamedSystem) → MakesForm (subterm_form named) (IsReadMethod named.system)
subterm_made named =
    made_together (projections named) subterm_step
    (λ es. AllByRecursion (IsReadable named.system.arities) es × AreNewBehind [] (map projected_symbol es)) (IsReadMethod named.system)
    (projections_made named) (λ es h.
    let parts = both_parts (IsProjection named.system.arities) HasPlace es h.0 in
    (record { each = parts.0; distinct = distinct_symbols (map projected_symbol es) h.1 }, parts.1, refl))

pub subterm_again : (named : NamedSystem) → IsNamed named → (es : List (ℕ × ℕ)) → AreProjections named.system.arities es → AllByRecursion HasPlace es
    → SpellsParts (subterm_parts named) 1023 (items_of (map (projection_item named) es)) subterm_step (subterm es)
subterm_again named is es h k =
    spells_together (projections named) 1023 subterm_step
    (projections_again named is es (both_of (IsProjection named.system.arities) HasPlace es h.each k) (new_symbols (map projected_symbol es) h.distinct)) (omega arith)
