-- Steps by path orders that are read are well-made, and printed ones are read again.
use Rattle.std.proofs.Common.{ℕ, ◌≤◌, List, [], length, refl, arith}
use Rattle.std.specs.List.{AllByRecursion}
use Rattle.std.specs.Prelude.{map}
use Rattle.sexp_core.specs.Items.{items_of}
use Rattle.cert_step.specs.path_lpo.Table.{PathEntry, symbol_of}
use Rattle.cert_step.specs.path_lpo.WellMade.{IsPathEntry}
use Rattle.names_text.specs.Named.{NamedSystem, IsNamed}
use Rattle.cert_step.specs.Entries.{ArePathEntries}
use Rattle.cert_step.specs.ProofStep.{lpo}
use Rattle.text_reading.proofs.Made.{MakesForm}
use Rattle.text_reading.proofs.Again.{SpellsParts}
use Rattle.pair_text.specs.Entries.{AreNewBehind}
use Rattle.pair_text.specs.PathEntries.{path_entries, path_entry_item}
use Rattle.pair_text.specs.EntryRanges.{HasPlaces}
use Rattle.pair_text.proofs.PathLaws.{IsReadable, path_entries_made, path_entries_again}
use Rattle.step_text.specs.Ranges.{IsReadMethod}
use Rattle.step_text.specs.LpoText.{lpo_parts, lpo_step, lpo_form}
use Rattle.step_text.proofs.TogetherLaws.{made_together, spells_together}
use Rattle.step_text.proofs.DistinctSymbols.{distinct_symbols, new_symbols, both_parts, both_of}

pub lpo_made : (named : NamedSystem) → length named.system.arities ≤ 4095 → MakesForm (lpo_form named) (IsReadMethod named.system)
lpo_made named few =
    made_together (path_entries named) lpo_step
    (λ es. AllByRecursion (IsReadable named.system.arities) es × AreNewBehind [] (map symbol_of es)) (IsReadMethod named.system)
    (path_entries_made named few) (λ es h.
    let parts = both_parts (IsPathEntry named.system.arities) HasPlaces es h.0 in
    (record { each = parts.0; distinct = distinct_symbols (map symbol_of es) h.1 }, parts.1, refl))

pub lpo_again : (named : NamedSystem) → IsNamed named → (es : List PathEntry) → ArePathEntries named.system.arities es → AllByRecursion HasPlaces es
    → SpellsParts (lpo_parts named) 1023 (items_of (map (path_entry_item named) es)) lpo_step (lpo es)
lpo_again named is es h k =
    spells_together (path_entries named) 1023 lpo_step
    (path_entries_again named is es (both_of (IsPathEntry named.system.arities) HasPlaces es h.each k) (new_symbols (map symbol_of es) h.distinct)) (omega arith)
