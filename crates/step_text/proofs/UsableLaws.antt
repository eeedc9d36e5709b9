-- Steps by linear interpretations and usable rules that are read are well-made, and printed ones are read again.
use Rattle.std.proofs.Common.{ℕ, ◌≤◌, List, [], length, refl, arith}
use Rattle.std.specs.List.{AllByRecursion}
use Rattle.std.specs.Prelude.{map}
use Rattle.sexp_core.specs.Items.{items_of}
use Rattle.cert_step.specs.poly_lin.Table.{symbol_of}
use Rattle.cert_step.specs.poly_lin.WellMade.{IsLinearEntry}
use Rattle.names_text.specs.Named.{NamedSystem, IsNamed}
use Rattle.cert_step.specs.Entries.{AreLinearEntries}
use Rattle.cert_step.specs.ProofStep.{usable_poly}
use Rattle.text_reading.proofs.Made.{MakesForm}
use Rattle.text_reading.proofs.Again.{SpellsParts}
use Rattle.pair_text.specs.Entries.{AreNewBehind}
use Rattle.pair_text.specs.LinearEntries.{linear_entries, linear_entry_item}
use Rattle.pair_text.proofs.LinearLaws.{linear_entries_made, linear_entries_again}
use Rattle.step_text.specs.Ranges.{IsReadMethod}
use Rattle.step_text.specs.UsableText.{usable_parts, usable_step, usable_form}
use Rattle.step_text.proofs.TogetherLaws.{made_together, spells_together}
use Rattle.step_text.proofs.DistinctSymbols.{distinct_symbols, new_symbols}

pub usable_made : (named : NamedSystem) → length named.system.arities ≤ 4095 → MakesForm (usable_form named) (IsReadMethod named.system)
usable_made named few =
    made_together (linear_entries named) usable_step
    (λ es. AllByRecursion (IsLinearEntry named.system.arities) es × AreNewBehind [] (map symbol_of es)) (IsReadMethod named.system)
    (linear_entries_made named few) (λ es h. (record { each = h.0; distinct = distinct_symbols (map symbol_of es) h.1 }, tt, refl))

pub usable_again : (named : NamedSystem) → IsNamed named → (es : List (ℕ × List ℕ)) → AreLinearEntries named.system.arities es
    → SpellsParts (usable_parts named) 1023 (items_of (map (linear_entry_item named) es)) usable_step (usable_poly es)
usable_again named is es h =
    spells_together (linear_entries named) 1023 usable_step (linear_entries_again named is es h.each (new_symbols (map symbol_of es) h.distinct)) (omega arith)
