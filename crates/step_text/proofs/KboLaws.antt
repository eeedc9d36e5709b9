-- Steps by Knuth-Bendix orders that are read are well-made, and printed ones are read again.
use Rattle.std.proofs.Common.{ℕ, ◌≤◌, List, [], length, refl, arith}
use Rattle.std.specs.Prelude.{map}
use Rattle.sexp_core.specs.Items.{items_of}
use Rattle.cert_step.specs.kbo_order.Table.{symbol_of}
use Rattle.cert_step.specs.kbo_order.declared.entries.KboEntry.{KboEntry}
use Rattle.names_text.specs.Named.{NamedSystem, IsNamed}
use Rattle.cert_step.specs.Entries.{AreKboEntries}
use Rattle.cert_step.specs.ProofStep.{kbo}
use Rattle.text_reading.proofs.Made.{MakesForm}
use Rattle.text_reading.proofs.Again.{SpellsParts}
use Rattle.pair_text.specs.KnuthEntries.{kbo_entries, kbo_entry_item}
use Rattle.pair_text.proofs.KnuthLaws.{AreKnuthEntries, kbo_entries_made, kbo_entries_again}
use Rattle.step_text.specs.Ranges.{IsReadMethod}
use Rattle.step_text.specs.KboText.{kbo_parts, kbo_step, kbo_form}
use Rattle.step_text.proofs.TogetherLaws.{made_together, spells_together}
use Rattle.step_text.proofs.DistinctSymbols.{distinct_symbols, new_symbols}

pub kbo_made : (named : NamedSystem) → length named.system.arities ≤ 4095 → MakesForm (kbo_form named) (IsReadMethod named.system)
kbo_made named few =
    made_together (kbo_entries named) kbo_step (AreKnuthEntries named.system.arities) (IsReadMethod named.system)
    (kbo_entries_made named few) (λ es h. (record { few = few; each = h.each; distinct = distinct_symbols (map symbol_of es) h.new; faultless = h.faultless }, tt, refl))

pub kbo_again : (named : NamedSystem) → IsNamed named → (es : List KboEntry) → AreKboEntries named.system.arities es
    → SpellsParts (kbo_parts named) 1023 (items_of (map (kbo_entry_item named) es)) kbo_step (kbo es)
kbo_again named is es h =
    spells_together (kbo_entries named) 1023 kbo_step
    (kbo_entries_again named is es (record { each = h.each; new = new_symbols (map symbol_of es) h.distinct; faultless = h.faultless })) (omega arith)
