-- The step of confluence is well-made, and read again where it is printed.
use Rattle.std.proofs.Common.{refl, subst, arith}
use Rattle.sexp_core.specs.Items.{no_items}
use Rattle.trs_defs.specs.System.{System}
use Rattle.cert_step.specs.ProofStep.{confluence}
use Rattle.text_reading.proofs.Made.{MakesForm, made_done, made_form}
use Rattle.text_reading.proofs.Again.{SpellsParts, spells_done}
use Rattle.step_text.specs.Ranges.{IsReadMethod}
use Rattle.step_text.specs.ConfluenceText.{confluence_parts, confluence_form}

pub confluence_made : (system : System) → MakesForm confluence_form (IsReadMethod system)
confluence_made system at xs v e =
    let same = made_form confluence_parts _ confluence made_done at xs v e in
    subst (IsReadMethod system) same (tt, tt, refl)

pub confluence_again : SpellsParts confluence_parts 1023 no_items confluence confluence
confluence_again =
    let s = spells_done confluence in
    record { again = s.again; words = s.words; deep = omega (arith, s.deep) }
