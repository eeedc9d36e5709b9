-- The step of dependency pairs is well-made, and read again where it is printed.
use Rattle.std.proofs.Common.{refl, subst, arith}
use Rattle.sexp_core.specs.Items.{no_items}
use Rattle.trs_defs.specs.System.{System}
use Rattle.cert_step.specs.ProofStep.{dp}
use Rattle.text_reading.proofs.Made.{MakesForm, made_done, made_form}
use Rattle.text_reading.proofs.Again.{SpellsParts, spells_done}
use Rattle.step_text.specs.Ranges.{IsReadMethod}
use Rattle.step_text.specs.DpText.{dp_parts, dp_form}

pub dp_made : (system : System) → MakesForm dp_form (IsReadMethod system)
dp_made system at xs v e =
    let same = made_form dp_parts _ dp made_done at xs v e in
    subst (IsReadMethod system) same (tt, tt, refl)

pub dp_again : SpellsParts dp_parts 1023 no_items dp dp
dp_again =
    let s = spells_done dp in
    record { again = s.again; words = s.words; deep = omega (arith, s.deep) }
