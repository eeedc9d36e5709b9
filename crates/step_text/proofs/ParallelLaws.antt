-- Steps of parallel steps that are read are well-made, and printed ones are read again.
use Rattle.std.proofs.Common.{List, refl, subst, arith}
use Rattle.std.specs.List.{AllByRecursion}
use Rattle.std.specs.Prelude.{map}
use Rattle.sexp_core.specs.Items.{items_of}
use Rattle.trs_defs.specs.System.{System}
use Rattle.trs_defs.specs.Path.{PlacedRule}
use Rattle.cert_step.specs.ProofStep.{parallel}
use Rattle.text_reading.proofs.Made.{MakesForm, made_rest, made_form}
use Rattle.text_reading.proofs.Again.{SpellsParts, spells_rest, spells_each, spells_deeper}
use Rattle.path_text.specs.Ranges.{IsPlacedInRange}
use Rattle.peak_text.specs.ParallelStep.{par, par_item}
use Rattle.peak_text.proofs.ParallelStepLaws.{par_made, par_again}
use Rattle.step_text.specs.Ranges.{IsReadMethod}
use Rattle.step_text.specs.ParallelText.{parallel_parts, parallel_step, parallel_form}

pub parallel_made : (system : System) → MakesForm parallel_form (IsReadMethod system)
parallel_made system at xs v e =
    let (steps, are, same) = made_form parallel_parts _ parallel_step (made_rest par (AllByRecursion IsPlacedInRange) par_made) at xs v e in
    subst (IsReadMethod system) same (tt, are, refl)

pub parallel_again : (steps : List (List PlacedRule)) → AllByRecursion (AllByRecursion IsPlacedInRange) steps
    → SpellsParts parallel_parts 1023 (items_of (map par_item steps)) parallel_step (parallel steps)
parallel_again steps h =
    spells_rest par parallel_step (spells_each par par_item 1023 (AllByRecursion IsPlacedInRange) (λ s is. spells_deeper 1023 (par_again s is) (omega arith)) steps h)
