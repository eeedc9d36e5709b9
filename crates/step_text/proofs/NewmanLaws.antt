-- Steps of joins that are read are well-made, and printed ones are read again.
use Rattle.std.proofs.Common.{List, refl, subst, arith}
use Rattle.std.specs.List.{AllByRecursion}
use Rattle.sexp_core.specs.Items.{items_of}
use Rattle.std.specs.Prelude.{map}
use Rattle.trs_defs.specs.Path.{PlacedRule}
use Rattle.trs_defs.specs.System.{System}
use Rattle.rewrite_core.specs.PathsOfJoin.{PathsOfJoin}
use Rattle.cert_step.specs.ProofStep.{newman}
use Rattle.text_reading.proofs.Made.{MakesForm, made_form}
use Rattle.text_reading.proofs.Again.{SpellsParts, spells_deeper}
use Rattle.path_text.specs.Sharing.{Sharing, paths_weight}
use Rattle.path_text.specs.Ranges.{AreDefinedInRange}
use Rattle.path_text.specs.Paths.{paths_in}
use Rattle.path_text.specs.Carrying.{Carries}
use Rattle.path_text.proofs.PathMade.{made_rest_in_turn}
use Rattle.path_text.proofs.SharedAgain.{spells_each_in_turn, spells_rest_in_turn}
use Rattle.peak_text.specs.TwoPaths.{join, paths_of_two, join_item}
use Rattle.peak_text.specs.Ranges.{AreTwoInRange}
use Rattle.peak_text.proofs.TwoPathsLaws.{join_made, join_again}
use Rattle.step_text.specs.Ranges.{IsReadMethod}
use Rattle.step_text.specs.NewmanText.{newman_parts, newman_step, newman_form}

pub newman_made : (system : System) (sharing : Sharing) → AreDefinedInRange sharing → MakesForm (newman_form sharing) (IsReadMethod system)
newman_made system sharing defined at xs v e =
    let (joins, are, same) = made_form (newman_parts sharing) _ newman_step (made_rest_in_turn join paths_of_two AreTwoInRange join_made sharing defined) at xs v e in
    subst (IsReadMethod system) same (tt, are, refl)

pub newman_again : (names : List (List PlacedRule)) (sharing : Sharing) (joins : List PathsOfJoin) → AllByRecursion AreTwoInRange joins → Carries sharing names (paths_weight (paths_in paths_of_two joins))
    → SpellsParts (newman_parts sharing) 1023 (items_of (map (join_item names) joins)) newman_step (newman joins)
newman_again names sharing joins h c =
    spells_rest_in_turn join paths_of_two sharing newman_step
    (spells_each_in_turn join paths_of_two (join_item names) 1023 AreTwoInRange names (λ s j is carries. spells_deeper 1023 (join_again names s j is carries) (omega arith)) sharing joins h c)
