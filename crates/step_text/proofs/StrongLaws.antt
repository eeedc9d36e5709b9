-- Steps of strong joins that are read are well-made, and printed ones are read again.
use Rattle.std.proofs.Common.{List, refl, subst, arith}
use Rattle.std.specs.List.{AllByRecursion}
use Rattle.std.specs.Prelude.{map}
use Rattle.sexp_core.specs.Items.{items_of}
use Rattle.trs_defs.specs.Path.{PlacedRule}
use Rattle.trs_defs.specs.System.{System}
use Rattle.peak_text.specs.closed_pairs.StronglyClosed.{FourPaths}
use Rattle.cert_step.specs.ProofStep.{strong}
use Rattle.text_reading.proofs.Made.{MakesForm, made_form}
use Rattle.text_reading.proofs.Again.{SpellsParts, spells_deeper}
use Rattle.path_text.specs.Sharing.{Sharing, paths_weight}
use Rattle.path_text.specs.Ranges.{AreDefinedInRange}
use Rattle.path_text.specs.Paths.{paths_in}
use Rattle.path_text.specs.Carrying.{Carries}
use Rattle.path_text.proofs.PathMade.{made_rest_in_turn}
use Rattle.path_text.proofs.SharedAgain.{spells_each_in_turn, spells_rest_in_turn}
use Rattle.peak_text.specs.FourPaths.{four, paths_of_four, four_item}
use Rattle.peak_text.specs.Ranges.{AreFourInRange}
use Rattle.peak_text.proofs.FourPathsLaws.{four_made, four_again}
use Rattle.step_text.specs.Ranges.{IsReadMethod}
use Rattle.step_text.specs.StrongText.{strong_parts, strong_step, strong_form}

pub strong_made : (system : System) (sharing : Sharing) → AreDefinedInRange sharing → MakesForm (strong_form sharing) (IsReadMethod system)
strong_made system sharing defined at xs v e =
    let (fours, are, same) = made_form (strong_parts sharing) _ strong_step (made_rest_in_turn four paths_of_four AreFourInRange four_made sharing defined) at xs v e in
    subst (IsReadMethod system) same (tt, are, refl)

pub strong_again : (names : List (List PlacedRule)) (sharing : Sharing) (fours : List FourPaths) → AllByRecursion AreFourInRange fours → Carries sharing names (paths_weight (paths_in paths_of_four fours))
    → SpellsParts (strong_parts sharing) 1023 (items_of (map (four_item names) fours)) strong_step (strong fours)
strong_again names sharing fours h c =
    spells_rest_in_turn four paths_of_four sharing strong_step
    (spells_each_in_turn four paths_of_four (four_item names) 1023 AreFourInRange names (λ s j is carries. spells_deeper 1023 (four_again names s j is carries) (omega arith)) sharing fours h c)
