-- The paths of all steps of a certificate.
use Rattle.std.proofs.Common.{◌≡◌, List, [], ◌∷◌, ◌++◌, map, refl, ap₂}
use Rattle.std.specs.List.{AllByRecursion}
use Rattle.trs_defs.specs.Path.{PlacedRule}
use Rattle.trs_defs.specs.System.{System}
use Rattle.step_text.specs.cert_step.ProofStep.{ProofNodeStep}
use Rattle.text_reading.proofs.Tables.{all_append}
use Rattle.path_text.specs.Paths.{paths_in}
use Rattle.path_text.specs.Ranges.{IsPlacedInRange}
use Rattle.step_text.specs.Ranges.{IsWellMadeInRange}
use Rattle.step_text.specs.Steps.{paths_of_step, step_renumbered}
use Rattle.step_text.proofs.StepLaws.{same_paths, step_paths_in_range}

pub all_same_paths : (steps : List ProofNodeStep) → paths_in paths_of_step (map step_renumbered steps) ≡ paths_in paths_of_step steps
all_same_paths [] = refl
all_same_paths (s ∷ steps) = ap₂ (λ (ps qs : List (List PlacedRule)). ps ++ qs) (same_paths s) (all_same_paths steps)

pub paths_in_range : (system : System) (steps : List ProofNodeStep) → AllByRecursion (IsWellMadeInRange system) steps
    → AllByRecursion (AllByRecursion IsPlacedInRange) (paths_in paths_of_step steps)
paths_in_range system [] h = tt
paths_in_range system (s ∷ steps) h =
    all_append (AllByRecursion IsPlacedInRange) (paths_of_step s) (paths_in paths_of_step steps) (step_paths_in_range s.step h.0.numbers) (paths_in_range system steps h.1)
