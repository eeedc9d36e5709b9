-- The numbers of steps that are printed are in range.
use Rattle.std.proofs.Common.{List, [], ◌∷◌, map}
use Rattle.std.specs.Prelude.{All}
use Rattle.std.specs.List.{AllByRecursion}
use Rattle.std.proofs.lemmas.List.Elements.{recursion_from_All}
use Rattle.trs_defs.specs.System.{System}
use Rattle.step_text.specs.cert_step.declared.step.NodeStep.{NodeStep}
use Rattle.step_text.specs.cert_step.ProofStep.{step_of, node_step_of}
use Rattle.step_text.specs.Ranges.{HasNumbersInRange, IsWellMadeInRange, IsPrintable}

each_made : (system : System) (steps : List NodeStep) → AllByRecursion (IsPrintable system) (map node_step_of steps)
    → AllByRecursion (λ s. HasNumbersInRange (step_of s.step)) steps → AllByRecursion (IsWellMadeInRange system) (map node_step_of steps)
each_made system [] made numbers = tt
each_made system (s ∷ steps) made numbers =
    (record { well_made = made.0.0; node = made.0.1; numbers = numbers.0 }, each_made system steps made.1 numbers.1)

-- steps that can be printed, with numbers in range, are well-made with them
pub steps_made : (system : System) (steps : List NodeStep) → All (IsPrintable system) (map node_step_of steps)
    → AllByRecursion (λ s. HasNumbersInRange (step_of s.step)) steps → AllByRecursion (IsWellMadeInRange system) (map node_step_of steps)
steps_made system steps made numbers = each_made system steps (recursion_from_All (IsPrintable system) (map node_step_of steps) made) numbers
