use Rattle.std.proofs.Common.{◌≡◌, ◌++◌, drop, map}
use Rattle.step_text.specs.cert_step.ProofStep.{node_step_of}
use Rattle.path_text.specs.Paths.{paths_in}
use Rattle.step_text.specs.Steps.{paths_of_step}
use Rattle.cert_text.proofs.printing.paths_of_steps.Given as goal

abbrev pub invariant-loop-step : goal.invariant-loop-step
invariant-loop-step l =
    map (λ p. p.now) l.paths.items ++ paths_in paths_of_step (map node_step_of (drop l.step-index l.steps))
    ≡ paths_in paths_of_step (map node_step_of l.steps)
