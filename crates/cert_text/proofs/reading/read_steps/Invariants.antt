use Rattle.std.proofs.Common.{◌≡◌, drop, map}
use Rattle.sexp_core.specs.Items.{views}
use Rattle.step_text.specs.cert_step.ProofStep.{node_step_of}
use Rattle.path_text.specs.Paths.{in_turn}
use Rattle.path_text.proofs.InTurn.{behind_values}
use Rattle.step_text.specs.Steps.{step, paths_of_step}
use Rattle.cert_text.proofs.reading.read_steps.Given as goal

abbrev pub invariant-loop-item : goal.invariant-loop-item
invariant-loop-item l =
    behind_values (map node_step_of l.steps.items) (in_turn (step l.system) paths_of_step l.sharing (views (drop l.item-index l.items)))
    ≡ in_turn (step l.system) paths_of_step l.initial.sharing (views l.items)
