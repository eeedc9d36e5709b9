use Rattle.std.proofs.Common.{◌≡◌, ◌++◌, [], map, drop}
use Rattle.sexp_core.specs.Items.{items_of}
use Rattle.sexp_core.specs.Printed.{spaced}
use Rattle.step_text.specs.cert_step.ProofStep.{node_step_of}
use Rattle.step_text.specs.Steps.{step_item}
use Rattle.report_text.proofs.goal_lines.put_steps.Given as goal

abbrev pub invariant-loop-step : goal.invariant-loop-step
invariant-loop-step l =
    l.out.items ++ spaced (items_of (map (step_item l.system []) (map node_step_of (drop l.step-index l.steps))))
    ≡ l.initial.out.items ++ spaced (items_of (map (step_item l.system []) (map node_step_of l.steps)))
