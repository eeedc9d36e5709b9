use Rattle.std.proofs.Common.{◌≡◌, ◌++◌, drop, map}
use Rattle.std.specs.List.{AllByRecursion}
use Rattle.sexp_core.specs.Items.{items_of}
use Rattle.sexp_core.specs.Printed.{lines}
use Rattle.step_text.specs.cert_step.ProofStep.{step_of, node_step_of}
use Rattle.step_text.specs.Ranges.{HasNumbersInRange}
use Rattle.step_text.specs.Steps.{step_item}
use Rattle.cert_text.proofs.printing.put_steps.Given as goal

abbrev pub invariant-loop-step : goal.invariant-loop-step
invariant-loop-step l = record {
  text :
      l.out.items ++ lines (items_of (map (step_item l.system l.names) (map node_step_of (drop l.step-index l.steps))))
      ≡ l.fn.out.items ++ lines (items_of (map (step_item l.system l.names) (map node_step_of l.steps)));
  range :
      AllByRecursion (λ s. HasNumbersInRange (step_of s.step)) (drop l.step-index l.steps)
      → AllByRecursion (λ s. HasNumbersInRange (step_of s.step)) l.steps;
}
