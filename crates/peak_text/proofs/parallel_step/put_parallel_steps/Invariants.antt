use Rattle.std.proofs.Common.{◌≡◌, ◌++◌, map, drop}
use Rattle.std.specs.List.{AllByRecursion}
use Rattle.sexp_core.specs.Items.{items_of}
use Rattle.sexp_core.specs.Printed.{spaced}
use Rattle.path_text.specs.Ranges.{IsPlacedInRange}
use Rattle.peak_text.specs.ParallelStep.{par_item}
use Rattle.peak_text.proofs.parallel_step.put_parallel_steps.Given as goal

abbrev pub invariant-loop-step : goal.invariant-loop-step
invariant-loop-step l = record {
  text :
      l.out.items ++ spaced (items_of (map par_item (map (λ v. v.items) (drop l.step-index l.steps))))
      ≡ l.initial.out.items ++ spaced (items_of (map par_item (map (λ v. v.items) l.steps)));
  range :
      AllByRecursion (AllByRecursion IsPlacedInRange) (map (λ v. v.items) (drop l.step-index l.steps))
      → AllByRecursion (AllByRecursion IsPlacedInRange) (map (λ v. v.items) l.steps);
}
