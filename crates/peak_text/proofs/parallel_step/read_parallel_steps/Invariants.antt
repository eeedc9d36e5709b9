use Rattle.std.proofs.Common.{◌≡◌, drop, map}
use Rattle.sexp_core.specs.Items.{views}
use Rattle.text_reading.specs.Reading.{many}
use Rattle.text_reading.specs.Seen.{seen, joined}
use Rattle.peak_text.specs.ParallelStep.{par}
use Rattle.peak_text.proofs.parallel_step.read_parallel_steps.Given as goal

abbrev pub invariant-loop-item : goal.invariant-loop-item
invariant-loop-item l =
    joined (seen (λ v. map (λ w. w.items) v.items) l.steps) (many par (views (drop l.item-index l.items))) ≡ many par (views l.items)
