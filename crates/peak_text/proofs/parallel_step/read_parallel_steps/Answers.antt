use Rattle.std.proofs.Common.{map}
use Rattle.text_reading.specs.Seen.{seen}
use Rattle.text_reading.proofs.SeenParts.{seen_pushed, one_more}
use Rattle.peak_text.specs.ParallelStep.{par}
use Rattle.peak_text.proofs.parallel_step.read_parallel_steps.Goals as goal

pub loop-item-preserved : goal.loop-item-preserved
loop-item-preserved c =
    let more = seen_pushed (λ w. w.items) c.push.new.values c.loop-item.steps c.in_ok-read_parallel_step.field-0 _ c.in_ok-push.ensures c.in_ok-read_parallel_step.ensures in
    one_more par (seen (λ v. map (λ w. w.items) v.items) c.loop-item.steps) _ c.args.items.now c.item-item.result c.loop-item.item-index _ c.loop-item-test.true c.item-item.is more c.loop-item.invariant
