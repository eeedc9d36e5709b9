use Rattle.std.proofs.Common.{rules, ◌≡◌, max}
use Rattle.path_text.proofs.Weighing.{longest_next}
use Rattle.path_text.proofs.parts.longest_of_parts.Goals as goal

pub loop-part-preserved : goal.loop-part-preserved
loop-part-preserved c =
    let most : c.max-longest.result ≡ max c.loop-part.longest c.longest_of_part.result = search rules in
    longest_next c.args.parts.now c.part-item.result c.loop-part.longest c.longest_of_part.result c.max-longest.result c.loop-part.part-index _
    c.loop-part-test.true c.part-item.is c.loop-part.invariant c.longest_of_part.ensures most
