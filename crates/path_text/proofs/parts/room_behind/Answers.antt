use Rattle.std.proofs.Common.{sym, ◌∙◌}
use Rattle.path_text.proofs.Weighing.{part_weighed, part_heavy}
use Rattle.path_text.proofs.parts.room_behind.Goals as goal

pub returns-in_default : goal.returns-in_default
returns-in_default c =
    part_heavy c.args.parts.now c.part-item.result c.loop-part.room c.loop-part.part-index _ c.loop-part-test.true c.part-item.is c.loop-part.invariant
    (sym c.room_behind_part.ensures ∙ c.in_default.is)

pub loop-part-preserved : goal.loop-part-preserved
loop-part-preserved c =
    part_weighed c.args.parts.now c.part-item.result c.loop-part.room c.loop-part.part-index _ c.loop-part-test.true c.part-item.is c.loop-part.invariant
    c.in-Some.left (sym c.room_behind_part.ensures ∙ c.in-Some.is)
