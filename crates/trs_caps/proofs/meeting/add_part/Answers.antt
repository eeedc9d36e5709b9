use Rattle.std.proofs.Common.{refl}
use Rattle.trs_caps.specs.View.{holed}
use Rattle.trs_caps.proofs.AddedParts.{part_added}
use Rattle.trs_caps.proofs.meeting.add_part.Goals as goal

pub returns : goal.returns
returns c =
    part_added c.args.parts.now c.take_parts-there.new.parts c.insert.new.self c.args.v c.args.part (holed c.args.part.now) c.take_parts-there.result.items c.push.new.self
    refl c.take_parts-there.ensures.taken c.take_parts-there.ensures.others c.in_ok-push.ensures.items c.in_ok-insert.ensures.updates
