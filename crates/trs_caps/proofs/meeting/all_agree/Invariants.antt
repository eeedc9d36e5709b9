use Rattle.std.proofs.Common.{◌↔◌, length}
use Rattle.trs_caps.specs.Parts.{HaveInstances}
use Rattle.trs_caps.specs.PartLists.{parts_at}
use Rattle.trs_caps.proofs.meeting.all_agree.Given as goal

abbrev pub invariant-loop-there : goal.invariant-loop-there
invariant-loop-there l = HaveInstances (parts_at l.parts) ↔ HaveInstances (parts_at l.fn.parts)

abbrev pub decreases-loop-there : goal.decreases-loop-there
decreases-loop-there l = length l.parts.entries
