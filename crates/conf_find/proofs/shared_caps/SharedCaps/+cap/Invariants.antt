use Rattle.std.proofs.Common.{◌≡◌, map, take}
use Rattle.trs_caps.specs.View.{holed}
use Rattle.conf_find.specs.SharedCaps.{cap_at}
use Rattle.conf_find.proofs.shared_caps.SharedCaps.+cap.Given as goal

abbrev pub decreases-cap : goal.decreases-cap
decreases-cap l = l.k

abbrev pub invariant-loop-part : goal.invariant-loop-part
invariant-loop-part l = map holed l.items.items ≡ map (cap_at l.self) (take l.part-index l.part-items)
