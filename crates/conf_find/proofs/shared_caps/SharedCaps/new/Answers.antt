use Rattle.std.proofs.Common.{[], ap}
use Rattle.conf_find.specs.SharedCaps.{caps_over}
use Rattle.conf_find.proofs.SharedCapLaws.{none_ordered}
use Rattle.conf_find.proofs.shared_caps.SharedCaps.new.Goals as goal

pub invariant_of-result : goal.invariant_of-result
invariant_of-result c = none_ordered _ c.new.ensures.items

pub returns : goal.returns
returns c = ap (caps_over []) c.new.ensures.items
