use Rattle.std.proofs.Common.{◌∙◌}
use Rattle.kbo_find.proofs.assigned.AssignedWeighting.rank.Goals as goal

pub returns : goal.returns
returns c = c.from.ensures ∙ c.value.ensures
