use Rattle.std.proofs.Common.{ℕ, ◌+◌, ap₂, ◌∙◌}
use Rattle.std.specs.Prelude.{◌==◌, if◌then◌else◌}
use Rattle.kbo_find.proofs.assigned.AssignedWeighting.weight.Goals as goal

pub returns : goal.returns
returns c = c.weight_of.ensures ∙ ap₂ (λ (a v : ℕ). if a == 0 then v + 1 else v) c.arity_of.ensures.value c.value.ensures
