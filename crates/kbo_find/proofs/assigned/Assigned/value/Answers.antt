use Rattle.std.proofs.Common.{sym, ◌∙◌}
use Rattle.kbo_find.proofs.ValueSteps.{value_there, value_missing}
use Rattle.kbo_find.proofs.assigned.Assigned.value.Goals as goal

pub returns-in-Some : goal.returns-in-Some
returns-in-Some c =
    let x = c.args.self.now in
    c.value_at.ensures ∙ value_there x.places.now x.values.now c.args.symbol c.args.part c.requires c.in-Some.place (sym c.place.ensures ∙ c.in-Some.is)

pub returns-in-None : goal.returns-in-None
returns-in-None c =
    let x = c.args.self.now in
    value_missing x.places.now x.values.now c.args.symbol c.args.part c.requires (sym c.place.ensures ∙ c.in-None.is)
