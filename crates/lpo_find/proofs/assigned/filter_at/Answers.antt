use Rattle.std.proofs.Common.{List, [], map, slice_get, ap, sym, ◌∙◌}
use Rattle.std.specs.Prelude.{unwrap_or}
use Rattle.order_theory.specs.ArgumentFilter.{Keep}
use Rattle.path_lpo.specs.declared.entries.Filter.{Filter}
use Rattle.path_lpo.specs.Plain.{plain_filter}
use Rattle.lpo_find.specs.Filters.{plain_filters}
use Rattle.lpo_find.proofs.Assigning.{looked_up}
use Rattle.lpo_find.proofs.assigned.filter_at.Goals as goal

pub returns-in-Some : goal.returns-in-Some
returns-in-Some c =
    c.filter_of.ensures
    ∙ (ap (λ (l : List Filter). unwrap_or (slice_get (map plain_filter l) c.args.number) (Keep [])) c.deref.ensures.value
    ∙ sym (ap (λ o. unwrap_or (slice_get (unwrap_or o []) c.args.number) (Keep [])) (looked_up plain_filters c.args.filters.now c.args.place c.get.result _ c.get.ensures.lookup c.in-Some.is)))

pub returns-in-None : goal.returns-in-None
returns-in-None c =
    sym (ap (λ o. unwrap_or (slice_get (unwrap_or o []) c.args.number) (Keep [])) (looked_up plain_filters c.args.filters.now c.args.place c.get.result _ c.get.ensures.lookup c.in-None.is))
