use Rattle.std.proofs.Common.{[], ap, sym, ◌∙◌}
use Rattle.std.specs.Prelude.{unwrap_or}
use Rattle.order_theory.specs.ArgumentFilter.{Keep}
use Rattle.path_lpo.specs.Plain.{plain_filter}
use Rattle.lpo_find.proofs.Assigning.{looked_up}
use Rattle.lpo_find.proofs.assigned.filter_of.Goals as goal

pub returns-in-Some : goal.returns-in-Some
returns-in-Some c =
    c.lend.ensures
    ∙ sym (ap (λ o. unwrap_or o (Keep [])) (looked_up plain_filter c.args.filters.now c.args.number c.get.result _ c.get.ensures.lookup c.in-Some.is))

pub returns-in-None : goal.returns-in-None
returns-in-None c =
    sym (ap (λ o. unwrap_or o (Keep [])) (looked_up plain_filter c.args.filters.now c.args.number c.get.result _ c.get.ensures.lookup c.in-None.is))
