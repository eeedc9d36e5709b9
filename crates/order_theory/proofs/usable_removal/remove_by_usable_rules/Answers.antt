use Rattle.order_theory.proofs.UsableProblems.{usable_theorem, on_all_terms}
use Rattle.order_theory.proofs.usable_removal.remove_by_usable_rules.Goals as goal

pub returns : goal.returns
returns g c = record {
  finite = λ system pairs stays usable ok good has spoken falls chooses class.
      usable_theorem system ok pairs stays good usable has (g.O.ReductionOrder.is_weak c.args.order.now) (g.O.ReductionOrder.is_strict c.args.order.now)
      (on_all_terms spoken (g.O.ReductionOrder.laws c.args.order.now).well_founded) falls chooses class;
}
