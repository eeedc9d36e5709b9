use Rattle.pair_theory.proofs.Problems.{removal_theorem, removal_erased}
use Rattle.pair_theory.proofs.remove_pairs.Goals as goal

pub returns-clause-finite : goal.returns-clause-finite
returns-clause-finite g c = λ system pairs stays ok good speaks falls class.
    removal_theorem system ok (g.O.ReductionOrder.is_weak c.args.order.now) (g.O.ReductionOrder.is_strict c.args.order.now)
    (g.O.ReductionOrder.speaks_of c.args.order.now) (g.O.ReductionOrder.laws c.args.order.now).well_founded falls speaks
    pairs stays good class

pub returns-clause-erased : goal.returns-clause-erased
returns-clause-erased g c = λ system pairs stays entry ok good speaks falls class.
    removal_erased system ok (g.O.ReductionOrder.is_weak c.args.order.now) (g.O.ReductionOrder.is_strict c.args.order.now)
    (g.O.ReductionOrder.speaks_of c.args.order.now) (g.O.ReductionOrder.laws c.args.order.now).well_founded falls entry speaks
    pairs stays good class
