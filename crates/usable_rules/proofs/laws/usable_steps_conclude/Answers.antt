use Rattle.dp_core.specs.PairConditions.{comparing_by}
use Rattle.usable_rules.proofs.UsableConclusions.{usable_steps_conclude, usable_steps_once, usable_steps_leave}
use Rattle.usable_rules.proofs.laws.usable_steps_conclude.Goals as goal

pub returns : goal.returns
returns g c =
    let order = c.args.order.now in
    let comparing = comparing_by (g.O.ReductionPair.has c.args.order.now) (g.O.ReductionPair.is_too_big c.args.order.now) (g.O.ReductionOrder.is_weak c.args.order.now) (g.O.ReductionOrder.is_strict c.args.order.now) in
    let laws = g.met.O.PairingOrder in
    record {
      conclude = usable_steps_conclude comparing (g.O.ReductionOrder.speaks_of order) (laws.speaks_of_all order) (laws.above_first order) (laws.above_second order)
          c.dependency_pairs_suffice.ensures.pairs c.remove_by_usable_rules.ensures.finite;
      once = usable_steps_once comparing;
      numbers = usable_steps_leave comparing;
    }
