use Rattle.dp_core.specs.PairConditions.{comparing_by}
use Rattle.dp_core.proofs.OrderConclusions.{pair_steps_conclude, pair_steps_once, pair_steps_leave}
use Rattle.dp_core.proofs.laws.pair_steps_conclude.Goals as goal

pub returns : goal.returns
returns g c =
    let order = c.args.order.now in
    let comparing = comparing_by (g.O.ReductionPair.has order) (g.O.ReductionPair.is_too_big order) (g.O.ReductionOrder.is_weak order) (g.O.ReductionOrder.is_strict order) in
    record {
      conclude = pair_steps_conclude comparing (g.O.ReductionPair.speaks_over order) c.dependency_pairs_suffice.ensures.pairs c.remove_pairs_with_entries.ensures;
      once = pair_steps_once comparing;
      numbers = pair_steps_leave comparing;
    }
