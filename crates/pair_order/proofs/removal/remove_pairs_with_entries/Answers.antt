use Rattle.pair_order.proofs.Erasure.{speaks_of_sides, speaks_erased}
use Rattle.pair_order.proofs.removal.remove_pairs_with_entries.Goals as goal

pub returns : goal.returns
returns g c = λ system pairs stays ok good over rules sides falls class.
    let entry = g.O.ReductionPair.has c.args.order.now in
    let speaks_of = g.O.ReductionOrder.speaks_of c.args.order.now in
    let spoken_var = (g.O.ReductionOrder.laws c.args.order.now).spoken_var in
    let spoken = g.met.O.ReductionPair.spoken c.args.order.now system.arities over in
    c.remove_pairs.ensures.erased system pairs stays entry ok
    (λ p i. (good p i, speaks_of_sides entry speaks_of spoken_var system.arities spoken p (good p i) (sides p i)))
    (speaks_erased entry speaks_of spoken_var system ok spoken rules) falls class
