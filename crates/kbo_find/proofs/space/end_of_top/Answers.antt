use Rattle.std.proofs.Common.{◌==◌}
use Rattle.order_search.proofs.LastPlaces.{either_end}
use Rattle.kbo_find.proofs.space.end_of_top.Goals as goal

pub returns : goal.returns
returns c =
    either_end (λ f. c.args.top.now.unary == f) (λ f. c.args.top.now.other == f) c.args.places.now c.end_of.result c.end_of-2.result c.later.result
    c.end_of.ensures c.end_of-2.ensures c.later.ensures
