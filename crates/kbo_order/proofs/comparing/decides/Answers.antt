use Rattle.std.proofs.Common.{ap}
use Rattle.trs_core.specs.View.{tree}
use Rattle.kbo_order.proofs.Sight.{apart_decides}
use Rattle.kbo_order.proofs.comparing.decides.Goals as goal

pub returns-in-App-t : goal.returns-in-App-t
returns-in-App-t g c =
    apart_decides (g.W.Weighting.weights c.args.order.now) (g.W.Weighting.ranks c.args.order.now) c.in-App.f c.in-App-t.g _ _ (tree c.args.s.now) (tree c.args.t.now)
    c.rank.result c.rank-in-App-t.result (ap tree c.in-App.is) (ap tree c.in-App-t.is) c.requires c.rank.ensures c.rank-in-App-t.ensures
