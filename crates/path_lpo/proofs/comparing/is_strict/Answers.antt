use Rattle.trs_core.specs.View.{tree}
use Rattle.order_theory.specs.ArgumentFilter.{filtered}
use Rattle.path_lpo.proofs.Walks.{greater_test}
use Rattle.path_lpo.proofs.comparing.is_strict.Goals as goal

pub returns : goal.returns
returns g c =
    let filter = g.P.Precedence.filters c.args.order.now in
    greater_test (g.P.Precedence.ranks c.args.order.now) (filtered filter (tree c.args.s.now)) (filtered filter (tree c.args.t.now)) c.compare_terms.result c.is_greater.result c.compare_terms.ensures c.is_greater.ensures
