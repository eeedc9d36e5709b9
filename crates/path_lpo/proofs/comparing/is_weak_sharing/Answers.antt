use Rattle.trs_core.specs.View.{tree}
use Rattle.order_theory.specs.ArgumentFilter.{filtered}
use Rattle.path_lpo.proofs.Walks.{at_least_test}
use Rattle.path_lpo.proofs.comparing.is_weak_sharing.Goals as goal

pub returns-clause-weak : goal.returns-clause-weak
returns-clause-weak g c =
    let filter = g.P.Precedence.filters c.args.order.now in
    at_least_test (g.P.Precedence.ranks c.args.order.now) (filtered filter (tree c.args.s.now)) (filtered filter (tree c.args.t.now)) c.compare_sharing-comparison.result.0 c.is_at_least.result c.compare_sharing-comparison.ensures.comparison c.is_at_least.ensures
