use Rattle.trs_core.specs.View.{tree}
use Rattle.order_theory.specs.ArgumentFilter.{filtered}
use Rattle.path_lpo.proofs.SharedPairs.{pair_compares}
use Rattle.path_lpo.proofs.Walks.{at_least_test}
use Rattle.path_lpo.proofs.comparing.is_weak_shared.Goals as goal

pub compare_pair-requires : goal.compare_pair-requires
compare_pair-requires g c = c.requires.parted

pub returns-in-Some : goal.returns-in-Some
returns-in-Some g c =
    let rank = g.P.Precedence.ranks c.args.order.now in
    let filter = g.P.Precedence.filters c.args.order.now in
    at_least_test rank (filtered filter (tree c.args.s.now)) (filtered filter (tree c.args.t.now)) c.in-Some.comparison c.is_at_least.result
    (pair_compares rank (filtered filter (tree c.args.s.now)) (filtered filter (tree c.args.t.now)) c.args.shared.now c.requires c.in-Some.comparison c.in-Some.ensures) c.is_at_least.ensures
