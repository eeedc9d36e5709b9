use Rattle.trs_core.specs.View.{tree}
use Rattle.kbo_order.proofs.Differences.{both_measured}
use Rattle.kbo_order.proofs.Sight.{seen_twice, seen_apart}
use Rattle.kbo_order.proofs.comparing.see_apart.Goals as goal

pub returns-then-same : goal.returns-then-same
returns-then-same g c =
    seen_twice (g.W.Weighting.weights c.args.order.now) (g.W.Weighting.ranks c.args.order.now) g.row.N c.args.from c.requires.some (tree c.args.s.now) (tree c.args.t.now) c.args.balances.now
    (c.are_one_variable-same.ensures.0 c.if-same.true) c.requires.apart c.requires.even

pub returns : goal.returns
returns g c =
    let w = g.W.Weighting.weights c.args.order.now in
    let s = tree c.args.s.now in
    let t = tree c.args.t.now in
    let new = c.measure_both.new.balances in
    let m = c.in_ok-weights.weights in
    let known = c.in_ok-weights.ensures in
    seen_apart w (g.W.Weighting.ranks c.args.order.now) g.row.N c.args.from c.requires.some s t m.left m.right c.are_above-greater.result c.decides-rest.result
    c.are_one_variable-same.result new c.are_one_variable-same.ensures c.if-same.false known.weights.0 known.weights.1
    (both_measured g.row.N c.args.from w s t m.left m.right c.args.balances.now new c.requires.even known.weights.0 known.weights.1 known.counted)
    c.decides-rest.ensures c.are_above-greater.ensures
