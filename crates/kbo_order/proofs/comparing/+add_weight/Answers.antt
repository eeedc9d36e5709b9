use Rattle.std.proofs.Common.{◌+◌, subst, drop}
use Rattle.trs_defs.proofs.ArgumentLists.{cell}
use Rattle.trs_core.specs.View.{tree, forest}
use Rattle.kbo_order.proofs.Sums.{Added, argument_added}
use Rattle.kbo_order.proofs.Differences.{Remains, more_counted}
use Rattle.kbo_order.proofs.comparing.+add_weight.Goals as goal

pub loop-arg-preserved : goal.loop-arg-preserved
loop-arg-preserved g t c =
    let w = g.W.Weighting.weights c.args.order.now in
    let items = c.deref-arg-items.result.now in
    let rest = forest (drop (c.loop-arg.arg-index + 1) items) in
    let here = cell items c.loop-arg.arg-index c.arg-item.result c.loop-arg-test.true c.arg-item.is in
    let before = subst (λ us. Added w c.args.weight (tree c.args.t.now) (forest us) c.loop-arg.sum × Remains g.row.N c.args.from c.args.side (forest items) (forest us) c.args.balances.now c.loop-arg.balances) here
    c.loop-arg.invariant in (
      argument_added w c.args.weight (tree c.args.t.now) (tree c.arg-item.result) rest c.loop-arg.sum before.0 c.in_ok-sum-in-App-2.sum c.in_ok-sum-in-App-2.ensures.weight,
      more_counted g.row.N c.args.from c.args.side (forest items) (tree c.arg-item.result) rest c.args.balances.now c.loop-arg.balances c.add_weight.new.balances before.1 c.in_ok-sum-in-App-2.ensures.counted,
    )
