use Rattle.std.proofs.Common.{◌+◌}
use Rattle.dp_core.proofs.NumberedPairs.{pair_at}
use Rattle.dp_core.proofs.LeastLacking.{roots_asked}
use Rattle.dp_core.proofs.entries.lacking_root.Goals as goal

pub loop-n-preserved : goal.loop-n-preserved
loop-n-preserved g c = λ taken are.
    let p = c.index-pairs-n.result in
    let there = pair_at c.args.pairs.now c.args.problem.now taken c.loop-n.n-index p c.requires.numbers are c.loop-n-test.true c.index-pairs-n.is in
    roots_asked (λ f. g.O.ReductionPair.has c.args.order.now (f + 4096)) taken c.loop-n.n-index p c.loop-n.least c.lacking_roots_with-least.result _ there
    c.lacking_roots_with-least.ensures (c.loop-n.invariant taken are)
