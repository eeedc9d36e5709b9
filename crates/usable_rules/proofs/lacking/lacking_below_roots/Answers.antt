use Rattle.dp_core.proofs.NumberedPairs.{pair_at}
use Rattle.usable_rules.proofs.SymbolsAsked.{sides_asked}
use Rattle.usable_rules.proofs.lacking.lacking_below_roots.Goals as goal

pub loop-n-preserved : goal.loop-n-preserved
loop-n-preserved g c = λ taken are.
    let p = c.index-pairs-n.result in
    let there = pair_at c.args.pairs.now c.args.problem.now taken c.loop-n.n-index p c.requires are c.loop-n-test.true c.index-pairs-n.is in
    sides_asked (g.O.ReductionPair.has c.args.order.now) taken c.loop-n.n-index p c.loop-n.found c.lacking_in_sides-found.result _ there
    c.lacking_in_sides-found.ensures (c.loop-n.invariant taken are)
