use Rattle.dp_core.proofs.NumberedPairs.{pair_at}
use Rattle.dp_core.proofs.LeastLacking.{rule_asked}
use Rattle.dp_core.proofs.entries.lacking_in_rules.Goals as goal

pub loop-k-preserved : goal.loop-k-preserved
loop-k-preserved g c = λ chosen are.
    let r = c.index-rules-k.result in
    let there = pair_at c.args.rules.now c.args.numbers.now chosen c.loop-k.k-index r c.requires are c.loop-k-test.true c.index-rules-k.is in
    rule_asked (g.O.ReductionPair.has c.args.order.now) chosen c.loop-k.k-index r c.loop-k.least c.lacking_in_rule-least.result _ there
    c.lacking_in_rule-least.ensures (c.loop-k.invariant chosen are)
