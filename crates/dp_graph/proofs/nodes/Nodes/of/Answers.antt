use Rattle.std.proofs.Common.{◌<◌, length, get_or, None, refl, ap, arith}
use Rattle.std.proofs.lemmas.Option.{slice_get_read, slice_get-get_or}
use Rattle.dp_graph.proofs.PairNodeLaws.{no_rules, one_more_rule, all_rules}
use Rattle.dp_graph.proofs.nodes.Nodes.of.Goals as goal

pub loop-k-init : goal.loop-k-init
loop-k-init c = no_rules c.args.by_root.now.rules c.args.lefts.now _ (c.in_ok-new.ensures c.args.by_root.now.rules c.args.lefts.now c.in_ok-noted.ensures) c.in_ok-with_capacity.ensures.items c.new-2.ensures.items

pub bounds-lefts-k : goal.bounds-lefts-k
bounds-lefts-k c = let n = c.requires.count in let same = ap length c.rules-rule-items.ensures.rules in omega (arith, c.loop-k-test.true, n, same)

pub loop-k-preserved : goal.loop-k-preserved
loop-k-preserved c =
    let rules = c.args.by_root.now.rules in
    let lefts = c.args.lefts.now in
    let k = c.loop-k.k in
    let rule = c.rule-item.result in
    let same = ap length c.rules-rule-items.ensures.rules in
    let low : k < length rules = omega (arith, c.loop-k-test.true, same) in
    let read = rw c.rules-rule-items.ensures.rules at c.rule-item.is in
    let number : k < length lefts = (let n = c.requires.count in omega (arith, low, n)) in
    one_more_rule rules lefts k (get_or lefts k None) rule c.loop-k.nodes c.add_rule.new.self low read (slice_get_read rules (length rules) k rule refl low read)
    (slice_get-get_or lefts k None number) c.in_ok-add_rule.ensures c.loop-k.invariant

pub returns : goal.returns
returns c =
    let same = ap length c.rules-rule-items.ensures.rules in
    all_rules c.args.by_root.now.rules c.args.lefts.now c.loop-k.k c.loop-k.nodes (omega (arith, same, c.loop-k-test.false)) c.loop-k.invariant
