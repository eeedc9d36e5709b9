use Rattle.std.proofs.Common.{◌≡◌, length, arith, ap}
use Rattle.trs_defs.proofs.ListItems.{item_there}
use Rattle.loop_find.proofs.RuleClosures.{rule_loops, no_rule_yet, one_more_rule, no_rule_loops}
use Rattle.loop_find.proofs.rule_loops.loop_of_rules.Goals as goal

pub loop-k-init : goal.loop-k-init
loop-k-init c = no_rule_yet c.args.trs.now.rules

pub returns-in-Some : goal.returns-in-Some
returns-in-Some c =
    let rules = c.args.trs.now.rules in
    let long : length c.rules-k-end.result.now ≡ length c.args.trs.now.rules = ap length c.rules-k-end.ensures.rules in
    let (r, at) = item_there rules c.loop-k.k (omega (arith, long, c.loop-k-test.true)) in
    rule_loops rules c.loop-k.k r at c.loop-k.invariant.ahead c.loop-k.invariant.are c.loop-k.invariant.none c.in-Some.found ((rw c.in-Some.is at c.in_ok-found.ensures) r at)

pub loop-k-preserved : goal.loop-k-preserved
loop-k-preserved c =
    let rules = c.args.trs.now.rules in
    let long : length c.rules-k-end.result.now ≡ length c.args.trs.now.rules = ap length c.rules-k-end.ensures.rules in
    let (r, at) = item_there rules c.loop-k.k (omega (arith, long, c.loop-k-test.true)) in
    one_more_rule rules c.loop-k.k r at c.loop-k.invariant ((rw c.in_default.is at c.in_ok-found.ensures) r at)

pub returns : goal.returns
returns c =
    let long : length c.rules-k-end.result.now ≡ length c.args.trs.now.rules = ap length c.rules-k-end.ensures.rules in
    no_rule_loops c.args.trs.now.rules c.loop-k.k c.loop-k.invariant (omega (arith, long, c.loop-k-test.false))
