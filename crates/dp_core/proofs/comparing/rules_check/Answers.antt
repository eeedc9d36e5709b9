use Rattle.std.proofs.Common.{get_or, zip}
use Rattle.std.proofs.lemmas.Result.{err_from_is_err_and}
use Rattle.rewrite_core.proofs.Items.{item_refused, one_more_passed, all_passed, none_left}
use Rattle.dp_core.specs.PairConditions.{comparing_by, rule_is_weak}
use Rattle.dp_core.proofs.NumberedPairs.{item_at}
use Rattle.dp_core.proofs.comparing.rules_check.Goals as goal

pub returns-in_err-rule_check : goal.returns-in_err-rule_check
returns-in_err-rule_check g c = λ chosen are.
    let comparing = comparing_by (g.O.ReductionPair.has c.args.order.now) (g.O.ReductionPair.is_too_big c.args.order.now) (g.O.ReductionOrder.is_weak c.args.order.now) (g.O.ReductionOrder.is_strict c.args.order.now) in
    let p = err_from_is_err_and c.from_residual.result c.from_residual.ensures.1 in
    let there = item_at c.args.rules.now c.args.numbers.now chosen c.loop-k.k-index c.index-rules-k.result c.requires are c.loop-k-test.true c.index-rules-k.is in
    rw (p.1, p.2) (item_refused (λ _ item. rule_is_weak comparing item.0 item.1) (zip c.args.numbers.now chosen) c.loop-k.k-index
    (get_or c.args.numbers.now c.loop-k.k-index 0, c.index-rules-k.result) c.in_err-rule_check.field-0.0 there c.in_err-rule_check.ensures (c.loop-k.invariant chosen are))

pub loop-k-preserved : goal.loop-k-preserved
loop-k-preserved g c = λ chosen are.
    let comparing = comparing_by (g.O.ReductionPair.has c.args.order.now) (g.O.ReductionPair.is_too_big c.args.order.now) (g.O.ReductionOrder.is_weak c.args.order.now) (g.O.ReductionOrder.is_strict c.args.order.now) in
    let there = item_at c.args.rules.now c.args.numbers.now chosen c.loop-k.k-index c.index-rules-k.result c.requires are c.loop-k-test.true c.index-rules-k.is in
    one_more_passed (λ _ item. rule_is_weak comparing item.0 item.1) (zip c.args.numbers.now chosen) c.loop-k.k-index
    (get_or c.args.numbers.now c.loop-k.k-index 0, c.index-rules-k.result) there c.in_ok-rule_check.ensures (c.loop-k.invariant chosen are)

pub returns : goal.returns
returns g c = λ chosen are.
    let comparing = comparing_by (g.O.ReductionPair.has c.args.order.now) (g.O.ReductionPair.is_too_big c.args.order.now) (g.O.ReductionOrder.is_weak c.args.order.now) (g.O.ReductionOrder.is_strict c.args.order.now) in
    all_passed (λ _ item. rule_is_weak comparing item.0 item.1) (zip c.args.numbers.now chosen) c.loop-k.k-index
    (none_left c.args.numbers.now chosen c.loop-k.k-index c.loop-k-test.false) (c.loop-k.invariant chosen are)
