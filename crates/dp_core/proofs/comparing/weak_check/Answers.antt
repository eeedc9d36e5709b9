use Rattle.trs_core.specs.View.{tree}
use Rattle.dp_core.specs.PairConditions.{comparing_by}
use Rattle.dp_core.proofs.Comparisons.{too_big, weakly_above, not_above}
use Rattle.dp_core.proofs.comparing.weak_check.Goals as goal

pub returns-in-Err : goal.returns-in-Err
returns-in-Err g c =
    let comparing = comparing_by (g.O.ReductionPair.has c.args.order.now) (g.O.ReductionPair.is_too_big c.args.order.now) (g.O.ReductionOrder.is_weak c.args.order.now) (g.O.ReductionOrder.is_strict c.args.order.now) in
    too_big comparing (tree c.args.left.now) (tree c.args.right.now) c.args.item c.args.otherwise c.in-Err.ensures

pub returns-in-Ok-true : goal.returns-in-Ok-true
returns-in-Ok-true g c =
    let comparing = comparing_by (g.O.ReductionPair.has c.args.order.now) (g.O.ReductionPair.is_too_big c.args.order.now) (g.O.ReductionOrder.is_weak c.args.order.now) (g.O.ReductionOrder.is_strict c.args.order.now) in
    let answer = c.in-Ok-true.ensures in
    weakly_above comparing (tree c.args.left.now) (tree c.args.right.now) c.args.item c.args.otherwise answer.0 ((answer.1).0 c.in-Ok-true.field-0-test)

pub returns-in-Ok-false : goal.returns-in-Ok-false
returns-in-Ok-false g c =
    let comparing = comparing_by (g.O.ReductionPair.has c.args.order.now) (g.O.ReductionPair.is_too_big c.args.order.now) (g.O.ReductionOrder.is_weak c.args.order.now) (g.O.ReductionOrder.is_strict c.args.order.now) in
    let answer = c.in-Ok-false.ensures in
    not_above comparing (tree c.args.left.now) (tree c.args.right.now) c.args.item c.args.otherwise answer.0
    (λ weak. let is_so = (answer.1).1 weak in let is_not = c.in-Ok-false.field-0-test in absurd cc)
