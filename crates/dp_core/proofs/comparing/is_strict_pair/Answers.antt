use Rattle.std.proofs.Common.{◌≡◌, ap, ◌∙◌}
use Rattle.trs_core.specs.View.{tree}
use Rattle.pair_theory.specs.Marked.{mark}
use Rattle.pair_theory.specs.DependencyPair.{DependencyPair}
use Rattle.dp_core.specs.PairConditions.{comparing_by}
use Rattle.dp_core.proofs.Comparisons.{pair_too_big, pair_not_weak, pair_strict, pair_only_weak}
use Rattle.dp_core.proofs.comparing.is_strict_pair.Goals as goal

pub returns-in-Err : goal.returns-in-Err
returns-in-Err g c =
    let comparing = comparing_by (g.O.ReductionPair.has c.args.order.now) (g.O.ReductionPair.is_too_big c.args.order.now) (g.O.ReductionOrder.is_weak c.args.order.now) (g.O.ReductionOrder.is_strict c.args.order.now) in
    let to : tree c.in_ok-right.right ≡ mark c.args.sides.now.to = c.in_ok-right.ensures ∙ ap (λ (q : DependencyPair). mark q.to) c.sides.view_is in
    let answer = rw (c.get.ensures, c.requires.left, to) at c.in-Err.ensures in
    pair_too_big comparing c.args.rules c.args.n c.args.sides.now answer

pub returns-in-Ok-Missing : goal.returns-in-Ok-Missing
returns-in-Ok-Missing g c =
    let comparing = comparing_by (g.O.ReductionPair.has c.args.order.now) (g.O.ReductionPair.is_too_big c.args.order.now) (g.O.ReductionOrder.is_weak c.args.order.now) (g.O.ReductionOrder.is_strict c.args.order.now) in
    let to : tree c.in_ok-right.right ≡ mark c.args.sides.now.to = c.in_ok-right.ensures ∙ ap (λ (q : DependencyPair). mark q.to) c.sides.view_is in
    let answer = rw (c.get.ensures, c.requires.left, to) at (rw c.in-Ok-Missing.field-0-is at c.in-Ok-Missing.ensures) in
    pair_not_weak comparing c.args.rules c.args.n c.args.sides.now answer.0 answer.1

pub returns-in-Ok-Weak : goal.returns-in-Ok-Weak
returns-in-Ok-Weak g c =
    let comparing = comparing_by (g.O.ReductionPair.has c.args.order.now) (g.O.ReductionPair.is_too_big c.args.order.now) (g.O.ReductionOrder.is_weak c.args.order.now) (g.O.ReductionOrder.is_strict c.args.order.now) in
    let to : tree c.in_ok-right.right ≡ mark c.args.sides.now.to = c.in_ok-right.ensures ∙ ap (λ (q : DependencyPair). mark q.to) c.sides.view_is in
    let answer = rw (c.get.ensures, c.requires.left, to) at (rw c.in-Ok-Weak.field-0-is at c.in-Ok-Weak.ensures) in
    pair_only_weak comparing c.args.rules c.args.n c.args.sides.now answer.0 answer.1

pub returns : goal.returns
returns g c =
    let comparing = comparing_by (g.O.ReductionPair.has c.args.order.now) (g.O.ReductionPair.is_too_big c.args.order.now) (g.O.ReductionOrder.is_weak c.args.order.now) (g.O.ReductionOrder.is_strict c.args.order.now) in
    let to : tree c.in_ok-right.right ≡ mark c.args.sides.now.to = c.in_ok-right.ensures ∙ ap (λ (q : DependencyPair). mark q.to) c.sides.view_is in
    let answer = rw (c.get.ensures, c.requires.left, to) at (rw c.in-Ok-Strict.field-0-is at c.in-Ok-Strict.ensures) in
    pair_strict comparing c.args.rules c.args.n c.args.sides.now answer.0 answer.1
