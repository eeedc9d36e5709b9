use Rattle.dp_core.proofs.SubtermLaws.{none_leaves, some_leave}
use Rattle.dp_core.proofs.subterm.left_over.Goals as goal

pub returns-then-not-is_any : goal.returns-then-not-is_any
returns-then-not-is_any c =
    let not_any = c.if-not-is_any.true in
    none_leaves c.args.problem.now c.args.removed.now (λ m. let set = c.is_any.ensures.1 m in absurd cc)

pub returns : goal.returns
returns c =
    let is_set = c.if-not-is_any.false in
    some_leave c.args.problem.now c.args.removed.now c.in_ok-remaining.field-0.items (c.is_any.ensures.0 cc) c.in_ok-remaining.ensures
