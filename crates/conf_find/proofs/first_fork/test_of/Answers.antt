use Rattle.conf_find.specs.ForkRows.{both_normal, not_both}
use Rattle.conf_find.proofs.first_fork.test_of.Goals.{else-branch-via-then-branch+in_ok-is_normal-2+else-branch-2, else-branch-via-else-branch}
use Rattle.conf_find.proofs.first_fork.test_of.Goals as goal

pub returns-then-branch-2 : goal.returns-then-branch-2
returns-then-branch-2 c = both_normal (c.in_ok-is_normal.ensures.normal c.if-branch.true, c.in_ok-is_normal-2.ensures.normal c.if-branch-2.true)

pub returns-else-branch : goal.returns-else-branch
returns-else-branch c = not_both (λ (left, right). elim c.else-branch.branch [
  | else-branch-via-then-branch+in_ok-is_normal-2+else-branch-2 w ↦ let (u, step) = w.in_ok-is_normal-2.ensures.reducible w.if-branch-2.false in right u step
  | else-branch-via-else-branch w ↦ let (u, step) = c.in_ok-is_normal.ensures.reducible w.if-branch.false in left u step
])
