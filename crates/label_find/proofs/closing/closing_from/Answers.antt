use Rattle.join_find.proofs.Firsts.{first_read, none_further, none_of_all}
use Rattle.label_find.specs.Closing.{ClosesFrom}
use Rattle.label_find.proofs.closing.closing_from.Goals as goal

pub returns-then-branch : goal.returns-then-branch
returns-then-branch c =
    first_read (ClosesFrom c.args.ranks.now c.args.numbers.0 c.args.numbers.1 c.args.pool.now c.args.left.now) c.args.rights.now c.loop-right.right-index c.right-item.result c.loop-right-test.true c.right-item.is
    (c.in_ok-closes.ensures.0 c.if-branch.true) c.loop-right.invariant

pub loop-right-preserved : goal.loop-right-preserved
loop-right-preserved c =
    none_further (ClosesFrom c.args.ranks.now c.args.numbers.0 c.args.numbers.1 c.args.pool.now c.args.left.now) c.args.rights.now c.loop-right.right-index c.right-item.result c.loop-right-test.true
    c.right-item.is (λ h. (let yes = c.in_ok-closes.ensures.1 h in absurd (cc (yes, c.if-branch.false)))) c.loop-right.invariant

pub returns : goal.returns
returns c =
    none_of_all (ClosesFrom c.args.ranks.now c.args.numbers.0 c.args.numbers.1 c.args.pool.now c.args.left.now) c.args.rights.now c.loop-right.right-index c.loop-right-test.false c.loop-right.invariant
