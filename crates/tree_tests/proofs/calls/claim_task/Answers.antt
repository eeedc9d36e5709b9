use Rattle.tree_tests.proofs.Holding.{same_keeps, claim_keeps, claim_gives}
use Rattle.tree_tests.proofs.calls.claim_task.Goals as goal

pub returns-clause-keeps : goal.returns-clause-keeps
returns-clause-keeps c =
    claim_keeps c.args.tree.now c.claim.new.self c.args.seat c.in_ok-claimed.claimed c.check_tree.ensures.fresh c.in_ok-claimed.ensures.claim

pub returns-clause-task : goal.returns-clause-task
returns-clause-task c =
    claim_gives c.args.tree.now c.claim.new.self c.args.seat c.in_ok-claimed.claimed c.check_tree-2.ensures.owned c.in_ok-claimed.ensures.claim
    c.in_ok-claimed.ensures.runnable

pub returns-in_err-claimed-clause-keeps : goal.returns-in_err-claimed-clause-keeps
returns-in_err-claimed-clause-keeps c = same_keeps c.args.tree.now c.claim.new.self c.in_err-claimed.ensures.memory
