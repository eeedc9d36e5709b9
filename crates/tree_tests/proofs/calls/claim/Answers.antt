use Rattle.tree_tests.proofs.calls.claim.Goals as goal

pub returns-in-Err : goal.returns-in-Err
returns-in-Err c = c.claim_task.ensures.keeps c.args.held.now.items c.requires

pub hold-requires-clause-held : goal.hold-requires-clause-held
hold-requires-clause-held c = c.claim_task.ensures.keeps c.args.held.now.items c.requires
