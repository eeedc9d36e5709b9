use Rattle.worker_pool.proofs.Sharing.{claimed_adds, claimed_gives}
use Rattle.worker_pool.proofs.shared.SharedTree.claim.Goals as goal

pub returns-clause-task : goal.returns-clause-task
returns-clause-task c = claimed_gives c.args.self.now.tree c.claim-claimed.new.self c.args.seat c.claim-claimed.result c.claim-claimed.ensures.claim

pub returns-clause-adds : goal.returns-clause-adds
returns-clause-adds c =
    claimed_adds c.args.self.now.tree c.claim-claimed.new.self c.args.seat c.claim-claimed.result c.claim-claimed.ensures.claim
    c.claim-claimed.ensures.memory
