use Rattle.order_search.proofs.RootSets.{one_added}
use Rattle.order_search.proofs.roots.add.Goals as goal

pub returns : goal.returns
returns c = one_added c.args.set.now c.insert.new.self c.args.f c.in_ok-insert.ensures.updates
