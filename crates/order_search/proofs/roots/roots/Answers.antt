use Rattle.order_search.proofs.RootSets.{members_if_ok}
use Rattle.order_search.proofs.roots.roots.Goals as goal
use Rattle.dp_core.specs.SubtermConditions.{roots_of}

pub returns : goal.returns
returns c = members_if_ok c.in_ok-set.set (roots_of c.args.pairs.now) c.list_members.result c.list_members.ensures.members c.list_members.ensures.ordered c.in_ok-set.ensures
