use Rattle.assign_search.proofs.Groups.{joined}
use Rattle.assign_search.proofs.grouping.join.Goals as goal

pub returns : goal.returns
returns c = joined (λ g. g.items) c.args.groups.now.items c.args.number c.args.c c.index_mut-group.result.now c.push.new.self c.requires c.index_mut-group.ensures.value c.in_ok-push.ensures.items
