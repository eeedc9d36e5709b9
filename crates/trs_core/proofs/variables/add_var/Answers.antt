use Rattle.trs_core.proofs.SeenItems.{one_more_seen}
use Rattle.trs_core.proofs.variables.add_var.Goals as goal

pub returns-in_ok-push-clause-seen : goal.returns-in_ok-push-clause-seen
returns-in_ok-push-clause-seen c =
    rw c.in_ok-push.ensures.items (one_more_seen c.args.seen.now c.insert.new.self c.args.vars.now.items c.args.v c.in_ok-insert.ensures.added c.requires)
