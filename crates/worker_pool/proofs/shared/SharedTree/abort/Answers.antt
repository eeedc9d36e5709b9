use Rattle.tree_core.specs.tree_definitions.History.{aborted}
use Rattle.worker_pool.proofs.Sharing.{runs_whole, notes_add, notes_end}
use Rattle.worker_pool.proofs.shared.SharedTree.abort.Goals as goal

pub abort-requires : goal.abort-requires
abort-requires c = runs_whole c.args.self.now.tree c.args.seat c.args.ticket c.tickets_have_one_seat.ensures c.requires

pub returns-clause-adds : goal.returns-clause-adds
returns-clause-adds c =
    notes_add c.args.self.now.tree c.abort.new.self c.args.seat c.args.ticket aborted c.tickets_have_one_seat.ensures c.requires c.abort.ensures

pub returns-clause-ended : goal.returns-clause-ended
returns-clause-ended c =
    notes_end c.args.self.now.tree c.abort.new.self c.args.seat c.args.ticket aborted c.tickets_have_one_seat.ensures c.requires c.abort.ensures
