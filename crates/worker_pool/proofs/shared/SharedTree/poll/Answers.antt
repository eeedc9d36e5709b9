use Rattle.worker_pool.proofs.Sharing.{runs_whole, poll_adds, poll_ends}
use Rattle.worker_pool.proofs.shared.SharedTree.poll.Goals as goal

pub poll-polled-requires : goal.poll-polled-requires
poll-polled-requires c = runs_whole c.args.self.now.tree c.args.seat c.args.ticket c.tickets_have_one_seat.ensures c.requires

pub returns-clause-adds : goal.returns-clause-adds
returns-clause-adds c =
    poll_adds c.args.self.now.tree c.poll-polled.new.self c.args.seat c.args.ticket c.poll-polled.result c.tickets_have_one_seat.ensures c.requires
    c.poll-polled.ensures

pub returns-clause-ended : goal.returns-clause-ended
returns-clause-ended c =
    poll_ends c.args.self.now.tree c.poll-polled.new.self c.args.seat c.args.ticket c.poll-polled.result c.tickets_have_one_seat.ensures c.requires
    c.poll-polled.ensures
