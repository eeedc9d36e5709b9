use Rattle.tree_tests.specs.Held.{after_poll}
use Rattle.tree_tests.proofs.Holding.{held_again}
use Rattle.tree_tests.proofs.trial.Trial.poll.Goals as goal

pub is_running-requires : goal.is_running-requires
is_running-requires c = held_again c.self.inside.tree c.self.inside.held.items c.deref.result.now c.deref.ensures.value c.self.invariant

pub invariant_of-self : goal.invariant_of-self
invariant_of-self c =
    held_again c.poll-polled.new.tree (after_poll c.poll-polled.result c.self.inside.held.items c.args.ticket) c.settle.new.held.items c.settle.ensures
    (c.poll-polled.ensures c.self.inside.held.items c.self.invariant)
