use Rattle.std.specs.Prelude.{None, slice_set}
use Rattle.tree_tests.proofs.Holding.{held_again}
use Rattle.tree_tests.proofs.trial.Trial.abort.Goals as goal

pub is_running-requires : goal.is_running-requires
is_running-requires c = held_again c.self.inside.tree c.self.inside.held.items c.deref.result.now c.deref.ensures.value c.self.invariant

pub invariant_of-self : goal.invariant_of-self
invariant_of-self c =
    held_again c.end_by_abort-aborted.new.tree (slice_set c.self.inside.held.items c.args.ticket None) c.clear.new.held.items c.clear.ensures
    (c.end_by_abort-aborted.ensures c.self.inside.held.items c.self.invariant)
