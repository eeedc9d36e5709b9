use Rattle.std.specs.Prelude.{None, slice_set}
use Rattle.tree_tests.proofs.Holding.{held_again}
use Rattle.tree_tests.proofs.calls.post.Goals as goal

pub returns : goal.returns
returns c =
    held_again c.post_taken.new.tree (slice_set c.args.held.now.items c.args.ticket None) c.take_held-taken.new.held.items c.take_held-taken.ensures.held
    (c.post_taken.ensures c.args.held.now.items c.requires)
