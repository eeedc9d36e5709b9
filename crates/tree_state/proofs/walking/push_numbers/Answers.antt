use Rattle.tree_state.proofs.Turns.{numbers_next}
use Rattle.tree_state.proofs.walking.push_numbers.Goals as goal

pub loop-k-preserved : goal.loop-k-preserved
loop-k-preserved c = numbers_next c.args.order.now.items c.loop-k.order.items c.push.new.self.items c.args.first c.loop-k.k c.loop-k.invariant c.in_ok-push.ensures.items
