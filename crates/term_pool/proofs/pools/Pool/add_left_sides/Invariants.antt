use Rattle.term_pool.proofs.LeftSideLaws.{AreAdded}
use Rattle.term_pool.proofs.pools.Pool.add_left_sides.Given as goal

abbrev pub invariant-loop-rule : goal.invariant-loop-rule
invariant-loop-rule l = AreAdded l.rules l.fn.self l.self l.ids.items l.rule-index
