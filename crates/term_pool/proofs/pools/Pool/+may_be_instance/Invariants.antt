use Rattle.std.proofs.Common.{◌≡◌, length}
use Rattle.term_pool.proofs.pools.Pool.+may_be_instance.Given as goal

abbrev pub decreases-may_be_instance : goal.decreases-may_be_instance
decreases-may_be_instance l = l.pattern

abbrev pub invariant-loop-i : goal.invariant-loop-i
invariant-loop-i l = length l.patterns ≡ length l.ids
