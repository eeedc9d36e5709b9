use Rattle.std.proofs.Common.{◌≡◌, length}
use Rattle.trs_defs.specs.Size.{size_of}
use Rattle.trs_core.specs.View.{tree}
use Rattle.term_pool.proofs.pools.Pool.+may_match.Given as goal

abbrev pub decreases-may_match : goal.decreases-may_match
decreases-may_match l = size_of (tree l.pattern.now)

abbrev pub invariant-loop-i : goal.invariant-loop-i
invariant-loop-i l = length l.p-items ≡ length l.ids
