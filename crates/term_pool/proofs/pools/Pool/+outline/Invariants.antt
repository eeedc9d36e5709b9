use Rattle.trs_defs.specs.Size.{size_of}
use Rattle.trs_core.specs.View.{tree}
use Rattle.term_pool.proofs.OutlineLaws.{AreOutlined}
use Rattle.term_pool.proofs.pools.Pool.+outline.Given as goal

abbrev pub decreases-outline : goal.decreases-outline
decreases-outline l = size_of (tree l.t.now)

abbrev pub invariant-loop-arg : goal.invariant-loop-arg
invariant-loop-arg l = AreOutlined l.fn.self l.self l.arg-items l.items.items l.arg-index
