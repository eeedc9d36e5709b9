use Rattle.trs_defs.specs.Size.{size_of}
use Rattle.trs_core.specs.View.{tree}
use Rattle.term_pool.proofs.ArgumentIds.{AreMade}
use Rattle.term_pool.proofs.InstanceIds.{value_in}
use Rattle.term_pool.proofs.pools.Pool.+instance.Given as goal

abbrev pub decreases-instance : goal.decreases-instance
decreases-instance l = size_of (tree l.t.now)

abbrev pub invariant-loop-arg : goal.invariant-loop-arg
invariant-loop-arg l = AreMade (value_in l.fn.self l.found) l.fn.self l.self l.arg-items l.ids.items l.arg-index
