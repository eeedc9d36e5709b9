use Rattle.std.proofs.Common.{All, take}
use Rattle.term_pool.specs.Pooled.{tree_at}
use Rattle.term_pool.specs.LeftSides.{IsGround}
use Rattle.term_pool.proofs.pools.Pool.is_over_marked.Given as goal

abbrev pub invariant-loop-arg : goal.invariant-loop-arg
invariant-loop-arg l = All (λ id. IsGround (tree_at l.self id)) (take l.arg-index l.arg-items)
