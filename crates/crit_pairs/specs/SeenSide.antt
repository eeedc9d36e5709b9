-- The tree of a side that only proofs see.
use Rattle.trs_defs.specs.Tree.{Tree}
use Rattle.term_pool.specs.Pooled.{tree_at}
use Rattle.crit_pairs.specs.declared.seen_side.SeenSide.{SeenSide}

-- what its id stands for in the pool
abbrev pub seen_side : SeenSide → Tree
seen_side side = tree_at side.pool.value side.id.value
