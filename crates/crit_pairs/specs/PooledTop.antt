-- Tops of critical peaks whose sides stand in a pool.
use Rattle.trs_defs.specs.Tree.{Tree}
use Rattle.crit_pairs.specs.UnbuiltTop.{unbuilt_tree}
use Rattle.crit_pairs.specs.declared.pooled_top.PooledTop.{PooledTop}

-- that of the top without sides
abbrev pub pooled_tree : PooledTop → Tree
pooled_tree top = unbuilt_tree top.top
