-- The left side that is kept, renamed apart.
use Rattle.trs_defs.specs.Tree.{Tree}
use Rattle.trs_core.specs.View.{tree}
use Rattle.crit_pairs.specs.declared.apart_left.KeptLeft.{KeptLeft}
use Rattle.crit_pairs.specs.declared.apart_left.KeptLeft.TheVariants.{Ground, Copied}

abbrev pub kept_left : KeptLeft → Tree
kept_left (Ground t) = tree t.now
kept_left (Copied t) = tree t
