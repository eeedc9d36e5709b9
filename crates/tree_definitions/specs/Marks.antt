-- The marks of a node's strategies.
use Rattle.std.specs.Prelude.{Bool, true, false}
use Rattle.tree_definitions.specs.declared.mark.Mark.{Mark}
use Rattle.tree_definitions.specs.declared.mark.Mark.TheVariants.{Idle, Failed}

abbrev pub is_idle : Mark → Bool
is_idle Idle = true
is_idle _ = false

abbrev pub has_failed : Mark → Bool
has_failed (Failed failure) = true
has_failed _ = false
