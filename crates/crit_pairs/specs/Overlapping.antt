-- The substitution of a most general unifier, in each of its forms.
use Rattle.std.specs.Prelude.{ℕ}
use Rattle.trs_defs.specs.Tree.{Tree}
use Rattle.trs_defs.specs.Substitution.{bound}
use Rattle.crit_pairs.specs.Meeting.{solution}
use Rattle.crit_pairs.specs.declared.overlapping.OverlapUnifier.{OverlapUnifier}
use Rattle.crit_pairs.specs.declared.overlapping.OverlapUnifier.TheVariants as unifier

abbrev pub substitution : OverlapUnifier → ℕ → Tree
substitution (unifier.Bound bindings) = solution bindings
substitution (unifier.Shared found) = bound found
