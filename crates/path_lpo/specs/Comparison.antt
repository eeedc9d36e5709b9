-- How one term compares with another in the path order.
use Rattle.std.specs.Prelude.{◌≡◌, ℕ, Bool, true, false}
use Rattle.trs_defs.specs.Tree.{Tree}
use Rattle.order_theory.specs.PathOrder.{PathGreater}
use Rattle.path_lpo.specs.declared.comparison.Comparison.{Comparison}
use Rattle.path_lpo.specs.declared.comparison.Comparison.TheVariants.{Same, Greater, Neither}

abbrev pub IsComparison : (ℕ → ℕ) → Tree → Tree → Comparison → Type 0
IsComparison rank s t Same = s ≡ t
IsComparison rank s t Greater = PathGreater rank s t
IsComparison rank s t Neither = (s ≡ t → ⊥) × (PathGreater rank s t → ⊥)

abbrev pub same_if : Bool → Comparison
same_if true = Same
same_if false = Neither

abbrev pub greater_if : Bool → Comparison
greater_if true = Greater
greater_if false = Neither

abbrev pub is_greater : Comparison → Bool
is_greater Same = false
is_greater Greater = true
is_greater Neither = false

abbrev pub is_at_least : Comparison → Bool
is_at_least Same = true
is_at_least Greater = true
is_at_least Neither = false
