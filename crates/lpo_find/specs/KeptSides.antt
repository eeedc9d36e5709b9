-- What the sides of large rules share, as it is kept.
use Rattle.std.specs.Prelude.{◌≡◌, ℕ, List, All, Option, Some, None, slice_get}
use Rattle.trs_defs.specs.System.{RewriteRule}
use Rattle.order_theory.specs.ArgumentFilter.{ArgumentFilter, filtered}
use Rattle.path_lpo.specs.Table.{filter_in}
use Rattle.path_lpo.specs.SharedPair.{ArePair}
use Rattle.path_lpo.specs.declared.pair.SharedPair.{SharedPair}
use Rattle.lpo_find.specs.LpoRow.{entries_of}
use Rattle.lpo_find.specs.declared.kept.Sides.{Sides}

-- the sides of the rule, filtered, are these two
abbrev pub AreSides : (ℕ → ArgumentFilter) → RewriteRule → SharedPair → Type 0
AreSides filter r shared = ArePair (filtered filter r.left) (filtered filter r.right) shared

-- those of the rule of this number, filtered as the values say
abbrev pub AreSidesOf : List ℕ → List ℕ → List RewriteRule → ℕ → List ℕ → SharedPair → Type 0
AreSidesOf arities symbols falling number values shared =
    (r : RewriteRule) → slice_get falling number ≡ Some r → AreSides (filter_in (entries_of arities symbols values)) r shared

abbrev pub IsTrueOf : List ℕ → List ℕ → List RewriteRule → Option Sides → Type 0
IsTrueOf arities symbols falling None = Unit {0}
IsTrueOf arities symbols falling (Some k) = AreSidesOf arities symbols falling k.number k.values.items k.shared

abbrev pub AreTrueOf : List ℕ → List ℕ → List RewriteRule → List (Option Sides) → Type 0
AreTrueOf arities symbols falling kept = All (IsTrueOf arities symbols falling) kept

abbrev pub AreAlwaysTrue : List (Option Sides) → Type 0
AreAlwaysTrue kept = (arities symbols : List ℕ) (falling : List RewriteRule) → AreTrueOf arities symbols falling kept

-- the sides of the rule share this, if what is kept is true
abbrev pub IsKnown : List (Option Sides) → List ℕ → ℕ → List ℕ → SharedPair → Type 0
IsKnown kept symbols number values shared =
    (arities : List ℕ) (falling : List RewriteRule) → AreTrueOf arities symbols falling kept → AreSidesOf arities symbols falling number values shared

-- the new ones are true where the old ones are, and the sides of the rule share this
abbrev pub Remembers : List (Option Sides) → ℕ → List ℕ → SharedPair → List (Option Sides) → Type 0
Remembers old number values shared new =
    (arities symbols : List ℕ) (falling : List RewriteRule) → AreTrueOf arities symbols falling old
    → AreSidesOf arities symbols falling number values shared → AreTrueOf arities symbols falling new
