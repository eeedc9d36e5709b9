-- How the right side of a pair, projected, stands in the left one, as it is remembered.
use Rattle.std.specs.Prelude.{◌≡◌, ℕ, ◌+◌, Bool, true, false, List, All, Some, slice_get}
use Rattle.trs_defs.specs.Position.{argument_at}
use Rattle.pair_theory.specs.Marked.{plain}
use Rattle.pair_theory.specs.DependencyPair.{DependencyPair}
use Rattle.order_search.specs.dp_core.declared.contained.Containment.{Containment}
use Rattle.order_search.specs.dp_core.declared.contained.Containment.TheVariants.{Equal, Proper, Missing}
use Rattle.order_find.specs.Subterms.{has_subterm, has_proper_subterm}
use Rattle.order_find.specs.SubtermSpace.{both_pass}
use Rattle.order_find.specs.declared.memo.Known.{Known}

abbrev pub is_subterm : Containment → Bool
is_subterm Equal = true
is_subterm Proper = true
is_subterm Missing = false

abbrev pub is_proper : Containment → Bool
is_proper Equal = false
is_proper Proper = true
is_proper Missing = false

-- with these values of its roots; it is missing too where a side has no such argument
pub record ProjectsSo (p : DependencyPair) (left right : ℕ) (found : Containment) : Type 0 where
  pub within : both_pass has_subterm (argument_at (plain p.from) (left + 1)) (argument_at (plain p.to) (right + 1)) ≡ is_subterm found
  pub properly : both_pass has_proper_subterm (argument_at (plain p.from) (left + 1)) (argument_at (plain p.to) (right + 1)) ≡ is_proper found

-- the pair of this number
abbrev pub PairProjectsSo : List DependencyPair → ℕ → ℕ → ℕ → Containment → Type 0
PairProjectsSo pairs n left right found = (p : DependencyPair) → slice_get pairs n ≡ Some p → ProjectsSo p left right found

abbrev pub IsTrueOf : List DependencyPair → Known → Type 0
IsTrueOf pairs k = (found : Containment) → k.containment ≡ Some found → PairProjectsSo pairs k.pair k.left k.right found

abbrev pub AreTrueOf : List DependencyPair → List Known → Type 0
AreTrueOf pairs known = All (IsTrueOf pairs) known

abbrev pub AreAlwaysTrue : List Known → Type 0
AreAlwaysTrue known = (pairs : List DependencyPair) → AreTrueOf pairs known

-- the new ones are true where the old ones are
abbrev pub StaysTrue : List Known → List Known → Type 0
StaysTrue old new = (pairs : List DependencyPair) → AreTrueOf pairs old → AreTrueOf pairs new

-- the pair projects so, if what is known is true
abbrev pub IsKnown : List Known → ℕ → ℕ → ℕ → Containment → Type 0
IsKnown known n left right found = (pairs : List DependencyPair) → AreTrueOf pairs known → PairProjectsSo pairs n left right found

-- the new ones are true where the old ones are, and the pair projects so
abbrev pub Remembers : List Known → ℕ → ℕ → ℕ → Containment → List Known → Type 0
Remembers old n left right found new =
    (pairs : List DependencyPair) → AreTrueOf pairs old → PairProjectsSo pairs n left right found → AreTrueOf pairs new
