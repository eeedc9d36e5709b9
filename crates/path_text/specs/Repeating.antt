-- Paths that were seen once, or more than once, as the code has them.
use Rattle.std.specs.Prelude.{◌≡◌, ◌<◌, nat_lt, List, [], ◌∷◌, ◌++◌, length, is_some, if◌then◌else◌}
use Rattle.trs_defs.specs.Path.{PlacedRule}
use Rattle.path_text.specs.PathNames.{path_number, occurrences}

-- Of the paths of at least one step, these are the ones that occur, and those that occur more than once.
pub record AreSeen (known again done : List (List PlacedRule)) : Type 0 where
  pub occurring : (p : List PlacedRule) → 0 < length p → is_some (path_number known p) ≡ nat_lt 0 (occurrences p done)
  pub repeated : (p : List PlacedRule) → 0 < length p → is_some (path_number again p) ≡ nat_lt 1 (occurrences p done)

abbrev pub with_missing : List (List PlacedRule) → List PlacedRule → List (List PlacedRule)
with_missing names p = if is_some (path_number names p) then names else names ++ p ∷ []

-- what is seen again behind one more path
abbrev pub again_behind : List (List PlacedRule) → List (List PlacedRule) → List PlacedRule → List (List PlacedRule)
again_behind known again [] = again
again_behind known again (s ∷ p) = if is_some (path_number known (s ∷ p)) then with_missing again (s ∷ p) else again
