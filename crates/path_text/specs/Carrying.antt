-- What is shared when printed paths are read again: the definitions of those that have names, and enough weight.
use Rattle.std.specs.Prelude.{◌≡◌, ℕ, ◌<◌, ◌≤◌, ◌^◌, List, [], length, slice_get, Some, None, Ok}
use Rattle.trs_defs.specs.Path.{PlacedRule}
use Rattle.text_reading.specs.Reading.{chosen}
use Rattle.path_text.specs.Sharing.{Definition, Sharing}
use Rattle.path_text.specs.PathNames.{path_name}

-- each of these paths is defined by its name
pub record AreNamed (definitions : List Definition) (names : List (List PlacedRule)) : Type 0 where
  pub found : (k : ℕ) (p : List PlacedRule) → slice_get names k ≡ Some p → (at : ℕ) → chosen definitions at (path_name k) ≡ Ok p
  pub numbered : length names < 2 ^ 64

-- paths of this weight can be read, as they are printed with these names
abbrev pub Carries : Sharing → List (List PlacedRule) → ℕ → Type 0
Carries None names weight = names ≡ []
Carries (Some shared) names weight = AreNamed shared.definitions names × (weight ≤ shared.room)
