-- What trying a rule at a place leaves.
use Rattle.std.specs.Prelude.{◌≡◌, List, [], ◌∷◌, ◌++◌, ◌⊎◌}
use Rattle.trs_defs.specs.Tree.{Tree}
use Rattle.trs_defs.specs.Substitution.{IsInstance}
use Rattle.trs_defs.specs.Path.{PlacedRule}

-- the step was added where t is an instance of the left side, and nothing where it is none
abbrev pub IsTried : Tree → Tree → PlacedRule → List PlacedRule → List PlacedRule → Type 0
IsTried left t s old new = (IsInstance left t × (new ≡ old ++ s ∷ [])) ⊎ ((IsInstance left t → ⊥) × (new ≡ old))
