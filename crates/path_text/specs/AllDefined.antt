-- What is shared behind the definitions of all paths that have names.
use Rattle.std.specs.Prelude.{ℕ, suc, List, [], ◌∷◌}
use Rattle.trs_defs.specs.Path.{PlacedRule}
use Rattle.path_text.specs.declared.sharing.Shared.{Shared}
use Rattle.path_text.specs.Sharing.{Definition, with_definition}
use Rattle.path_text.specs.PathNames.{path_name}

-- these paths are defined, with the names from this number on
abbrev pub all_defined : Shared → ℕ → List (List PlacedRule) → Shared
all_defined shared k [] = shared
all_defined shared k (p ∷ ps) = all_defined (with_definition shared (path_name k, p)) (suc k) ps

abbrev pub definitions_from : ℕ → List (List PlacedRule) → List Definition
definitions_from k [] = []
definitions_from k (p ∷ ps) = (path_name k, p) ∷ definitions_from (suc k) ps
