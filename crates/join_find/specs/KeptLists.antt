-- Lists that are kept by ids.
use Rattle.std.specs.Prelude.{◌≡◌, ℕ, nat_eq, cond, List, Option, Some}
use Rattle.std.specs.Option.{option_map}
use Rattle.indexmap.specs.IndexMap.{get}
use Rattle.join_find.specs.CommonIds.{Reached}
use Rattle.join_find.specs.declared.kept_lists.KeptLists.{KeptLists}

-- the list of an id
abbrev pub list_of : KeptLists → ℕ → Option (List Reached)
list_of lists id = option_map (λ list. list.items) (get nat_eq lists.by_id id)

-- the id has the list, and each other id what it had
abbrev pub IsPut : ℕ → List Reached → KeptLists → KeptLists → Type 0
IsPut id found old new = (i : ℕ) → list_of new i ≡ cond (nat_eq id i) (Some found) (list_of old i)

-- each list is of a kind
abbrev pub AreOf : (ℕ → List Reached → Type 0) → KeptLists → Type 0
AreOf kind lists = (id : ℕ) (found : List Reached) → list_of lists id ≡ Some found → kind id found
