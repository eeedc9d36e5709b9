-- What paths of a text of version 2 share: the words that stand for paths, and what all paths may weigh together.
use Rattle.std.specs.Prelude.{ℕ, ◌+◌, ◌-◌, List, [], ◌∷◌, ◌++◌, length, max, Option, Some, None, Ok, Err}
use Rattle.trs_defs.specs.Path.{PlacedRule}
use Rattle.text_reading.specs.Reading.{Read}
use Rattle.path_text.specs.declared.sharing.Shared.{Shared}

-- ---- weights

-- each step weighs 1 and the numbers of its place
abbrev pub path_weight : List PlacedRule → ℕ
path_weight [] = 0
path_weight (s ∷ path) = 1 + length s.place + path_weight path

abbrev pub paths_weight : List (List PlacedRule) → ℕ
paths_weight [] = 0
paths_weight (path ∷ paths) = path_weight path + paths_weight paths

-- the numbers of the longest place
abbrev pub longest_place : List PlacedRule → ℕ
longest_place [] = 0
longest_place (s ∷ path) = max (length s.place) (longest_place path)

-- ---- what is shared

-- a word, and the path that it stands for
abbrev pub Definition : Type 0
Definition = List ℕ × List PlacedRule

-- In version 1 nothing is shared. In version 2 these are the definitions so far, and the weight that is left for further
-- paths.
abbrev pub Sharing : Type 0
Sharing = Option Shared

-- no word is defined yet, and all paths together may weigh this
abbrev pub nothing_defined : Shared
nothing_defined = record { definitions = []; room = 8388608 }

-- one more word is defined, and its path has its weight
abbrev pub with_definition : Shared → Definition → Shared
with_definition shared d =
    record { definitions = shared.definitions ++ d ∷ []; room = shared.room - path_weight d.1 }

-- what a path leaves
abbrev pub behind_path : Sharing → List PlacedRule → Sharing
behind_path None path = None
behind_path (Some shared) path = Some (record { definitions = shared.definitions; room = shared.room - path_weight path })

abbrev pub behind_paths : Sharing → List (List PlacedRule) → Sharing
behind_paths sharing [] = sharing
behind_paths sharing (path ∷ paths) = behind_paths (behind_path sharing path) paths

-- what a path leaves that was read, or refused
abbrev pub behind_read : Sharing → Read (List PlacedRule) → Sharing
behind_read sharing (Ok path) = behind_path sharing path
behind_read sharing (Err p) = sharing
