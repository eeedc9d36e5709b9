-- Definitions, as the code has them.
use Rattle.std.specs.Prelude.{ℕ, List, [], ◌∷◌, ◌++◌, Vec}
use Rattle.std.specs.Global.{Global}
use Rattle.trs_defs.specs.Path.{PlacedRule}
use Rattle.path_text.specs.declared.sharing.Shared.{Shared}
use Rattle.path_text.specs.Sharing.{Definition}

abbrev pub definition_seen : Vec ℕ Global × List PlacedRule → Definition
definition_seen d = (d.0.items, d.1)

-- one more definition, whose weight was taken already
abbrev pub one_more_defined : Shared → Definition → Shared
one_more_defined shared d = record { definitions = shared.definitions ++ d ∷ []; room = shared.room }
