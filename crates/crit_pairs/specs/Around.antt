-- Terms that are the same but at one position.
use Rattle.std.specs.Prelude.{◌≡◌, ℕ, List}
use Rattle.trs_defs.specs.Tree.{Tree}
use Rattle.trs_defs.specs.Position.{replaced_at}

-- whatever is put at the position, the terms are the same then
abbrev pub IsSameAround : List ℕ → Tree → Tree → Type 0
IsSameAround p t u = (by : Tree) → replaced_at p u by ≡ replaced_at p t by
