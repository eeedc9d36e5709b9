-- The item of an argument list, if there is one.
use Rattle.std.specs.Prelude.{ℕ}
use Rattle.std.proofs.Common.{zero, suc}
use Rattle.trs_defs.specs.Tree.{Tree, Trees, nil, cons}

-- the item at an index, counted from 0, or d past the last
abbrev pub item_or : ℕ → Trees → Tree → Tree
item_or i nil d = d
item_or zero (cons t ts) d = t
item_or (suc i) (cons t ts) d = item_or i ts d
