-- Caps side by side: their roots, and the parts of each at one place.
use Rattle.std.specs.Prelude.{ℕ, ◌+◌, Bool, true, false, ◌&&◌, ◌==◌, List, [], ◌∷◌, map, IsTrue}
use Rattle.std.proofs.Common.{zero, suc}
use Rattle.trs_caps.specs.HoledTree.{HoledTree, HoledTrees, hole, own, symbol, none, more, holed_size}

-- the number of arguments
abbrev pub holed_count : HoledTrees → ℕ
holed_count none = 0
holed_count (more c cs) = 1 + holed_count cs

-- one of them is a hole, or both have one root
abbrev pub alike : HoledTree → HoledTree → Bool
alike hole d = true
alike (own v) hole = true
alike (own v) (own w) = v == w
alike (own v) (symbol g ds) = false
alike (symbol f cs) hole = true
alike (symbol f cs) (own w) = false
alike (symbol f cs) (symbol g ds) = (f == g) && (holed_count cs == holed_count ds)

abbrev pub AllAlike : HoledTree → List HoledTree → Type 0
AllAlike c [] = Unit {0}
AllAlike c (d ∷ ds) = IsTrue (alike c d) × AllAlike c ds

-- argument number i, counted from 0; past the last one a hole
abbrev pub argument : HoledTrees → ℕ → HoledTree
argument none i = hole
argument (more c cs) zero = c
argument (more c cs) (suc i) = argument cs i

-- the part at argument i, or a hole
abbrev pub child : ℕ → HoledTree → HoledTree
child i hole = hole
child i (own v) = hole
child i (symbol f cs) = argument cs i

abbrev pub column_of : ℕ → List HoledTree → List HoledTree
column_of i cs = map (child i) cs

-- some of the holes are left out
pub data LeavesHoles : List HoledTree → List HoledTree → Type 0 where
  no_more : LeavesHoles [] []
  left_out : {cs ds : List HoledTree} → LeavesHoles cs ds → LeavesHoles (hole ∷ cs) ds
  taken : {c : HoledTree} {cs ds : List HoledTree} → LeavesHoles cs ds → LeavesHoles (c ∷ cs) (c ∷ ds)

-- the nodes of all
abbrev pub total : List HoledTree → ℕ
total [] = 0
total (c ∷ cs) = holed_size c + total cs
