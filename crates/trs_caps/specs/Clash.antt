-- Caps with holes that no term fits both: two symbols clash where both have one, or an own variable does.
use Rattle.std.specs.Prelude.{Bool, true, false, not, ◌||◌, ◌==◌}
use Rattle.trs_defs.specs.Tree.{Tree}
use Rattle.trs_caps.specs.HoledTree.{HoledTree, HoledTrees, hole, own, symbol, none, more, Fits}

-- no term fits both
abbrev pub AreDisjoint : HoledTree → HoledTree → Type 0
AreDisjoint c d = (t : Tree) → Fits c t → Fits d t → ⊥

-- the caps differ at a place where neither has a hole
abbrev mutual
  pub clash : HoledTree → HoledTree → Bool
  clash hole d = false
  clash (own v) hole = false
  clash (own v) (own w) = not (v == w)
  clash (own v) (symbol g ds) = true
  clash (symbol f cs) hole = false
  clash (symbol f cs) (own w) = true
  clash (symbol f cs) (symbol g ds) = not (f == g) || some_clash cs ds

  pub some_clash : HoledTrees → HoledTrees → Bool
  some_clash none none = false
  some_clash none (more d ds) = true
  some_clash (more c cs) none = true
  some_clash (more c cs) (more d ds) = clash c d || some_clash cs ds
