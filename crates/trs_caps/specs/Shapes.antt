-- The shape of a cap: how many nodes it has, and whether a hole is among them. It tells most caps from left sides with no variable.
use Rattle.std.specs.Prelude.{◌≡◌, ◌≢◌, ◌+◌, ◌-◌, ◌^◌, ◌||◌, ℕ, Bool, true, false, List, Some, min, slice_get}
use Rattle.trs_defs.specs.Size.{size_of}
use Rattle.trs_defs.specs.System.{RewriteRule}
use Rattle.term_pool.specs.LeftSides.{IsGround}
use Rattle.trs_caps.specs.HoledTree.{HoledTree, HoledTrees, hole, own, symbol, none, more, holed_size}
use Rattle.trs_caps.specs.declared.shapes.Shape.{Shape}

-- whether a hole stands in the cap
abbrev mutual
  pub has_hole : HoledTree → Bool
  has_hole hole = true
  has_hole (own v) = false
  has_hole (symbol f cs) = some_has_hole cs

  pub some_has_hole : HoledTrees → Bool
  some_has_hole none = false
  some_has_hole (more c cs) = has_hole c || some_has_hole cs

-- the nodes of the cap, at most 2^32 - 1, and whether it has a hole
pub record IsShape (c : HoledTree) (s : Shape) : Type 0 where
  pub nodes : s.nodes ≡ min (holed_size c) (2 ^ 32 - 1)
  pub holes : s.is_open ≡ has_hole c

-- the nodes and holes of the cap are added
pub record AddsShape (c : HoledTree) (old new : Shape) : Type 0 where
  pub nodes : new.nodes ≡ min (old.nodes + holed_size c) (2 ^ 32 - 1)
  pub holes : new.is_open ≡ (old.is_open || has_hole c)

-- a number other than 0 is the size of the left side, at most 2^32 - 1, and no variable is in that
pub record AreGroundSizes (rules : List RewriteRule) (sizes : List ℕ) : Type 0 where
  pub ground : (k n : ℕ) (r : RewriteRule) → slice_get sizes k ≡ Some n → slice_get rules k ≡ Some r → n ≢ 0 → IsGround r.left
  pub size : (k n : ℕ) (r : RewriteRule) → slice_get sizes k ≡ Some n → slice_get rules k ≡ Some r → n ≢ 0 → n ≡ min (size_of r.left) (2 ^ 32 - 1)
