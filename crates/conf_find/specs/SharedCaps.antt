-- Caps that are kept by numbers, each over caps with lower numbers.
use Rattle.std.specs.Prelude.{◌≡◌, ◌≤◌, ◌<◌, ℕ, Bool, true, false, List, [], ◌∷◌, ◌++◌, All, Some, map, length, slice_get, slice_index_or}
use Rattle.std.specs.Ordering.{nat_cmp}
use Rattle.std.specs.BTreeMap.{get}
use Rattle.trs_defs.specs.Tree.{Tree}
use Rattle.trs_defs.specs.Substitution.{apply}
use Rattle.trs_caps.specs.HoledTree.{HoledTree, HoledTrees, hole, own, symbol, holed_trees, Fits}
use Rattle.conf_find.specs.declared.cap_node.CapNode.{CapNode}
use Rattle.conf_find.specs.declared.cap_node.CapNode.TheVariants.{Open, Own, Symbol}
use Rattle.conf_find.specs.declared.first_parts.FirstParts.{FirstParts}

-- the cap of a number that is there
abbrev pub cap_at : List HoledTree → ℕ → HoledTree
cap_at caps k = slice_index_or caps k hole

-- the caps of these numbers
abbrev pub parts_at : List HoledTree → List ℕ → HoledTrees
parts_at caps parts = holed_trees (map (cap_at caps) parts)

-- the cap of a node over these caps
abbrev pub node_cap : List HoledTree → CapNode → HoledTree
node_cap caps Open = hole
node_cap caps (Own v) = own v
node_cap caps (Symbol f parts) = symbol f (parts_at caps parts.items)

-- the node stands over caps with numbers below n
abbrev pub IsOver : ℕ → CapNode → Type 0
IsOver n Open = Unit {0}
IsOver n (Own v) = Unit {0}
IsOver n (Symbol f parts) = All (λ i. i < n) parts.items

-- the caps of the nodes, each over these caps and the caps before it
abbrev pub caps_over : List HoledTree → List CapNode → List HoledTree
caps_over cs [] = []
caps_over cs (n ∷ ns) = node_cap cs n ∷ caps_over (cs ++ node_cap cs n ∷ []) ns

-- each node stands over earlier ones
pub record AreOrdered (ns : List CapNode) : Type 0 where
  pub over : (k : ℕ) (n : CapNode) → slice_get ns k ≡ Some n → IsOver k n

-- the caps that were there keep their numbers
pub record KeepsCaps (old new : List HoledTree) : Type 0 where
  pub longer : length old ≤ length new
  pub kept : (k : ℕ) → k < length old → cap_at new k ≡ cap_at old k

-- the numbers that are noted of variables are there
abbrev pub AreFirsts : List HoledTree → FirstParts → Type 0
AreFirsts caps firsts = (v k : ℕ) → get nat_cmp firsts.numbers v ≡ Some k → k < length caps

-- the terms of the variables fit the caps that are noted of them
abbrev pub FitFirsts : List HoledTree → FirstParts → (ℕ → Tree) → Type 0
FitFirsts caps firsts τ = (v k : ℕ) → get nat_cmp firsts.numbers v ≡ Some k → Fits (cap_at caps k) (τ v)

-- where an instance of l fits the cap, with terms that fit what was noted, no difference is seen, and its terms fit what is noted now
pub record StillFits (caps : List HoledTree) (c : HoledTree) (l : Tree) (old new : FirstParts) (differs : Bool) : Type 0 where
  pub each : (τ : ℕ → Tree) → FitFirsts caps old τ → Fits c (apply τ l) → (differs ≡ false) × FitFirsts caps new τ

-- where no difference is seen, and what is noted now is all, so it was before, and terms that fit it fitted what was noted, and make an instance of l that fits the cap
pub record Suffices (caps : List HoledTree) (c : HoledTree) (l : Tree) (old new : FirstParts) (differs : Bool) : Type 0 where
  pub each : differs ≡ false → new.are_all ≡ true → (old.are_all ≡ true) × ((τ : ℕ → Tree) → FitFirsts caps new τ → FitFirsts caps old τ × Fits c (apply τ l))
