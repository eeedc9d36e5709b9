-- The items of a step by the graph.
use Rattle.std.specs.Prelude.{ℕ, List, [], ◌∷◌, ◌++◌, map}
use Rattle.dp_graph.specs.declared.items.GraphItem.{GraphItem}
use Rattle.dp_graph.specs.declared.items.GraphItem.TheVariants as code

-- a group of pairs that is a problem of its own, or a single pair, by their numbers
pub data GroupOrSingle : Type 0 where
  group : (members : List ℕ) → GroupOrSingle
  single : (member : ℕ) → GroupOrSingle

abbrev pub item_of : GraphItem → GroupOrSingle
item_of (code.Group pairs) = group pairs.items
item_of (code.Single pair) = single pair

abbrev pub items_of : List GraphItem → List GroupOrSingle
items_of items = map item_of items

-- the pairs of an item, in order
abbrev pub members_of : GroupOrSingle → List ℕ
members_of (group members) = members
members_of (single member) = member ∷ []

-- the pairs of all items, in order
abbrev pub all_members : List GroupOrSingle → List ℕ
all_members [] = []
all_members (item ∷ items) = members_of item ++ all_members items

-- the groups, in order
abbrev pub groups_of : List GroupOrSingle → List (List ℕ)
groups_of [] = []
groups_of (group members ∷ items) = members ∷ groups_of items
groups_of (single member ∷ items) = groups_of items

-- the single pairs, in order
abbrev pub singles_of : List GroupOrSingle → List ℕ
singles_of [] = []
singles_of (group members ∷ items) = singles_of items
singles_of (single member ∷ items) = member ∷ singles_of items
