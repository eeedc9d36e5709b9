-- The components of the estimated graph on a problem, in order. (Arts and Giesl, 2000.)
use Rattle.std.specs.Prelude.{◌≡◌, ◌↔◌, ◌<◌, ℕ, List, [], ◌∷◌, Ok}
use Rattle.std.specs.List.Sorted.{IsStrictlyIncreasing}
use Rattle.trs_defs.specs.Member.{In}
use Rattle.trs_defs.specs.Run.{Run}
use Rattle.trs_defs.specs.System.{RewriteRule}
use Rattle.pair_theory.specs.DependencyPair.{DependencyPair}
use Rattle.dp_graph.specs.GroupOrSingle.{GroupOrSingle, group, single, members_of, all_members}
use Rattle.dp_graph.specs.GraphConditions.{HasEdge, are_members, none_is_missing}

module _ (rules : List RewriteRule) (all : List DependencyPair) (numbers : List ℕ) where
  -- an edge leads from pair number m to pair number n, both of the problem
  abbrev pub IsEdgeWithin : ℕ → ℕ → Type 0
  IsEdgeWithin m n = In m numbers × In n numbers × HasEdge rules all m n

  -- a path leads from each to the other
  abbrev pub AreConnected : ℕ → ℕ → Type 0
  AreConnected m n = Run IsEdgeWithin m n × Run IsEdgeWithin n m

  -- the pair lies on a cycle
  abbrev pub LiesOnCycle : ℕ → Type 0
  LiesOnCycle m = (n : ℕ) × IsEdgeWithin m n × Run IsEdgeWithin n m

  -- a group has just the pairs that are connected with one that lies on a cycle, ascending; a single pair lies on no cycle
  abbrev pub IsComponent : GroupOrSingle → Type 0
  IsComponent (group members) =
      IsStrictlyIncreasing members
      × ((m : ℕ) × LiesOnCycle m × ((n : ℕ) → In n members ↔ (In n numbers × AreConnected m n)))
  IsComponent (single member) = LiesOnCycle member → ⊥

  -- no edge leads to the item from a pair of another one
  abbrev pub IsReady : List GroupOrSingle → GroupOrSingle → Type 0
  IsReady items item = (m n : ℕ) → In m (all_members items) → In n (members_of item) → IsEdgeWithin m n → In m (members_of item)

  -- its least pair is less than that of the other item
  abbrev pub HasLesser : GroupOrSingle → GroupOrSingle → Type 0
  HasLesser item other = (m : ℕ) × In m (members_of item) × ((n : ℕ) → In n (members_of other) → m < n)

  -- next comes always, of the items that are ready, the one with the least pair
  pub data StandInOrder : List GroupOrSingle → Type 0 where
    no_items : StandInOrder []
    next : {item : GroupOrSingle} {items : List GroupOrSingle} → IsReady (item ∷ items) item
        → ((other : GroupOrSingle) → In other items → IsReady (item ∷ items) other → HasLesser item other)
        → StandInOrder items → StandInOrder (item ∷ items)

  -- each pair of the problem is in one item, and the items are the components in order
  pub record AreComponents (items : List GroupOrSingle) : Type 0 where
    pub named : are_members numbers (all_members items) (Ok tt)
    pub whole : none_is_missing numbers (all_members items) (Ok tt)
    pub components : (item : GroupOrSingle) → In item items → IsComponent item
    pub in_order : StandInOrder items

-- the item of a pair beside which a problem has no other: a group, if an edge leads from it to itself
abbrev pub IsOfOnePair : List RewriteRule → List DependencyPair → ℕ → GroupOrSingle → Type 0
IsOfOnePair rules all n (group members) = (members ≡ n ∷ []) × HasEdge rules all n n
IsOfOnePair rules all n (single member) = (member ≡ n) × (HasEdge rules all n n → ⊥)
