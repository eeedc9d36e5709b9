-- The rules that have pairs in a problem, their places, and the rows of these.
use Rattle.std.specs.Prelude.{◌≡◌, ◌<◌, ◌≤◌, ◌↔◌, ◌⊎◌, ℕ, ◌+◌, ◌++◌, cond, List, [], ◌∷◌, length, Some, Vec, slice_get}
use Rattle.std.specs.declared.alloc.Global.{Global}
use Rattle.std.specs.Ordering.{nat_cmp}
use Rattle.std.specs.BTreeMap.{BTreeMap, get, is_at}
use Rattle.trs_defs.specs.Member.{In}
use Rattle.trs_defs.specs.System.{System}
use Rattle.pair_theory.specs.Marked.{mark}
use Rattle.pair_theory.specs.DependencyPair.{DependencyPair, dependency_pairs}
use Rattle.dp_graph.specs.ByRoot.{items_at}
use Rattle.dp_core.specs.PlacedPairs.{IsOfRule}
use Rattle.dp_graph.specs.GraphConditions.{lists_of}
use Rattle.dp_graph.specs.PlaceLists.{AreEmpty}
use Rattle.dp_graph.specs.Rows.{EdgeOf, Follows}
use Rattle.dp_graph.specs.declared.graph.Node.{Node}
use Rattle.dp_graph.specs.declared.rows.RulePlace.{RulePlace}
use Rattle.dp_graph.specs.declared.rows.Rules.{Rules}

-- the number at place j is that of pair p
abbrev pub IsPairAtPlace : System → List ℕ → ℕ → DependencyPair → Type 0
IsPairAtPlace system numbers j p = (n : ℕ) × (slice_get numbers j ≡ Some n) × (slice_get (dependency_pairs system.rules) n ≡ Some p)

-- the rule is that of a pair with this root on its left side, and has a place behind those of all pairs
pub record IsRuleAt (system : System) (numbers : List ℕ) (places f : ℕ) (rule : RulePlace) : Type 0 where
  pub pair : DependencyPair
  pub numbered : slice_get (dependency_pairs system.rules) rule.pair ≡ Some pair
  pub root : pair.from.symbol ≡ f
  pub behind : length numbers ≤ rule.place
  pub small : rule.place < places

-- the place is that of a rule whose number is r
pub record IsPlaceOf (system : System) (rules : Rules) (r place : ℕ) : Type 0 where
  pub rule : RulePlace
  pub at : rule.place ≡ place
  pub root : ℕ
  pub listed : In rule (items_at rules.by_root root)
  pub pair : DependencyPair
  pub numbered : slice_get (dependency_pairs system.rules) rule.pair ≡ Some pair
  pub of_rule : IsOfRule system.rules r pair

-- place j stands in the row of a rule
pub record IsInRule (rules : Rules) (k j : ℕ) : Type 0 where
  pub root : ℕ
  pub rule : RulePlace
  pub listed : In rule (items_at rules.by_root root)
  pub at : rule.place ≡ k
  pub follows : Follows (lists_of rules.rows.items) k j

-- The rules of the first i pairs. The row of a rule has pairs with the left side of its first pair.
pub record AreRules (system : System) (numbers : List ℕ) (i : ℕ) (rules : Rules) : Type 0 where
  pub low : length numbers ≤ length rules.rows.items
  pub placed : (r k : ℕ) → get nat_cmp rules.places r ≡ Some k → IsPlaceOf system rules r k
  pub found : (f : ℕ) (rule : RulePlace) → In rule (items_at rules.by_root f) → IsRuleAt system numbers (length rules.rows.items) f rule
  pub once : (f g : ℕ) (rule other : RulePlace) → In rule (items_at rules.by_root f) → In other (items_at rules.by_root g) → rule.place ≡ other.place
      → rule.pair ≡ other.pair
  pub alike : (f j : ℕ) (rule : RulePlace) (q : DependencyPair) → In rule (items_at rules.by_root f)
      → slice_get (dependency_pairs system.rules) rule.pair ≡ Some q → Follows (lists_of rules.rows.items) rule.place j
      → (p : DependencyPair) × IsPairAtPlace system numbers j p × (mark p.from ≡ mark q.from)
  pub reached : (k j : ℕ) → Follows (lists_of rules.rows.items) k j → IsInRule rules k j
  pub all : (j : ℕ) (p : DependencyPair) → j < i → IsPairAtPlace system numbers j p → (k : ℕ) × IsInRule rules k j

-- the places of the rules have rows
abbrev pub HaveRows : Rules → Type 0
HaveRows rules = (r k : ℕ) → get nat_cmp rules.places r ≡ Some k → k < length rules.rows.items

-- no rule has a pair
pub record AreNoRules (pairs : ℕ) (rules : Rules) : Type 0 where
  pub rows : AreEmpty pairs (lists_of rules.rows.items)
  pub places : rules.places.entries ≡ []
  pub by_root : rules.by_root.entries ≡ []

-- pair number n is added, whose place is j
abbrev pub AddsPair : System → ℕ → ℕ → Rules → Rules → Type 0
AddsPair system n j old new =
    (numbers : List ℕ) → slice_get numbers j ≡ Some n → AreRules system numbers j old → AreRules system numbers (j + 1) new

-- a new last row has place j alone, and is that of the rule of pair number n, which the node is of
pub record AddsRule (node : Node) (n j : ℕ) (old new : Rules) : Type 0 where
  pub rows : lists_of new.rows.items ≡ lists_of old.rows.items ++ (j ∷ []) ∷ []
  pub places : (r : ℕ) → get nat_cmp new.places r ≡ cond (is_at (nat_cmp node.rule) r) (Some (length old.rows.items)) (get nat_cmp old.places r)
  pub here : items_at new.by_root node.from ≡ items_at old.by_root node.from ++ record { place = length old.rows.items; pair = n } ∷ []
  pub others : (f : ℕ) → (f ≡ node.from → ⊥) → items_at new.by_root f ≡ items_at old.by_root f

-- the rule stands at the root of the right side of pair number m
abbrev pub RulesAt : System → BTreeMap ℕ (Vec RulePlace Global) → ℕ → RulePlace → Type 0
RulesAt system by_root m rule =
    (p : DependencyPair) × (slice_get (dependency_pairs system.rules) m ≡ Some p) × In rule (items_at by_root p.to.symbol)

-- the row of place i has besides the places of those of the rules to whose pairs edges lead from pair number m
pub record LeadsByRules (system : System) (rules : RulePlace → Type 0) (m i : ℕ) (old new : List (List ℕ)) : Type 0 where
  pub count : length new ≡ length old
  pub others : (k : ℕ) → (k ≡ i → ⊥) → slice_get new k ≡ slice_get old k
  pub exact : (j : ℕ) → Follows new i j ↔ (Follows old i j ⊎ ((rule : RulePlace) × rules rule × (rule.place ≡ j) × EdgeOf system m rule.pair))
