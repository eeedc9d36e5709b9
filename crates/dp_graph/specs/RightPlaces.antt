-- The right sides of pairs in a problem, their places, and the rows of these.
use Rattle.std.specs.Prelude.{◌≡◌, ◌↔◌, ◌⊎◌, ℕ, ◌+◌, cond, List, length, Some, None, Vec, slice_get}
use Rattle.std.specs.declared.alloc.Global.{Global}
use Rattle.std.specs.Ordering.{nat_cmp}
use Rattle.std.specs.BTreeMap.{BTreeMap, get, is_at}
use Rattle.trs_defs.specs.System.{System}
use Rattle.pair_theory.specs.DependencyPair.{dependency_pairs}
use Rattle.dp_graph.specs.GraphConditions.{lists_of}
use Rattle.dp_graph.specs.PlaceLists.{PutsBehind}
use Rattle.dp_graph.specs.Rows.{EdgeOf, Follows}
use Rattle.dp_graph.specs.RulePlaces.{RulesAt}
use Rattle.dp_graph.specs.declared.rows.RulePlace.{RulePlace}
use Rattle.dp_graph.specs.declared.rows.Rights.{Rights}

-- the same edges lead from both pairs
abbrev pub AreAlike : System → ℕ → ℕ → Type 0
AreAlike system m n = (k : ℕ) → EdgeOf system m k ↔ EdgeOf system n k

-- the row of place k has the places of those of the rules to whose pairs edges lead from pair number m
abbrev pub IsRowOf : System → BTreeMap ℕ (Vec RulePlace Global) → ℕ → List (List ℕ) → ℕ → Type 0
IsRowOf system by_root m rows k =
    (j : ℕ) → Follows rows k j ↔ ((rule : RulePlace) × RulesAt system by_root m rule × (rule.place ≡ j) × EdgeOf system m rule.pair)

-- a new last place is that of the right side of pair number m
pub record AddsRight (system : System) (by_root : BTreeMap ℕ (Vec RulePlace Global)) (m place : ℕ) (old new : Rights) : Type 0 where
  pub last : place ≡ length old.rows.items
  pub count : length new.rows.items ≡ length old.rows.items + 1
  pub row : IsRowOf system by_root m (lists_of new.rows.items) place
  pub others : (k : ℕ) → (k ≡ place → ⊥) → slice_get (lists_of new.rows.items) k ≡ slice_get (lists_of old.rows.items) k
  pub places : (r : ℕ) → get nat_cmp new.places r ≡ cond (is_at (nat_cmp m) r) (Some place) (get nat_cmp old.places r)

-- the place was that of the right side of pair number m, or is added for it
abbrev pub PlacesRight : System → BTreeMap ℕ (Vec RulePlace Global) → ℕ → ℕ → Rights → Rights → Type 0
PlacesRight system by_root m place old new =
    ((get nat_cmp old.places m ≡ Some place) × (new ≡ old)) ⊎ AddsRight system by_root m place old new

-- the row of place i has the place of the right side of a pair from which the same edges lead as from pair number m
pub record LeadsAlike (system : System) (by_root : BTreeMap ℕ (Vec RulePlace Global)) (m i : ℕ) (old new : Rights) : Type 0 where
  pub first : ℕ
  pub alike : AreAlike system m first
  pub place : ℕ
  pub mid : Rights
  pub places : PlacesRight system by_root first place old mid
  pub puts : PutsBehind (lists_of mid.rows.items) (lists_of new.rows.items) i place
  pub same : new.places ≡ mid.places

-- the same, if there is a pair with this number
abbrev pub LeadsRight : System → BTreeMap ℕ (Vec RulePlace Global) → ℕ → ℕ → Rights → Rights → Type 0
LeadsRight system by_root m i old new =
    ((slice_get (dependency_pairs system.rules) m ≡ None) × (new ≡ old)) ⊎ LeadsAlike system by_root m i old new
