-- The search for ranks, as it is kept: the constraints of the peaks without their paths, over a table of the sides of all peaks.
use Rattle.std.specs.Prelude.{◌≡◌, ◌<◌, ◌≤◌, ◌↔◌, ℕ, Bool, false, List, [], ◌∷◌, ◌++◌, Option, Some, IsTrue, length, slice_get}
use Rattle.std.proofs.Common.{zero, suc}
use Rattle.trs_defs.specs.Member.{In}
use Rattle.trs_defs.specs.Variable.{is_listed}
use Rattle.trs_defs.specs.System.{RewriteRule}
use Rattle.confluence_theory.specs.RuleRanks.{rank_of}
use Rattle.assign_search.specs.Puzzle.{Puzzle}
use Rattle.rewrite_core.specs.PlacedPeak.{PlacedPeak}
use Rattle.label_find.specs.declared.side_rules.SideRules.{SideRules}
use Rattle.label_find.specs.declared.constraint.PeakConstraint.{PeakConstraint}
use Rattle.label_find.specs.declared.rule_list.RuleList.{RuleList}
use Rattle.label_find.specs.RuleList.{rules_listed}
use Rattle.label_find.specs.LabelRow.{PeakPaths, ArePathsOf, CanClose, rules_used}
use Rattle.label_find.specs.SideRules.{lists_of_side, rules_of_side}
use Rattle.label_find.specs.Grouping.{count_of}
use Rattle.label_find.specs.Meetings.{AreMeetings}
use Rattle.label_find.specs.Constraint.{some_meet}

-- some two paths from the sides close the peak
abbrev pub is_met_by : Option SideRules → Option SideRules → List ℕ → PeakConstraint → Bool
is_met_by left right ranks d = some_meet ranks (rank_of ranks d.inner) (rank_of ranks d.outer) (lists_of_side left) (lists_of_side right) d.meetings.items

-- the peak's two rules and those of the sides
abbrev pub used_by : Option SideRules → Option SideRules → PeakConstraint → List ℕ
used_by left right d = d.inner ∷ d.outer ∷ (rules_of_side left ++ rules_of_side right)

-- by the sides of its numbers in a table
abbrev pub is_met : List SideRules → List ℕ → PeakConstraint → Bool
is_met sides ranks d = is_met_by (slice_get sides d.left) (slice_get sides d.right) ranks d

abbrev pub used_in : List SideRules → PeakConstraint → List ℕ
used_in sides d = used_by (slice_get sides d.left) (slice_get sides d.right) d

abbrev pub uses_rule : List SideRules → ℕ → PeakConstraint → Bool
uses_rule sides k d = is_listed k (used_in sides d)

-- the test of the constraint of this number
abbrev pub at_constraint : (PeakConstraint → Bool) → List PeakConstraint → ℕ → Bool
at_constraint test [] c = false
at_constraint test (d ∷ ds) zero = test d
at_constraint test (d ∷ ds) (suc c) = at_constraint test ds c

abbrev pub label_puzzle : ℕ → List SideRules → List PeakConstraint → Puzzle
label_puzzle n sides ds = record {
  slots = n;
  domain = λ _. 4;
  constraints = length ds;
  uses = λ c k. at_constraint (uses_rule sides k) ds c;
  truth = λ c ranks. at_constraint (is_met sides ranks) ds c;
}

-- the side of this number is in the table, and has few groups
pub record IsSmallSide (sides : List SideRules) (number : ℕ) : Type 0 where
  pub side : SideRules
  pub there : slice_get sides number ≡ Some side
  pub few : count_of side.groups ≤ 256

-- it is made of these two rules and of these sides of the table
pub record IsConstraintOf (inner outer left right : ℕ) (sides : List SideRules) (d : PeakConstraint) : Type 0 where
  pub inner_is : d.inner ≡ inner
  pub outer_is : d.outer ≡ outer
  pub left_is : d.left ≡ left
  pub right_is : d.right ≡ right
  pub meetings : (a b : SideRules) → slice_get sides left ≡ Some a → slice_get sides right ≡ Some b → AreMeetings a.groups b.groups (count_of a.groups) d.meetings.items

-- it uses the rules of the lists that meet
pub record UsesLists (left right : Option SideRules) (d : PeakConstraint) : Type 0 where
  pub lefts : (m : ℕ × ℕ) (l : RuleList) (k : ℕ) → In m d.meetings.items → In l (lists_of_side left m.0) → IsTrue (is_listed k (rules_listed l)) → IsTrue (is_listed k (used_by left right d))
  pub rights : (m : ℕ × ℕ) (l : RuleList) (k : ℕ) → In m d.meetings.items → In l (lists_of_side right m.1) → IsTrue (is_listed k (rules_listed l)) → IsTrue (is_listed k (used_by left right d))

-- its sides are in the table
pub record HasSidesIn (sides : List SideRules) (d : PeakConstraint) : Type 0 where
  pub left : d.left < length sides
  pub right : d.right < length sides

-- it uses the rules of its lists, and only rules below n
pub record KeepsRules (n : ℕ) (sides : List SideRules) (d : PeakConstraint) : Type 0 where
  pub there : HasSidesIn sides d
  pub below : (k : ℕ) → IsTrue (uses_rule sides k d) → k < n
  pub lists : UsesLists (slice_get sides d.left) (slice_get sides d.right) d

-- with these sides it says of the paths from both sides of a peak which rules it uses, and by which ranks they close the peak
pub record SaysOf (p : PeakPaths) (left right : Option SideRules) (d : PeakConstraint) : Type 0 where
  pub used : (k : ℕ) → is_listed k (used_by left right d) ≡ is_listed k (rules_used p)
  pub met : (ranks : List ℕ) → IsTrue (is_met_by left right ranks d) ↔ CanClose ranks p
  pub lists : UsesLists left right d

-- its sides are in the table, and say so of these paths
pub record SaysIn (sides : List SideRules) (p : PeakPaths) (d : PeakConstraint) : Type 0 where
  pub there : HasSidesIn sides d
  pub says : SaysOf p (slice_get sides d.left) (slice_get sides d.right) d

-- and these are the paths of this peak
pub record IsConstraintFor (rules : List RewriteRule) (sides : List SideRules) (peak : PlacedPeak) (d : PeakConstraint) : Type 0 where
  pub paths : PeakPaths
  pub are_paths : ArePathsOf rules peak paths
  pub says : SaysIn sides paths d
