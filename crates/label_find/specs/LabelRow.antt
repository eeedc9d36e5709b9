-- The strategy label: ranks of the rules by which each peak is decreasing.
-- (Van Oostrom, Confluence by decreasing diagrams, 2008: the rule labelling.)
use Rattle.std.specs.Prelude.{◌≡◌, ◌<◌, ◌≤◌, ◌↔◌, ℕ, List, [], ◌∷◌, ◌++◌, Some, None, IsTrue, length, map, slice_get}
use Rattle.trs_defs.specs.Variable.{is_listed}
use Rattle.trs_defs.specs.Path.{PlacedRule}
use Rattle.trs_defs.specs.System.{RewriteRule}
use Rattle.confluence_theory.specs.RanksFit.{RanksFit}
use Rattle.confluence_theory.specs.RuleRanks.{rank_of}
use Rattle.assign_search.specs.Puzzle.{Puzzle, solution_of, count_of}
use Rattle.term_pool.specs.Listed.{Listed}
use Rattle.rewrite_core.specs.PlacedPeak.{PlacedPeak}
use Rattle.rewrite_core.specs.PathsOfJoin.{PathsOfJoin}
use Rattle.rule_label.specs.Labelled.{ranks_along}
use Rattle.join_find.specs.First.{First, Some_in, Along}
use Rattle.join_find.specs.StrongRow.{AreLinear}
use Rattle.path_lists.specs.PathList.{IsPathList}

-- a peak with the paths from its left and from its right
pub record PeakPaths : Type 0 where
  pub peak : PlacedPeak
  pub lefts : List Listed
  pub rights : List Listed

pub record ArePathsOf (rules : List RewriteRule) (peak : PlacedPeak) (paths : PeakPaths) : Type 0 where
  pub is : paths.peak ≡ peak
  pub from_left : IsPathList rules peak.left paths.lefts
  pub from_right : IsPathList rules peak.right paths.rights

-- the numbers of the rules along a path
abbrev pub rules_along : List PlacedRule → List ℕ
rules_along path = map (λ (s : PlacedRule). s.rule) path

-- and along all of these paths
abbrev pub rules_of : List Listed → List ℕ
rules_of [] = []
rules_of (e ∷ es) = rules_along e.path ++ rules_of es

-- the peak's two rules and all rules of its paths, whether or not their ends meet
abbrev pub rules_used : PeakPaths → List ℕ
rules_used p = p.peak.inner ∷ p.peak.outer ∷ (rules_of p.lefts ++ rules_of p.rights)

-- two paths from both sides of a peak of these two rules lead to one term, and the ranks along them fit
pub record Closes (ranks : List ℕ) (inner outer : ℕ) (left right : Listed) : Type 0 where
  pub meet : left.term ≡ right.term
  pub left_fits : RanksFit (rank_of ranks inner) (rank_of ranks outer) (ranks_along ranks left.path)
  pub right_fits : RanksFit (rank_of ranks outer) (rank_of ranks inner) (ranks_along ranks right.path)

-- some right path closes the peak with this left one
abbrev pub CanCloseFrom : List ℕ → PeakPaths → Listed → Type 0
CanCloseFrom ranks p e = Some_in (Closes ranks p.peak.inner p.peak.outer e) p.rights

abbrev pub CanClose : List ℕ → PeakPaths → Type 0
CanClose ranks p = Some_in (CanCloseFrom ranks p) p.lefts

-- the search has a slot for each rule, with the ranks 0 to 3, and a constraint for each peak: some of its paths close it
pub record IsLabelSearch (rules : List RewriteRule) (paths : List PeakPaths) (z : Puzzle) : Type 0 where
  pub slots : z.slots ≡ length rules
  pub ranks : (k : ℕ) → z.domain k ≡ 4
  pub constraints : z.constraints ≡ length paths
  pub uses : (c k : ℕ) (p : PeakPaths) → slice_get paths c ≡ Some p → z.uses c k ≡ is_listed k (rules_used p)
  pub truth : (c : ℕ) (ranks : List ℕ) (p : PeakPaths) → slice_get paths c ≡ Some p → IsTrue (z.truth c ranks) ↔ CanClose ranks p

-- the rules are linear, and this is the search over the paths of these peaks
pub record HasSearch (rules : List RewriteRule) (peaks : List PlacedPeak) : Type 0 where
  pub linear : AreLinear rules
  pub paths : List PeakPaths
  pub are_paths : Along (ArePathsOf rules) peaks paths
  pub search : Puzzle
  pub is_search : IsLabelSearch rules paths search

-- the first left path for which some right path closes the peak, and for it the first such right path
pub record IsFirstClosing (ranks : List ℕ) (paths : PeakPaths) (join : PathsOfJoin) : Type 0 where
  pub left : Listed
  pub right : Listed
  pub first_left : First (CanCloseFrom ranks paths) paths.lefts left
  pub first_right : First (Closes ranks paths.peak.inner paths.peak.outer left) paths.rights right
  pub left_path : join.left ≡ left.path
  pub right_path : join.right ≡ right.path

-- the first ranks that solve the search, with fewer refuted prefixes before them than the budget, and the paths by them
pub record FindsLabel (rules : List RewriteRule) (peaks : List PlacedPeak) (budget : ℕ) (ranks : List ℕ) (joins : List PathsOfJoin) : Type 0 where
  pub over : HasSearch rules peaks
  pub first : solution_of over.search ≡ Some ranks
  pub few : count_of over.search < budget
  pub closings : Along (IsFirstClosing ranks) over.paths joins

-- some rule is not linear, or there is no solution, with fewer refuted prefixes than the budget
pub data FailsLabel (rules : List RewriteRule) (peaks : List PlacedPeak) (budget : ℕ) : Type 0 where
  not_linear : (AreLinear rules → ⊥) → FailsLabel rules peaks budget
  no_ranks : (over : HasSearch rules peaks) → solution_of over.search ≡ None → count_of over.search < budget → FailsLabel rules peaks budget

-- as many refuted prefixes as the budget come before the first solution, or in all
pub record SpendsLabel (rules : List RewriteRule) (peaks : List PlacedPeak) (budget : ℕ) : Type 0 where
  pub over : HasSearch rules peaks
  pub many : budget ≤ count_of over.search
