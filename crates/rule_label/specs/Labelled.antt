-- Peaks that are decreasing by the ranks of rules. (Van Oostrom, Confluence by decreasing diagrams, 2008: the rule labelling.)
use Rattle.std.specs.Prelude.{ℕ, List, length, map, zip}
use Rattle.trs_defs.specs.System.{RewriteRule, System}
use Rattle.trs_defs.specs.Path.{PlacedRule}
use Rattle.confluence_theory.specs.RanksFit.{RanksFit}
use Rattle.confluence_theory.specs.RuleRanks.{rank_of}
use Rattle.rewrite_core.specs.declared.checks.refusals.StepRefused.TheVariants.{Labels}
use Rattle.rewrite_core.specs.PlacedPeak.{PlacedPeak}
use Rattle.rewrite_core.specs.PathsOfJoin.{PathsOfJoin}
use Rattle.rewrite_core.specs.Check.{Check, Needs, each, has_length, ◌>>=◌, ◌>>◌}
use Rattle.closed_pairs.specs.crit_pairs.PeaksCheck.{ListsCriticalPeaks}
use Rattle.closed_pairs.specs.Joined.{joins}
use Rattle.closed_pairs.specs.LinearRules.{are_linear}

-- the ranks of the rules along a path
abbrev pub ranks_along : List ℕ → List PlacedRule → List ℕ
ranks_along ranks path = map (λ s. rank_of ranks s.rule) path

-- the ranks along path i of item n fit those of the first and the second rule
abbrev pub labels_must_fit : List ℕ → ℕ → ℕ → ℕ → ℕ → List PlacedRule → Check (Unit {0})
labels_must_fit ranks n i first second path =
    Needs (RanksFit (rank_of ranks first) (rank_of ranks second) (ranks_along ranks path)) (Labels n i)

-- item n joins the peak, and the ranks along both of its paths fit those of the peak's rules
abbrev pub joins_decreasing : List RewriteRule → List ℕ → ℕ → PlacedPeak → PathsOfJoin → Check (Unit {0})
joins_decreasing rules ranks n peak join = do
  joins rules n peak join
  labels_must_fit ranks n 0 peak.inner peak.outer join.left
  labels_must_fit ranks n 1 peak.outer peak.inner join.right

-- there is a rank for each rule, and an item for each peak, which shows that it is decreasing
abbrev pub are_decreasing : List RewriteRule → List PlacedPeak → List ℕ → List PathsOfJoin → Check (Unit {0})
are_decreasing rules peaks ranks items = do
  has_length (length rules) ranks
  has_length (length peaks) items
  each (λ n item. joins_decreasing rules ranks n item.0 item.1) 0 (zip peaks items)

-- the rules are linear, and the peaks are decreasing
abbrev pub label_conditions_on : List RewriteRule → List PlacedPeak → List ℕ → List PathsOfJoin → Check (Unit {0})
label_conditions_on rules peaks ranks items = do
  are_linear rules
  are_decreasing rules peaks ranks items

-- the rules are linear, and each critical peak is decreasing
abbrev pub label_conditions : System → List ℕ → List PathsOfJoin → Check (Unit {0})
label_conditions system ranks items = do
  are_linear system.rules
  peaks ← ListsCriticalPeaks system.rules
  are_decreasing system.rules peaks ranks items
