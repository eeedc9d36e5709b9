-- Peaks that are closed by one parallel step each. (Huet, Confluent reductions, 1980; Baader and Nipkow, section 6.4.)
use Rattle.std.specs.Prelude.{◌≡◌, ◌<◌, ◌⊎◌, ℕ, List, [], ◌∷◌, length, map, zip, Vec}
use Rattle.std.specs.declared.alloc.Global.{Global}
use Rattle.trs_defs.specs.System.{RewriteRule, System}
use Rattle.trs_defs.specs.Path.{PlacedRule}
use Rattle.confluence_theory.specs.ParallelPositions.{ArePairwiseParallel}
use Rattle.rewrite_core.specs.declared.checks.refusals.StepRefused.TheVariants.{NotParallel, EndsDiffer}
use Rattle.rewrite_core.specs.PlacedPeak.{PlacedPeak}
use Rattle.rewrite_core.specs.Check.{Check, Needs, each, has_length, ◌>>=◌, ◌>>◌}
use Rattle.rewrite_core.specs.PathCheck.{Runs}
use Rattle.crit_pairs.specs.PeaksCheck.{ListsCriticalPeaks}
use Rattle.closed_pairs.specs.LinearRules.{are_left_linear}

-- p stands before q in preorder
abbrev pub StandsBefore : List ℕ → List ℕ → Type 0
StandsBefore [] [] = ⊥
StandsBefore [] (b ∷ q) = Unit {0}
StandsBefore (a ∷ p) [] = ⊥
StandsBefore (a ∷ p) (b ∷ q) = (a < b) ⊎ ((a ≡ b) × StandsBefore p q)

-- each position of the path stands before the next one
abbrev pub DoAscend : List PlacedRule → Type 0
DoAscend [] = Unit {0}
DoAscend (s ∷ []) = Unit {0}
DoAscend (s ∷ t ∷ path) = StandsBefore s.place t.place × DoAscend (t ∷ path)

-- the path is one parallel step, written from the left
abbrev pub IsParallel : List PlacedRule → Type 0
IsParallel path = ArePairwiseParallel path × DoAscend path

-- the steps of each path
abbrev pub paths_of : List (Vec PlacedRule Global) → List (List PlacedRule)
paths_of paths = map (λ p. p.items) paths

-- item n is one parallel step from the left of the peak to its right
abbrev pub closes_in_parallel : List RewriteRule → ℕ → PlacedPeak → List PlacedRule → Check (Unit {0})
closes_in_parallel rules n peak path = do
  Needs (IsParallel path) (NotParallel n)
  end ← Runs rules peak.left path n 0
  Needs (end ≡ peak.right) (EndsDiffer n)

-- there is an item for each peak, which closes it
abbrev pub are_parallel_closed : List RewriteRule → List PlacedPeak → List (List PlacedRule) → Check (Unit {0})
are_parallel_closed rules peaks items = do
  has_length (length peaks) items
  each (λ n item. closes_in_parallel rules n item.0 item.1) 0 (zip peaks items)

-- the rules are left-linear, and the peaks are closed by parallel steps
abbrev pub parallel_conditions_on : List RewriteRule → List PlacedPeak → List (List PlacedRule) → Check (Unit {0})
parallel_conditions_on rules peaks items = do
  are_left_linear rules
  are_parallel_closed rules peaks items

-- each critical peak is closed by a parallel step
abbrev pub critical_peaks_are_closed : List RewriteRule → List (List PlacedRule) → Check (Unit {0})
critical_peaks_are_closed rules items = do
  peaks ← ListsCriticalPeaks rules
  are_parallel_closed rules peaks items

-- the rules are left-linear, and each critical peak is closed by a parallel step
abbrev pub parallel_conditions : System → List (List PlacedRule) → Check (Unit {0})
parallel_conditions system items = do
  are_left_linear system.rules
  critical_peaks_are_closed system.rules items
