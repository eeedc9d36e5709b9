-- Peaks that are joined strongly, in both directions. (Huet, Confluent reductions, 1980; Baader and Nipkow, section 6.3.)
use Rattle.std.specs.Prelude.{◌≤◌, ℕ, List, length, zip, refl}
use Rattle.std.specs.Coded.{Coded, code_by, coded×, coded_list}
use Rattle.trs_defs.specs.Tree.{Tree}
use Rattle.trs_defs.specs.System.{RewriteRule, System}
use Rattle.trs_defs.specs.Path.{PlacedRule, placed_code}
use Rattle.rewrite_core.specs.declared.checks.refusals.StepRefused.TheVariants.{TooLong}
use Rattle.rewrite_core.specs.PlacedPeak.{PlacedPeak}
use Rattle.rewrite_core.specs.Check.{Check, Needs, each, has_length, ◌>>=◌, ◌>>◌}
use Rattle.crit_pairs.specs.PeaksCheck.{ListsCriticalPeaks}
use Rattle.closed_pairs.specs.Ends.{ends_meet}
use Rattle.closed_pairs.specs.LinearRules.{are_linear}

-- paths from the left and the right of a peak to a term u, and from the right and the left to a term v
pub record FourPaths : Type 0 where
  pub left_u : List PlacedRule
  pub right_u : List PlacedRule
  pub right_v : List PlacedRule
  pub left_v : List PlacedRule

-- they are stored as the list of them
abbrev pub four_code : Coded FourPaths
four_code =
    let path_code = coded_list placed_code in
    code_by ((List PlacedRule × List PlacedRule) × (List PlacedRule × List PlacedRule)) (coded× (coded× path_code path_code) (coded× path_code path_code))
    (λ f. ((f.left_u, f.right_u), (f.right_v, f.left_v))) (λ p. record { left_u = p.0.0; right_u = p.0.1; right_v = p.1.0; left_v = p.1.1 })
    (λ _. refl)

-- two paths of item n, with the numbers i and j, lead from s and t to one term, and the second has at most one step
abbrev pub half_joins : List RewriteRule → ℕ → Tree → List PlacedRule → ℕ → Tree → List PlacedRule → ℕ → Check (Unit {0})
half_joins rules n s path i t short j = do
  Needs (length short ≤ 1) (TooLong n j)
  ends_meet rules n s path i t short j

-- item n joins the peak strongly, from the left and then from the right
abbrev pub joins_strongly : List RewriteRule → ℕ → PlacedPeak → FourPaths → Check (Unit {0})
joins_strongly rules n peak four = do
  half_joins rules n peak.left four.left_u 0 peak.right four.right_u 1
  half_joins rules n peak.right four.right_v 2 peak.left four.left_v 3

-- there is an item for each peak, which joins it strongly
abbrev pub are_strongly_closed : List RewriteRule → List PlacedPeak → List FourPaths → Check (Unit {0})
are_strongly_closed rules peaks items = do
  has_length (length peaks) items
  each (λ n item. joins_strongly rules n item.0 item.1) 0 (zip peaks items)

-- the rules are linear, and the peaks are joined strongly
abbrev pub strong_conditions_on : List RewriteRule → List PlacedPeak → List FourPaths → Check (Unit {0})
strong_conditions_on rules peaks items = do
  are_linear rules
  are_strongly_closed rules peaks items

-- the rules are linear, and each critical peak is joined strongly
abbrev pub strong_conditions : System → List FourPaths → Check (Unit {0})
strong_conditions system items = do
  are_linear system.rules
  peaks ← ListsCriticalPeaks system.rules
  are_strongly_closed system.rules peaks items
