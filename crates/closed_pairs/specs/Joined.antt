-- Peaks that are joined by two paths each.
use Rattle.std.specs.Prelude.{ℕ, List, length, zip}
use Rattle.trs_defs.specs.System.{RewriteRule, System}
use Rattle.rewrite_core.specs.PlacedPeak.{PlacedPeak}
use Rattle.rewrite_core.specs.PathsOfJoin.{PathsOfJoin}
use Rattle.rewrite_core.specs.Check.{Check, each, has_length, ◌>>=◌, ◌>>◌}
use Rattle.crit_pairs.specs.PeaksCheck.{ListsCriticalPeaks}
use Rattle.closed_pairs.specs.Ends.{ends_meet}

-- both paths of item n are followed, from the left of the peak and from its right, and lead to one term
abbrev pub joins : List RewriteRule → ℕ → PlacedPeak → PathsOfJoin → Check (Unit {0})
joins rules n peak join = ends_meet rules n peak.left join.left 0 peak.right join.right 1

-- there is an item for each peak, which joins it
abbrev pub are_joined : List RewriteRule → List PlacedPeak → List PathsOfJoin → Check (Unit {0})
are_joined rules peaks items = do
  has_length (length peaks) items
  each (λ n item. joins rules n item.0 item.1) 0 (zip peaks items)

-- each critical peak is joined
abbrev pub newman_conditions : System → List PathsOfJoin → Check (Unit {0})
newman_conditions system items = do
  peaks ← ListsCriticalPeaks system.rules
  are_joined system.rules peaks items
