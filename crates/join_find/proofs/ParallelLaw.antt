-- What the strategy parallel finds meets the conditions on parallel steps.
use Rattle.std.specs.Prelude.{ℕ, List, Ok, refl}
use Rattle.trs_defs.specs.System.{System, RewriteRule}
use Rattle.trs_defs.specs.Path.{PlacedRule}
use Rattle.rewrite_core.specs.Check.{goes_on, holds}
use Rattle.rewrite_core.specs.PathCheck.{followed}
use Rattle.rewrite_core.specs.PlacedPeak.{PlacedPeak}
use Rattle.closed_pairs.specs.crit_pairs.PeakList.{ListsPeaks}
use Rattle.closed_pairs.specs.crit_pairs.PeaksCheck.{listed}
use Rattle.closed_pairs.specs.ParallelClosed.{closes_in_parallel, parallel_conditions}
use Rattle.join_find.specs.ParallelRow.{IsParallelClosing, FindsParallel}
use Rattle.join_find.proofs.LinearRules.{left_linear_rules_pass}
use Rattle.join_find.proofs.NewmanLaw.{along_length, along_each}
use Rattle.join_find.proofs.ParallelSteps.{found_is_parallel}

closing_passes : (rules : List RewriteRule) (n : ℕ) (peak : PlacedPeak) (steps : List PlacedRule) → IsParallelClosing rules peak steps → closes_in_parallel rules n peak steps (Ok tt)
closing_passes rules n peak steps h =
    goes_on tt (Ok tt) (holds (found_is_parallel rules h.parallel)) (goes_on peak.right (Ok tt) (followed peak.right h.follows) (holds refl))

pub found_steps_meet : (system : System) (peaks : List PlacedPeak) (items : List (List PlacedRule)) → ListsPeaks system.rules (Ok peaks) → FindsParallel system.rules peaks items
    → parallel_conditions system items (Ok tt)
found_steps_meet system peaks items critical found =
    goes_on tt (Ok tt) (left_linear_rules_pass system.rules found.linear) (goes_on peaks (Ok tt) (listed peaks critical)
    (goes_on tt (Ok tt) (holds (along_length found.closed)) (along_each (λ n item. closes_in_parallel system.rules n item.0 item.1) (λ n peak steps h. closing_passes system.rules n peak steps h) 0 found.closed)))
