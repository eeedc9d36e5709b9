-- Steps that have as many items as there are critical peaks, or not.
use Rattle.std.specs.Prelude.{◌≡◌, ℕ, List, length, Ok, Err}
use Rattle.std.proofs.Common.{subst, sym}
use Rattle.trs_defs.specs.System.{RewriteRule}
use Rattle.rewrite_core.specs.PlacedPeak.{PlacedPeak}
use Rattle.rewrite_core.specs.declared.checks.refusals.StepRefused.{StepRefused}
use Rattle.rewrite_core.specs.declared.checks.refusals.CheckFault.{CheckFault}
use Rattle.rewrite_core.specs.declared.checks.refusals.CheckFault.TheVariants.{Refused, OutOfMemory}
use Rattle.rewrite_core.specs.Check.{Check, Refuses, stops, goes_on, returned, has_length, ◌>>=◌, ◌>>◌}
use Rattle.crit_pairs.specs.PeaksCheck.{ListsCriticalPeaks}
use Rattle.closed_pairs.specs.PeaksFor.{peaks_for}

-- they are all of the critical peaks
pub listed_for : (rules : List RewriteRule) (items : ℕ) (peaks : List PlacedPeak) → peaks_for rules items (Ok peaks) → ListsCriticalPeaks rules (Ok peaks)
listed_for rules items peaks (goes_on _ _ h (goes_on _ _ k returned)) = h

module _ (rules : List RewriteRule) {B : Type 0} (items : List B) (rest : List PlacedPeak → Check (Unit {0})) where
  refused_with : (why : StepRefused) → peaks_for rules (length items) (Err why) → (ListsCriticalPeaks rules >>= (λ peaks. has_length (length peaks) items >> rest peaks)) (Err why)
  refused_with why (stops _ h) = stops why h
  refused_with why (goes_on peaks _ h (stops _ k)) = goes_on peaks _ h (stops why k)
  refused_with why (goes_on peaks _ h (goes_on _ _ k r)) = absurd (elim r [ ])

  -- the peaks pass a limit, or there are not as many items
  pub refused_for : (number : ℕ) → length items ≡ number → (fault : CheckFault) → Refuses (peaks_for rules number) fault
      → Refuses (ListsCriticalPeaks rules >>= (λ peaks. has_length (length peaks) items >> rest peaks)) fault
  refused_for number same (Refused why) h = refused_with why (subst (λ n. peaks_for rules n (Err why)) (sym same) h)
  refused_for number same OutOfMemory h = tt
