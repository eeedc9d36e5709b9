-- What the list of critical peaks answers a check.
use Rattle.std.specs.Prelude.{◌≡◌, ◌≢◌, ℕ, List, Ok, Err, length, take}
use Rattle.std.proofs.Common.{◌∙◌, ap, subst, sym, arith}
use Rattle.std.proofs.lemmas.List.{take_all}
use Rattle.trs_defs.specs.System.{RewriteRule}
use Rattle.rewrite_core.specs.Check.{Refuses}
use Rattle.crit_pairs.specs.PeakList.{ListsPeaks}
use Rattle.crit_pairs.specs.PeaksCheck.{ListsCriticalPeaks, listed, too_large, too_many, peaks_refusal}
use Rattle.crit_pairs.specs.FirstPeaks.{AreFirst}
use Rattle.crit_pairs.specs.Walk.{HasFirst}
use Rattle.crit_pairs.specs.declared.listing.Peaks.{Peaks}
use Rattle.crit_pairs.specs.declared.peaks_check.FirstPeaks.{FirstPeaks}
use Rattle.crit_pairs.specs.declared.faults.PeakFault.{PeakFault}
use Rattle.crit_pairs.specs.declared.faults.PeakFault.TheVariants as fault

pub peaks_not_listed : (rules : List RewriteRule) (why : PeakFault) → (why ≢ fault.OutOfMemory → ListsPeaks rules (Err why)) → Refuses (ListsCriticalPeaks rules) (peaks_refusal why)
peaks_not_listed rules fault.TooLarge h = too_large (h (λ e. absurd cc))
peaks_not_listed rules fault.TooMany h = too_many (h (λ e. absurd cc))
peaks_not_listed rules fault.OutOfMemory h = tt

pub first_listed : {T M S : Type 0} (rules : List RewriteRule) (most : ℕ) (walked : Peaks T M S) (found : FirstPeaks) → found.peaks.items ≡ walked.list.items → found.count ≡ walked.count
    → HasFirst rules most walked → AreFirst rules most found
first_listed rules most walked found same_list same_count h = record {
  all = h.all;
  lists = listed h.all h.lists;
  counted = same_count ∙ h.keeps.counted;
  first = same_list ∙ (h.keeps.kept ∙ ap (λ n. take n h.all) h.same_most);
}

-- where there are as many as asked for, these are all
module _ (rules : List RewriteRule) (most : ℕ) (found : FirstPeaks) (h : AreFirst rules most found) (same : most ≡ found.count) where
  whole : found.peaks.items ≡ h.all
  whole = h.first ∙ take_all most h.all (omega (arith, same, h.counted))

  pub all_listed : ListsCriticalPeaks rules (Ok found.peaks.items)
  all_listed = subst (λ peaks. ListsCriticalPeaks rules (Ok peaks)) (sym whole) h.lists

  pub all_counted : most ≡ length found.peaks.items
  all_counted = same ∙ (h.counted ∙ ap length (sym whole))
