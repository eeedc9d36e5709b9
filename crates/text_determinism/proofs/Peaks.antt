-- The critical peaks of a system have one list, or one fault, so that what is found on them is found on the same list.
use Rattle.std.specs.Prelude.{List}
use Rattle.std.proofs.Common.{subst}
use Rattle.trs_defs.specs.System.{System, IsSystem}
use Rattle.rewrite_core.specs.PlacedPeak.{PlacedPeak}
use Rattle.loop_find.proofs.crit_pairs.ListedOnce.{one_list, list_or_fault}
use Rattle.conclusion.specs.report_text.strategies.Rows.{FindsOnPeaks, FailsOnPeaks, peaks_pass_limit, peaks_fail}

module _ (system : System) (valid : IsSystem system) where
  -- what is found twice is found on one list
  pub on_one_list : {finds others : List PlacedPeak → Type 0} → FindsOnPeaks system finds → FindsOnPeaks system others
      → (peaks : List PlacedPeak) × finds peaks × others peaks
  on_one_list {others = others} h k =
      (h.peaks, h.found, subst others (one_list system valid k.peaks h.peaks k.listed h.listed) k.found)

  -- what is found excludes a failure, if it does so on each list
  pub not_found : {finds fails : List PlacedPeak → Type 0} → ((peaks : List PlacedPeak) → finds peaks → fails peaks → ⊥)
      → FindsOnPeaks system finds → FailsOnPeaks system fails → ⊥
  not_found exclude h (peaks_pass_limit fault refused) = list_or_fault system valid h.peaks fault h.listed refused
  not_found {finds = finds} exclude h (peaks_fail peaks listed failed) =
      exclude peaks (subst finds (one_list system valid h.peaks peaks h.listed listed) h.found) failed
