-- The critical peak that a most general unifier gives.
use Rattle.std.proofs.Common.{◌≡◌, ◌≢◌, ℕ, List, Some, slice_get, refl}
use Rattle.trs_defs.specs.Tree.{Tree}
use Rattle.trs_defs.specs.Substitution.{apply}
use Rattle.trs_defs.specs.Position.{subterm_at, replaced_at}
use Rattle.trs_defs.specs.System.{RewriteRule}
use Rattle.trs_defs.specs.Unifier.{IsMostGeneralUnifier}
use Rattle.trs_core.specs.SystemLimits.{HasSmallVariables, HaveSmallVariables}
use Rattle.rewrite_core.specs.PlacedPeak.{PlacedPeak}
use Rattle.crit_pairs.specs.Apart.{renamed_apart}
use Rattle.crit_pairs.specs.MadePairs.{spot}
use Rattle.crit_pairs.specs.PeakList.{IsPeakAt}
use Rattle.crit_pairs.specs.Sides.{AreRenumbered, KeepsLimits, PassesLimit}
use Rattle.crit_pairs.specs.Walk.{Stops, one_spot}
use Rattle.crit_pairs.specs.declared.faults.PeakFault.{PeakFault}
use Rattle.crit_pairs.specs.declared.faults.PeakFault.TheVariants as limit
use Rattle.crit_pairs.proofs.Renumbering.{peak_terms, peak_passes, keeps_too, renumber_three}
use Rattle.crit_pairs.proofs.SpotWalk.{peak_at, found_fault, small_of}

module _ (rules : List RewriteRule) (j i : ℕ) (p : List ℕ) (part : Tree) (inner outer : RewriteRule) (outer_is : slice_get rules j ≡ Some outer)
    (inner_is : slice_get rules i ≡ Some inner) (there : subterm_at p outer.left ≡ Some part) (small : HaveSmallVariables rules)
    (unifier : ℕ → Tree) (most_general : IsMostGeneralUnifier part (renamed_apart inner).left unifier) (u : Tree) (replaced : replaced_at p outer.left (renamed_apart inner).right ≡ Some u) where
  outer_small : HasSmallVariables outer.left
  outer_small = (small_of rules j outer small outer_is).0

  pub found_peak : (t l r : Tree) → AreRenumbered (apply unifier outer.left) (apply unifier u) (apply unifier outer.right) t l r
      → IsPeakAt rules (spot j p i) (record { outer = j; place = p; inner = i; top = t; left = l; right = r })
  found_peak t l r renumbered =
      peak_at rules j i p part inner (renamed_apart inner) outer refl inner_is outer_is there outer_small t l r (peak_terms (renamed_apart inner) outer p part u unifier most_general replaced t l r renumbered)

  pub limit_passed : (fault : PeakFault) (total : ℕ) → fault ≢ limit.OutOfMemory → PassesLimit fault total (apply unifier outer.left) (apply unifier u) (apply unifier outer.right)
      → (before : List PlacedPeak) → Stops rules before total (one_spot j p i) fault
  limit_passed fault total ne passes before =
      found_fault rules j i p part inner (renamed_apart inner) outer refl inner_is outer_is there outer_small before total fault ne
      (peak_passes (renamed_apart inner) outer p part u unifier most_general replaced fault total passes)

  -- some terms are its terms, and keep the limits as the instances do
  pub some_peak : (total new_total : ℕ) → KeepsLimits total new_total (apply unifier outer.left) (apply unifier u) (apply unifier outer.right)
      → (peak : PlacedPeak) × IsPeakAt rules (spot j p i) peak × KeepsLimits total new_total peak.top peak.left peak.right
  some_peak total new_total h =
      let n = renumber_three (apply unifier outer.left) (apply unifier u) (apply unifier outer.right) in
      (record { outer = j; place = p; inner = i; top = n.t; left = n.l; right = n.r }, found_peak n.t n.l n.r n.renumbered, keeps_too _ _ _ n.t n.l n.r n.renumbered total new_total h)
