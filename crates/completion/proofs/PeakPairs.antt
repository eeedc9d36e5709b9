-- The two results of a listed critical peak: well-formed small terms, one step from the top. A terminating system whose listed
-- peaks are joinable is confluent.
use Rattle.std.proofs.Common.{ℕ, ◌&&◌, sym, subst, inl, inr, List, [], map, Ok, IsTrue}
use Rattle.std.proofs.lemmas.Bool.{and_parts}
use Rattle.trs_defs.specs.Size.{within_limits}
use Rattle.trs_defs.specs.WellFormed.{IsWellFormed}
use Rattle.trs_defs.specs.Member.{In}
use Rattle.trs_defs.specs.System.{RewriteRule, System, IsSystem}
use Rattle.trs_defs.specs.Step.{Step}
use Rattle.trs_defs.specs.Run.{Stay, Go}
use Rattle.trs_defs.specs.Joinable.{IsJoinable}
use Rattle.trs_defs.specs.Claims.{IsTerminating, IsConfluent}
use Rattle.trs_defs.proofs.Members.{in_or, in_map, of_map}
use Rattle.trs_defs.proofs.Places.{step_of_place}
use Rattle.trs_defs.proofs.Limits.{limits_size}
use Rattle.confluence_theory.specs.Peak.{Peak}
use Rattle.confluence_theory.proofs.CriticalCover.{covered}
use Rattle.confluence_theory.proofs.Claims.{joined}
use Rattle.rewrite_core.specs.PlacedPeak.{PlacedPeak}
use Rattle.crit_pairs.specs.PlainPeak.{plain}
use Rattle.crit_pairs.specs.PeakList.{Spot, Lists, at_end, no_overlap, one_peak, IsPeakAt, is_small, ListsPeaks}
use Rattle.crit_pairs.proofs.Covering.{has_all}
use Rattle.crit_pairs.proofs.PeakSteps.{peak_steps, HasSteps}
use Rattle.crit_pairs.proofs.WellFormedTops.{top_well_formed}
use Rattle.completion.specs.CompletionRun.{sides}
use Rattle.completion.specs.Taking.{IsTermOver}
use Rattle.completion.proofs.SoundRules.{run_well_formed}

pub record HasGoodSides (system : System) (peak : PlacedPeak) : Type 0 where
  pub left_over : IsTermOver system.arities peak.left
  pub right_over : IsTermOver system.arities peak.right
  pub to_left : Step system.rules peak.top peak.left
  pub to_right : Step system.rules peak.top peak.right

module _ (system : System) (is : IsSystem system) where
  peak_good : (s : Spot) (peak : PlacedPeak) → IsPeakAt system.rules s peak → IsTrue (is_small peak) → HasGoodSides system peak
  peak_good s peak h small =
      let inner = is.each s.inner h.inner h.inner_numbered in
      let outer = is.each s.outer h.outer h.outer_numbered in
      let top : IsWellFormed system.arities peak.top =
      top_well_formed system.arities h.inner h.outer s.place (plain peak) inner.left_well_formed outer.left_well_formed h.critical in
      let steps : HasSteps system.rules s.inner s.outer s.place (plain peak) =
      peak_steps system.rules h.inner h.outer s.inner s.outer s.place (plain peak) h.inner_numbered h.outer_numbered h.critical in
      let left : Step system.rules peak.top peak.left = step_of_place system.rules s.place s.inner peak.top peak.left steps.to_left in
      let right : Step system.rules peak.top peak.right = step_of_place system.rules [] s.outer peak.top peak.right steps.to_right in
      let results = and_parts (within_limits peak.left) (within_limits peak.right) (and_parts (within_limits peak.top) (within_limits peak.left && within_limits peak.right) small).1 in
      record {
        left_over = record { well_formed = run_well_formed system is top (Go left Stay); small = limits_size peak.left results.0 };
        right_over = record { well_formed = run_well_formed system is top (Go right Stay); small = limits_size peak.right results.1 };
        to_left = left;
        to_right = right;
      }

  listed_good : (total : ℕ) (spots : List Spot) (peaks : List PlacedPeak) → Lists system.rules total spots (Ok peaks)
      → (peak : PlacedPeak) → In peak peaks → HasGoodSides system peak
  listed_good total spots peaks at_end peak i = elim i [ ]
  listed_good total spots peaks (no_overlap {rest = rest} none later) peak i = listed_good total rest peaks later peak i
  listed_good total spots peaks (one_peak {s = s} {p = p} {rest = rest} {ps = ps} is_peak limits few later) peak i = elim (in_or i) as (λ _. HasGoodSides system peak) [
    | inl same ↦ subst (HasGoodSides system) (sym same) (peak_good s p is_peak limits)
    | inr j ↦ listed_good _ rest ps later peak j
  ]

  pub peaks_good : (peaks : List PlacedPeak) → ListsPeaks system.rules (Ok peaks) → (peak : PlacedPeak) → In peak peaks → HasGoodSides system peak
  peaks_good peaks listed peak i = listed_good 0 _ peaks listed peak i

  -- the same of a pair
  pub of_pair : (P : RewriteRule → Type 0) (peaks : List PlacedPeak) → ListsPeaks system.rules (Ok peaks)
      → ((peak : PlacedPeak) → HasGoodSides system peak → P (sides peak)) → (p : RewriteRule) → In p (map sides peaks) → P p
  of_pair P peaks listed each p i =
      let (peak, there, e) = of_map sides peaks i in
      subst P (sym e) (each peak (peaks_good peaks listed peak there))

  pub peaks_confluent : (peaks : List PlacedPeak) → ListsPeaks system.rules (Ok peaks)
      → ((p : RewriteRule) → In p (map sides peaks) → IsJoinable (Step system.rules) p.left p.right) → IsTerminating system → IsConfluent system
  peaks_confluent peaks listed joins terminates =
      joined system (map plain peaks) is (covered system (map plain peaks) is (has_all system peaks listed))
      (λ peak i.
      let (placed, there, e) = of_map plain peaks i in
      let J : Peak → Type 0 = λ x. IsJoinable (Step system.rules) x.left x.right in
      subst J (sym e) (joins (sides placed) (in_map sides there)))
      terminates
