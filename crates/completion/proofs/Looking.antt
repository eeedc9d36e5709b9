-- A few of the critical peaks, or all of them: the first that is not passed over.
use Rattle.std.proofs.Common.{◌≡◌, ◌≤◌, ℕ, ◌⊎◌, inl, inr, refl, sym, ap, subst, arith, ◌∙◌, List, ◌++◌, map, take, drop, Ok, Err, false}
use Rattle.std.proofs.lemmas.List.{take_all, take-append-drop, map-append}
use Rattle.trs_defs.specs.Tree.{Tree}
use Rattle.trs_defs.specs.System.{RewriteRule, System, IsSystem}
use Rattle.trs_defs.proofs.Members.{in_left}
use Rattle.rewrite_core.specs.PlacedPeak.{PlacedPeak}
use Rattle.rewrite_core.specs.declared.checks.refusals.StepRefused.{StepRefused}
use Rattle.crit_pairs.specs.PeakList.{ListsPeaks}
use Rattle.crit_pairs.specs.PeaksCheck.{ListsCriticalPeaks, listed, too_large, too_many}
use Rattle.crit_pairs.specs.FirstPeaks.{AreFirst}
use Rattle.crit_pairs.specs.declared.peaks_check.FirstPeaks.{FirstPeaks}
use Rattle.crit_pairs.specs.declared.faults.PeakFault.TheVariants as fault
use Rattle.completion.specs.declared.treating.Outcome.{Outcome as CodeOutcome}
use Rattle.completion.specs.declared.treating.Outcome.TheVariants as outcome
use Rattle.completion.specs.Endings.{Limit}
use Rattle.completion.specs.CompletionRun.{sides, Outcome, Passed, Added, Ended, Finds, none_found, passed_over, found_rule, found_end}
use Rattle.completion.specs.Treating.{IsOutcome, is_passed}
use Rattle.completion.specs.Taking.{IsTermOver, ArePairsOver, Looks, at_peaks, past_limit}
use Rattle.completion.proofs.PeakPairs.{of_pair}

all_of : {rules : List RewriteRule} (peaks : List PlacedPeak) → ListsCriticalPeaks rules (Ok peaks) → ListsPeaks rules (Ok peaks)
all_of peaks (listed _ h) = h

-- where the peaks pass a limit
pub refused_there : (arities : List ℕ) (greater : Tree → Tree → Type 0) (rules : List RewriteRule) (units : ℕ) (why : StepRefused) → ListsCriticalPeaks rules (Err why)
    → Looks arities greater rules units (Ended Limit)
refused_there arities greater rules units why (too_large h) = past_limit fault.TooLarge h
refused_there arities greater rules units why (too_many h) = past_limit fault.TooMany h

pub all_pairs : (system : System) → IsSystem system → (peaks : List PlacedPeak) → ListsPeaks system.rules (Ok peaks) → ArePairsOver system.arities (map sides peaks)
all_pairs system valid peaks h =
    of_pair system valid (λ p. IsTermOver system.arities p.left × IsTermOver system.arities p.right) peaks h (λ peak good. (good.left_over, good.right_over))

split_sides : (most : ℕ) (all : List PlacedPeak) → map sides (take most all) ++ map sides (drop most all) ≡ map sides all
split_sides most all = sym (map-append sides (take most all) (drop most all)) ∙ ap (map sides) (take-append-drop most all)

pub few_pairs : (system : System) → IsSystem system → (most : ℕ) (few : FirstPeaks) → AreFirst system.rules most few → ArePairsOver system.arities (map sides few.peaks.items)
few_pairs system valid most few h =
    let P : List PlacedPeak → Type 0 = λ ps. ArePairsOver system.arities (map sides ps) in
    let Q : List RewriteRule → Type 0 = ArePairsOver system.arities in
    let whole : Q (map sides (take most h.all) ++ map sides (drop most h.all)) = subst Q (sym (split_sides most h.all)) (all_pairs system valid h.all (all_of h.all h.lists)) in
    subst P (sym h.first) (λ p i. whole p (in_left (map sides (drop most h.all)) i))

-- what is found among the first pairs is found among more
found_earlier : {arities : List ℕ} {greater : Tree → Tree → Type 0} {rules ps : List RewriteRule} {units : ℕ} (more : List RewriteRule) (made : Outcome)
    → ((n : ℕ) → made ≡ Passed n → ⊥) → Finds arities greater rules units ps made → Finds arities greater rules units (ps ++ more) made
found_earlier more made stays (none_found {units = n}) = absurd (stays n refl)
found_earlier more made stays (passed_over t rest) = passed_over t (found_earlier more made stays rest)
found_earlier more made stays (found_rule t) = found_rule t
found_earlier more made stays (found_end t) = found_end t

module _ (greater : Tree → Tree → Type 0) (system : System) (units most : ℕ) (few : FirstPeaks) (h : AreFirst system.rules most few) where
  abbrev FoundFew : Outcome → Type 0
  FoundFew made = Finds system.arities greater system.rules units (map sides few.peaks.items) made

  all_few : few.count ≤ most → few.peaks.items ≡ h.all
  all_few less = h.first ∙ take_all most h.all (omega (arith, less, h.counted))

  whole_list : few.count ≤ most → (made : Outcome) → FoundFew made → Looks system.arities greater system.rules units made
  whole_list less made f =
      let F : List PlacedPeak → Type 0 = λ ps. Finds system.arities greater system.rules units (map sides ps) made in
      at_peaks h.all (all_of h.all h.lists) (subst F (all_few less) f)

  early : (made : Outcome) → ((n : ℕ) → made ≡ Passed n → ⊥) → FoundFew made → Looks system.arities greater system.rules units made
  early made stays f =
      let F : List PlacedPeak → Type 0 = λ ps. Finds system.arities greater system.rules units (map sides ps) made in
      let G : List RewriteRule → Type 0 = λ ps. Finds system.arities greater system.rules units ps made in
      at_peaks h.all (all_of h.all h.lists) (subst G (split_sides most h.all) (found_earlier (map sides (drop most h.all)) made stays (subst F h.first f)))

  -- all peaks were among the few, or one of these was not passed over
  pub few_looked_at : (made : CodeOutcome) → (few.count ≤ most) ⊎ (is_passed made ≡ false) → IsOutcome FoundFew made
      → IsOutcome (Looks system.arities greater system.rules units) made
  few_looked_at (outcome.Passed n) (inl less) f = whole_list less (Passed n) f
  few_looked_at (outcome.Passed n) (inr no_pass) f = absurd cc
  few_looked_at (outcome.Added r n) which f = early (Added r n) (λ m k. absurd cc) f
  few_looked_at (outcome.Ended c) which f = early (Ended _) (λ m k. absurd cc) f

-- all peaks are looked at
pub all_looked_at : (greater : Tree → Tree → Type 0) (system : System) (units : ℕ) (peaks : List PlacedPeak) → ListsPeaks system.rules (Ok peaks) → (made : CodeOutcome)
    → IsOutcome (Finds system.arities greater system.rules units (map sides peaks)) made → IsOutcome (Looks system.arities greater system.rules units) made
all_looked_at greater system units peaks h (outcome.Passed n) f = at_peaks peaks h f
all_looked_at greater system units peaks h (outcome.Added r n) f = at_peaks peaks h f
all_looked_at greater system units peaks h (outcome.Ended c) f = at_peaks peaks h f
