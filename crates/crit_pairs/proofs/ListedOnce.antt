-- The critical peaks of a system have one list, or one fault.
use Rattle.std.specs.Prelude.{◌≡◌, ◌≤◌, ◌<◌, ℕ, ◌+◌, ◌⊎◌, false, List, [], ◌∷◌, Result, Ok, Err, IsTrue, refl}
use Rattle.std.proofs.Common.{inl, inr, sym, ◌∙◌, ap, subst, arith}
use Rattle.trs_defs.specs.Member.{In, in_first, in_rest}
use Rattle.trs_defs.specs.System.{RewriteRule, System, IsSystem}
use Rattle.rewrite_core.specs.declared.checks.refusals.StepRefused.{StepRefused}
use Rattle.rewrite_core.specs.PlacedPeak.{PlacedPeak}
use Rattle.rewrite_core.specs.Check.{HasOneAnswer}
use Rattle.crit_pairs.specs.PeakList.{Spot, spots, OverlapsAt, IsPeakAt, is_small, nodes_of_peak, Lists, at_end, no_overlap, one_peak, fault_later, too_large, too_many, ListsPeaks}
use Rattle.crit_pairs.specs.PeaksCheck.{ListsCriticalPeaks}
use Rattle.crit_pairs.specs.PeaksCheck as check
use Rattle.crit_pairs.specs.Walk.{after}
use Rattle.crit_pairs.specs.declared.faults.PeakFault.{PeakFault}
use Rattle.crit_pairs.specs.declared.faults.PeakFault.TheVariants as peak
use Rattle.crit_pairs.proofs.OnePeak.{peak_once}
use Rattle.crit_pairs.proofs.Spots.{peak_overlaps}

-- what the answer is after a peak
abbrev Continues : List RewriteRule → ℕ → List Spot → PlacedPeak → Result (List PlacedPeak) PeakFault → Type 0
Continues rules total rest p a =
    ((tail : Result (List PlacedPeak) PeakFault) × IsTrue (is_small p) × (total + nodes_of_peak p ≤ 4194304) × Lists rules (total + nodes_of_peak p) rest tail × (a ≡ after (p ∷ []) tail))
    ⊎ (((is_small p ≡ false) × (a ≡ Err peak.TooLarge)) ⊎ (IsTrue (is_small p) × (4194304 < total + nodes_of_peak p) × (a ≡ Err peak.TooMany)))

abbrev Starts : List RewriteRule → ℕ → Spot → List Spot → Result (List PlacedPeak) PeakFault → Type 0
Starts rules total s rest a = ((OverlapsAt rules s → ⊥) × Lists rules total rest a) ⊎ ((p : PlacedPeak) × IsPeakAt rules s p × Continues rules total rest p a)

starts : {rules : List RewriteRule} {total : ℕ} {s : Spot} {rest : List Spot} {a : Result (List PlacedPeak) PeakFault} → Lists rules total (s ∷ rest) a → Starts rules total s rest a
starts (no_overlap none l) = inl (none, l)
starts (one_peak {p = p} {ps = ps} is small few l) = inr (p, is, inl (Ok ps, small, few, l, refl))
starts (fault_later {p = p} {fault = fault} is small few l) = inr (p, is, inl (Err fault, small, few, l, refl))
starts (too_large {p = p} is large) = inr (p, is, inr (inl (large, refl)))
starts (too_many {p = p} is small many) = inr (p, is, inr (inr (small, many, refl)))

ends : {rules : List RewriteRule} {total : ℕ} {a : Result (List PlacedPeak) PeakFault} → Lists rules total [] a → a ≡ Ok []
ends at_end = refl

module _ (rules : List RewriteRule) (one : (s : Spot) (p q : PlacedPeak) → IsPeakAt rules s p → IsPeakAt rules s q → p ≡ q) where
  continues_once : (total : ℕ) (rest : List Spot) (p : PlacedPeak) (a b : Result (List PlacedPeak) PeakFault)
      → ((t u : Result (List PlacedPeak) PeakFault) → Lists rules (total + nodes_of_peak p) rest t → Lists rules (total + nodes_of_peak p) rest u → t ≡ u)
      → Continues rules total rest p a → Continues rules total rest p b → a ≡ b
  continues_once total rest p a b later (inl (t, small, few, l, e)) (inl (u, small2, few2, m, k)) = e ∙ (ap (after (p ∷ [])) (later t u l m) ∙ sym k)
  continues_once total rest p a b later (inl (t, small, few, l, e)) (inr (inl (large, k))) = absurd cc
  continues_once total rest p a b later (inl (t, small, few, l, e)) (inr (inr (small2, many, k))) = absurd (omega arith)
  continues_once total rest p a b later (inr (inl (large, e))) (inl (u, small, few, m, k)) = absurd cc
  continues_once total rest p a b later (inr (inl (large, e))) (inr (inl (large2, k))) = e ∙ sym k
  continues_once total rest p a b later (inr (inl (large, e))) (inr (inr (small, many, k))) = absurd cc
  continues_once total rest p a b later (inr (inr (small, many, e))) (inl (u, small2, few, m, k)) = absurd (omega arith)
  continues_once total rest p a b later (inr (inr (small, many, e))) (inr (inl (large, k))) = absurd cc
  continues_once total rest p a b later (inr (inr (small, many, e))) (inr (inr (small2, many2, k))) = e ∙ sym k

  starts_once : (total : ℕ) (s : Spot) (rest : List Spot) (a b : Result (List PlacedPeak) PeakFault) → ((p : PlacedPeak) → IsPeakAt rules s p → OverlapsAt rules s)
      → ((n : ℕ) (t u : Result (List PlacedPeak) PeakFault) → Lists rules n rest t → Lists rules n rest u → t ≡ u)
      → Starts rules total s rest a → Starts rules total s rest b → a ≡ b
  starts_once total s rest a b overlaps later (inl (none, l)) (inl (none2, m)) = later total a b l m
  starts_once total s rest a b overlaps later (inl (none, l)) (inr (q, is, k)) = absurd (none (overlaps q is))
  starts_once total s rest a b overlaps later (inr (p, is, h)) (inl (none, m)) = absurd (none (overlaps p is))
  starts_once total s rest a b overlaps later (inr (p, is, h)) (inr (q, is2, k)) =
      continues_once total rest p a b (later (total + nodes_of_peak p)) h (subst (λ z. Continues rules total rest z b) (one s q p is2 is) k)

  lists_once : (left : List Spot) → ((s : Spot) → In s left → (p : PlacedPeak) → IsPeakAt rules s p → OverlapsAt rules s)
      → (total : ℕ) (a b : Result (List PlacedPeak) PeakFault) → Lists rules total left a → Lists rules total left b → a ≡ b
  lists_once [] overlaps total a b h k = ends h ∙ sym (ends k)
  lists_once (s ∷ rest) overlaps total a b h k =
      starts_once total s rest a b (overlaps s in_first) (λ n t u l m. lists_once rest (λ z i. overlaps z (in_rest i)) n t u l m) (starts h) (starts k)

module _ (system : System) (valid : IsSystem system) where
  same_list : (a b : Result (List PlacedPeak) PeakFault) → ListsPeaks system.rules a → ListsPeaks system.rules b → a ≡ b
  same_list a b h k = lists_once system.rules (peak_once system valid) (spots system.rules) (λ s i p is. peak_overlaps system.rules s p i is) 0 a b h k

  pub one_list : (ps qs : List PlacedPeak) → ListsPeaks system.rules (Ok ps) → ListsPeaks system.rules (Ok qs) → ps ≡ qs
  one_list ps qs h k = let e : ◌≡◌ {A = Result (List PlacedPeak) PeakFault} (Ok ps) (Ok qs) = same_list (Ok ps) (Ok qs) h k in cc (e)

  pub list_or_fault : (ps : List PlacedPeak) (fault : PeakFault) → ListsPeaks system.rules (Ok ps) → ListsPeaks system.rules (Err fault) → ⊥
  list_or_fault ps fault h k = let e = same_list (Ok ps) (Err fault) h k in absurd cc

  same_answer : (a b : Result (List PlacedPeak) StepRefused) → ListsCriticalPeaks system.rules a → ListsCriticalPeaks system.rules b → a ≡ b
  same_answer _ _ (check.listed ps h) (check.listed qs k) = let e : ◌≡◌ {A = Result (List PlacedPeak) PeakFault} (Ok ps) (Ok qs) = same_list (Ok ps) (Ok qs) h k in cc (e)
  same_answer _ _ (check.listed ps h) (check.too_large k) = let e = same_list (Ok ps) (Err peak.TooLarge) h k in absurd cc
  same_answer _ _ (check.listed ps h) (check.too_many k) = let e = same_list (Ok ps) (Err peak.TooMany) h k in absurd cc
  same_answer _ _ (check.too_large h) (check.listed qs k) = let e = same_list (Err peak.TooLarge) (Ok qs) h k in absurd cc
  same_answer _ _ (check.too_large h) (check.too_large k) = refl
  same_answer _ _ (check.too_large h) (check.too_many k) = let e = same_list (Err peak.TooLarge) (Err peak.TooMany) h k in absurd cc
  same_answer _ _ (check.too_many h) (check.listed qs k) = let e = same_list (Err peak.TooMany) (Ok qs) h k in absurd cc
  same_answer _ _ (check.too_many h) (check.too_large k) = let e = same_list (Err peak.TooMany) (Err peak.TooLarge) h k in absurd cc
  same_answer _ _ (check.too_many h) (check.too_many k) = refl

  pub listed_once : HasOneAnswer (ListsCriticalPeaks system.rules)
  listed_once = record { once = same_answer }
