-- What the strategies fork and split find meets the conditions of a fork.
use Rattle.std.specs.Prelude.{◌≡◌, ◌≢◌, ℕ, ◌&&◌, List, [], Ok, IsTrue, refl}
use Rattle.std.proofs.Common.{ap, sym, ◌∙◌, subst, inl, inr}
use Rattle.std.proofs.lemmas.Bool.{and_parts}
use Rattle.trs_defs.specs.Member.{In, in_first, in_rest}
use Rattle.trs_defs.proofs.Members.{in_or, no_in}
use Rattle.trs_defs.specs.Tree.{Tree}
use Rattle.trs_defs.specs.Size.{within_limits}
use Rattle.trs_defs.specs.WellFormed.{IsWellFormed}
use Rattle.trs_defs.specs.System.{RewriteRule, System, IsSystem}
use Rattle.trs_defs.specs.Path.{StepsAt, Follows}
use Rattle.term_pool.proofs.ReachLaws.{paths_lead}
use Rattle.rewrite_core.specs.PlacedPeak.{PlacedPeak}
use Rattle.rewrite_core.specs.declared.checks.forks.ForkTest.{ForkTest}
use Rattle.rewrite_core.specs.declared.checks.forks.ForkTest.TheVariants.{Normal, Apart}
use Rattle.rewrite_core.specs.Check.{goes_on, absent, holds}
use Rattle.rewrite_core.specs.PathCheck.{followed}
use Rattle.join_find.specs.crit_pairs.PlainPeak.{plain}
use Rattle.join_find.specs.crit_pairs.PeakList.{Spot, Lists, at_end, no_overlap, one_peak, IsPeakAt, is_small, ListsPeaks}
use Rattle.cert_step.specs.nonjoin.Apart.{AreApart}
use Rattle.cert_step.proofs.nonjoin.ApartLaws.{system_apart}
use Rattle.cert_step.specs.ForkKind.{end_conditions}
use Rattle.join_find.proofs.Firsts.{first_in_list, holds_now}
use Rattle.conf_find.specs.Fork.{Fork, fork_from}
use Rattle.conf_find.specs.ForkRows.{Behind, behind_none, behind_one, AreNormal, AreDifferentNormalForms, IsTestOf, both_normal, not_both, PartsBy, FindsFork, FindsSplit}
use Rattle.conf_find.specs.Laws.{IsForkStep}
use Rattle.join_find.proofs.crit_pairs.PeakSteps.{HasSteps, peak_steps}
use Rattle.join_find.proofs.crit_pairs.WellFormedTops.{top_well_formed}

pub behind_in : {A : Type 0} {passed : A → Type 0} {xs : List A} {a : A} → Behind passed xs a → In a xs
behind_in behind_none = in_first
behind_in (behind_one h rest) = in_rest (behind_in rest)

-- a peak that keeps the limits, with its two steps from a well-formed top
record IsPeak (system : System) (peak : PlacedPeak) : Type 0 where
  top : IsTrue (within_limits peak.top)
  left : IsTrue (within_limits peak.left)
  right : IsTrue (within_limits peak.right)
  well_formed : IsWellFormed system.arities peak.top
  to_left : StepsAt system.rules peak.place peak.inner peak.top peak.left
  to_right : StepsAt system.rules [] peak.outer peak.top peak.right

module _ (system : System) (valid : IsSystem system) where
  peak_at : (s : Spot) (peak : PlacedPeak) → IsPeakAt system.rules s peak → IsTrue (is_small peak) → IsPeak system peak
  peak_at s peak h small =
      let inner = valid.each s.inner h.inner h.inner_numbered in
      let outer = valid.each s.outer h.outer h.outer_numbered in
      let steps : HasSteps system.rules s.inner s.outer s.place (plain peak) =
      peak_steps system.rules h.inner h.outer s.inner s.outer s.place (plain peak) h.inner_numbered h.outer_numbered h.critical in
      let limits = and_parts (within_limits peak.top) (within_limits peak.left && within_limits peak.right) small in
      let sides = and_parts (within_limits peak.left) (within_limits peak.right) limits.1 in
      let L : List ℕ → ℕ → Type 0 = λ p k. StepsAt system.rules p k peak.top peak.left in
      record {
        top = limits.0;
        left = sides.0;
        right = sides.1;
        well_formed = top_well_formed system.arities h.inner h.outer s.place (plain peak) inner.left_well_formed outer.left_well_formed h.critical;
        to_left = subst (λ p. L p peak.inner) (sym h.is_place) (subst (λ k. L s.place k) (sym h.is_inner) steps.to_left);
        to_right = subst (λ k. StepsAt system.rules [] k peak.top peak.right) (sym h.is_outer) steps.to_right;
      }

  peak_listed : {total : ℕ} {spots : List Spot} {peaks : List PlacedPeak} → Lists system.rules total spots (Ok peaks) → (peak : PlacedPeak) → In peak peaks → IsPeak system peak
  peak_listed at_end peak i = absurd (no_in i)
  peak_listed (no_overlap none later) peak i = peak_listed later peak i
  peak_listed (one_peak {s = s} {p = p} is small few later) peak i = elim (in_or i) [
    | inl same ↦ subst (IsPeak system) (sym same) (peak_at s p is small)
    | inr j ↦ peak_listed later peak j
  ]

  module _ (parted : List RewriteRule → Tree → Tree → Type 0) (differ : (t u : Tree) → parted system.rules t u → t ≢ u)
      (apart : (t u : Tree) → (AreNormal system.rules t u → ⊥) → parted system.rules t u → AreApart system.rules t u) where
    ends_pass : (t u : Tree) (how : ForkTest) → parted system.rules t u → IsTestOf system.rules t u how → end_conditions system.rules how t u (Ok tt)
    ends_pass t u Normal h (both_normal normal) =
        goes_on tt (Ok tt) (absent (λ (v, step). normal.0 v step)) (goes_on tt (Ok tt) (absent (λ (v, step). normal.1 v step)) (absent (differ t u h)))
    ends_pass t u Apart h (not_both other) = holds (apart t u other h)

    fork_passes : (peak : PlacedPeak) (fork : Fork) → IsPeak system peak → PartsBy parted system.rules peak fork → IsForkStep system fork
    fork_passes peak fork is h =
        let u = h.parts.u.term in
        let v = h.parts.v.term in
        let left : Follows system.rules h.parts.u.path peak.left u = paths_lead system.rules peak.left 8 32 4096 h.lefts h.from_left h.parts.u (first_in_list h.parts.first_left) in
        let right : Follows system.rules h.parts.v.path peak.right v = paths_lead system.rules peak.right 8 32 4096 h.rights h.from_right h.parts.v (first_in_list h.parts.first_right) in
        let ends = ends_pass u v h.parts.how (holds_now h.parts.first_right) h.parts.test in
        let passes : IsForkStep system (fork_from peak h.parts.u.path h.parts.v.path h.parts.how) = record {
          well_made = (is.well_formed, is.top);
          conditions = goes_on u (Ok tt) (followed u (peak.left, is.to_left, is.left, left)) (goes_on v (Ok tt) (followed v (peak.right, is.to_right, is.right, right)) ends);
        } in
        subst (IsForkStep system) (sym h.parts.is) passes

  pub found_forks_apply : (peaks : List PlacedPeak) (fork : Fork) → ListsPeaks system.rules (Ok peaks) → FindsFork system.rules peaks fork → IsForkStep system fork
  found_forks_apply peaks fork critical (peak, behind, h) =
      fork_passes AreApart (λ t u a same. system_apart system t u valid a (t, (0, refl), (0, sym same))) (λ t u other a. a) peak fork
      (peak_listed critical peak (behind_in behind)) h

  normal_test : (t u : Tree) (how : ForkTest) → AreNormal system.rules t u → IsTestOf system.rules t u how → how ≡ Normal
  normal_test t u Normal normal h = refl
  normal_test t u Apart normal (not_both other) = absurd (other normal)

  pub found_splits_apply : (peaks : List PlacedPeak) (fork : Fork) → ListsPeaks system.rules (Ok peaks) → FindsSplit system.rules peaks fork
      → IsForkStep system fork × (fork.test ≡ Normal)
  found_splits_apply peaks fork critical (peak, behind, h) = (
    fork_passes AreDifferentNormalForms (λ t u d. d.1) (λ t u other d. absurd (other d.0)) peak fork (peak_listed critical peak (behind_in behind)) h,
    ap (λ (f : Fork). f.test) h.parts.is ∙ normal_test h.parts.u.term h.parts.v.term h.parts.how (holds_now h.parts.first_right).0 h.parts.test,
  )
