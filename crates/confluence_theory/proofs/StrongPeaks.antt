-- A linear system whose critical peaks join strongly is confluent.
use Rattle.std.proofs.Common.{ℕ}
use Rattle.confluence_theory.proofs.Joins.{RunsJoin, MeetsStrongly}
use Rattle.confluence_theory.proofs.Families.{AnyRule, AnyOne, HasInstance, of_instance, CoversBy, IsFamily}
use Rattle.confluence_theory.proofs.Free.{IsSeparate}
use Rattle.trs_defs.specs.Run.{Stay, AtMostOne, Same, Once}
use Rattle.trs_defs.specs.Step.{Inside, InsideOne, here, deep, first, later, RootStep}
use Rattle.trs_defs.specs.Substitution.{apply}
use Rattle.trs_defs.specs.Tree.{Tree, Trees, app, cons}
use Rattle.trs_defs.proofs.Runs.{one, run_along, once_along, at_most_run}
use Rattle.confluence_theory.proofs.Strong.{strong_confluent}
use Rattle.trs_defs.proofs.Substitutions.{step_closed}
use Rattle.confluence_theory.proofs.RulePeaks.{peak}
use Rattle.confluence_theory.proofs.NestedSteps.{linear_nested}

-- joined by a run on one side and at most one step on the other, both ways
abbrev pub Both : {T : Type 0} → (T → T → Type 0) → T → T → Type 0
Both R t u = MeetsStrongly R t u × MeetsStrongly R u t

both_along : {T U : Type 0} (R : T → T → Type 0) (Q : U → U → Type 0) (F : T → U) → ((s t : T) → R s t → Q (F s) (F t)) → {t u : T} → Both R t u → Both Q (F t) (F u)
both_along R Q F f ((v, tv, uv), (w, uw, tw)) = ((F v, run_along F f tv, once_along F f uv), (F w, run_along F f uw, once_along F f tw))

module _ (rule : ℕ → Tree → Tree → Type 0) where
  abbrev Closed : ℕ → ℕ → Tree → Tree → Type 0
  Closed i j t u = Both (AnyRule rule) t u

  module _ (i j : ℕ) where
    mutual
      strong_inside : {t u : Tree} → Inside (Closed i j) t u → Both (AnyRule rule) t u
      strong_inside (here q) = q
      strong_inside (deep {f = f} d) = both_along (AnyOne rule) (AnyRule rule) (λ ts. app f ts) (λ s t (k, r). (k, deep r)) (strong_all d)

      strong_all : {ts us : Trees} → InsideOne (Closed i j) ts us → Both (AnyOne rule) ts us
      strong_all (first {ts = ts} d) = both_along (AnyRule rule) (AnyOne rule) (λ t. cons t ts) (λ s t (k, r). (k, first r)) (strong_inside d)
      strong_all (later {t = t} d) = both_along (AnyOne rule) (AnyOne rule) (λ ts. cons t ts) (λ s u (k, r). (k, later r)) (strong_all d)

  any_once : (i : ℕ) {t u : Tree} → AtMostOne (Inside (RootStep (rule i))) t u → AtMostOne (AnyRule rule) t u
  any_once i q = once_along (λ x. x) (λ x y s. (i, s)) q

  apart : (i j : ℕ) (t u v : Tree) → Inside (RootStep (rule j)) t v → AtMostOne (Inside (RootStep (rule i))) u v → Both (AnyRule rule) t u
  apart i j t u v r q = ((v, one (j, r), any_once i q), (v, at_most_run (any_once i q), Once (j, r)))

  module _ (peaks : ℕ → ℕ → Tree → Tree → Tree → Type 0) (sys : IsFamily rule) (linear : (i : ℕ) (l r : Tree) → rule i l r → IsSeparate l × IsSeparate r)
      (covers : CoversBy rule peaks) (listed : (i j : ℕ) (top left right : Tree) → peaks i j top left right → Both (AnyRule rule) left right)
    where
      both_listed : (i j : ℕ) (s t u : Tree) → HasInstance peaks i j s t u → Both (AnyRule rule) t u
      both_listed =
          of_instance peaks Closed
          (λ i j τ t u. both_along (AnyRule rule) (AnyRule rule) (apply τ) (λ s t (k, r). (k, (step_closed (rule k)).instance τ s t r))) listed

      both_peak : (i j : ℕ) {s t u : Tree} → Inside (RootStep (rule i)) s t → Inside (RootStep (rule j)) s u → Both (AnyRule rule) t u
      both_peak i j r q =
          peak rule sys Closed
          (λ i j t u (p, q). (q, p))
          (λ i j f ts us d. strong_inside i j (deep d))
          (λ i t. ((t, Stay, Same), (t, Stay, Same)))
          (λ i j t u v r q. apart i j t u v r (Once q))
          (λ i j l r t σ h k d. both_listed i j (apply σ l) t (apply σ r) (covers.at_root i j l r t σ h k d))
          (linear_nested rule Closed linear apart
          (λ i j f ls us r σ h o. both_listed i j (apply σ (app f ls)) (app f us) (apply σ r) (covers.below_root i j f ls us r σ h o)))
          i j r q

      pub strong_system : RunsJoin (AnyRule rule)
      strong_system = strong_confluent (AnyRule rule) (λ s t u (i, r) (j, q). (both_peak i j r q).0)
