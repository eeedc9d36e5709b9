-- A linear system whose critical peaks have decreasing sides is confluent.
use Rattle.std.proofs.Common.{ℕ, ◌≡◌, refl, subst}
use Rattle.confluence_theory.proofs.Joins.{RunsJoin}
use Rattle.confluence_theory.proofs.Families.{AnyRule, HasInstance, of_instance, CoversBy, IsFamily}
use Rattle.confluence_theory.proofs.Free.{IsSeparate}
use Rattle.confluence_theory.specs.Ranks.{Side, IsLocallyDecreasing}
use Rattle.trs_defs.specs.Run.{Stay, AtMostOne, Same, Once}
use Rattle.trs_defs.specs.Step.{Inside, InsideOne, here, deep, first, later, RootStep, StepBy}
use Rattle.trs_defs.specs.Substitution.{apply}
use Rattle.trs_defs.specs.Tree.{Tree, Trees, app, cons}
use Rattle.trs_defs.proofs.Runs.{each, once_along}
use Rattle.confluence_theory.proofs.Sides.{side_along}
use Rattle.confluence_theory.proofs.Decreasing.{decreasing_confluent}
use Rattle.trs_defs.proofs.Substitutions.{step_closed}
use Rattle.confluence_theory.proofs.RulePeaks.{peak}
use Rattle.confluence_theory.proofs.NestedSteps.{linear_nested}

-- a step whose rule has the rank
abbrev pub Ranked : (ℕ → Tree → Tree → Type 0) → (ℕ → ℕ) → ℕ → Tree → Tree → Type 0
Ranked rule rank a s t = (i : ℕ) × (rank i ≡ a) × StepBy (rule i) s t

-- the two sides of a peak of rules i and j
abbrev pub Sides : (ℕ → Tree → Tree → Type 0) → (ℕ → ℕ) → ℕ → ℕ → Tree → Tree → Type 0
Sides rule rank i j t u = (v : Tree) × Side (Ranked rule rank) (rank i) (rank j) t v × Side (Ranked rule rank) (rank j) (rank i) u v

module _ (rule : ℕ → Tree → Tree → Type 0) (rank : ℕ → ℕ) where
  abbrev RankedOne : ℕ → Trees → Trees → Type 0
  RankedOne a ts us = (i : ℕ) × (rank i ≡ a) × InsideOne (RootStep (rule i)) ts us

  module _ (i j : ℕ) where
    mutual
      sides_inside : {t u : Tree} → Inside (Sides rule rank i j) t u → Sides rule rank i j t u
      sides_inside (here q) = q
      sides_inside (deep {f = f} d) =
          let (v, tv, uv) = sides_all d in (
            app f v,
            side_along RankedOne (Ranked rule rank) (λ ts. app f ts) (λ a s t (k, e, r). (k, e, deep r)) (rank i) (rank j) tv,
            side_along RankedOne (Ranked rule rank) (λ ts. app f ts) (λ a s t (k, e, r). (k, e, deep r)) (rank j) (rank i) uv,
          )

      sides_all : {ts us : Trees} → InsideOne (Sides rule rank i j) ts us → (vs : Trees) × Side RankedOne (rank i) (rank j) ts vs × Side RankedOne (rank j) (rank i) us vs
      sides_all (first {ts = ts} d) =
          let (v, tv, uv) = sides_inside d in (
            cons v ts,
            side_along (Ranked rule rank) RankedOne (λ t. cons t ts) (λ a s t (k, e, r). (k, e, first r)) (rank i) (rank j) tv,
            side_along (Ranked rule rank) RankedOne (λ t. cons t ts) (λ a s t (k, e, r). (k, e, first r)) (rank j) (rank i) uv,
          )
      sides_all (later {t = t} d) =
          let (v, tv, uv) = sides_all d in (
            cons t v,
            side_along RankedOne RankedOne (λ ts. cons t ts) (λ a s t (k, e, r). (k, e, later r)) (rank i) (rank j) tv,
            side_along RankedOne RankedOne (λ ts. cons t ts) (λ a s t (k, e, r). (k, e, later r)) (rank j) (rank i) uv,
          )

  sides_apart : (i j : ℕ) (t u v : Tree) → Inside (RootStep (rule j)) t v → AtMostOne (Inside (RootStep (rule i))) u v → Sides rule rank i j t u
  sides_apart i j t u v r q = (v, (t, v, Stay, Once (j, refl, r), Stay), (u, v, Stay, once_along (λ x. x) (λ x y s. (i, refl, s)) q, Stay))

  sides_instance : (i j : ℕ) (τ : ℕ → Tree) (t u : Tree) → Sides rule rank i j t u → Sides rule rank i j (apply τ t) (apply τ u)
  sides_instance i j τ t u (v, tv, uv) = (
    apply τ v,
    side_along (Ranked rule rank) (Ranked rule rank) (apply τ) (λ a s t (k, e, r). (k, e, (step_closed (rule k)).instance τ s t r)) (rank i) (rank j) tv,
    side_along (Ranked rule rank) (Ranked rule rank) (apply τ) (λ a s t (k, e, r). (k, e, (step_closed (rule k)).instance τ s t r)) (rank j) (rank i) uv,
  )

  module _ (peaks : ℕ → ℕ → Tree → Tree → Tree → Type 0) (sys : IsFamily rule) (linear : (i : ℕ) (l r : Tree) → rule i l r → IsSeparate l × IsSeparate r)
      (covers : CoversBy rule peaks) (listed : (i j : ℕ) (top left right : Tree) → peaks i j top left right → Sides rule rank i j left right)
    where
      sides_listed : (i j : ℕ) (s t u : Tree) → HasInstance peaks i j s t u → Sides rule rank i j t u
      sides_listed = of_instance peaks (Sides rule rank) sides_instance listed

      sides_peak : (i j : ℕ) {s t u : Tree} → Inside (RootStep (rule i)) s t → Inside (RootStep (rule j)) s u → Sides rule rank i j t u
      sides_peak i j r q =
          peak rule sys (Sides rule rank)
          (λ i j t u (v, tv, uv). (v, uv, tv))
          (λ i j f ts us d. sides_inside i j (deep d))
          (λ i t. (t, (t, t, Stay, Same, Stay), (t, t, Stay, Same, Stay)))
          (λ i j t u v r q. sides_apart i j t u v r (Once q))
          (λ i j l r t σ h k d. sides_listed i j (apply σ l) t (apply σ r) (covers.at_root i j l r t σ h k d))
          (linear_nested rule (Sides rule rank) linear sides_apart
          (λ i j f ls us r σ h o. sides_listed i j (apply σ (app f ls)) (app f us) (apply σ r) (covers.below_root i j f ls us r σ h o)))
          i j r q

      locally_decreasing : IsLocallyDecreasing (Ranked rule rank)
      locally_decreasing a b s t u (i, e, r) (j, e', r') =
          let P : ℕ → Type 0 = λ c. (v : Tree) × Side (Ranked rule rank) c (rank j) t v × Side (Ranked rule rank) (rank j) c u v in
          let Q : ℕ → Type 0 = λ c. (v : Tree) × Side (Ranked rule rank) a c t v × Side (Ranked rule rank) c a u v in
          subst Q e' (subst P e (sides_peak i j r r'))

      pub ranks_confluent : RunsJoin (AnyRule rule)
      ranks_confluent s t u p q =
          let (v, tv, uv) =
          decreasing_confluent (Ranked rule rank) locally_decreasing s t u
          (each (λ x y (i, r). (rank i, (i, refl, r))) p)
          (each (λ x y (i, r). (rank i, (i, refl, r))) q) in
          (v, each (λ x y (a, (i, e, r)). (i, r)) tv, each (λ x y (a, (i, e, r)). (i, r)) uv)
