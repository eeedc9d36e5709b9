-- A system whose critical peaks join is locally confluent, linear or not.
use Rattle.std.proofs.Common.{ℕ, inl, inr, refl}
use Rattle.confluence_theory.proofs.Joins.{Joins, StepsJoin}
use Rattle.confluence_theory.proofs.Families.{AnyRule, AnyOne, HasInstance, of_instance, CoversBy, IsFamily}
use Rattle.trs_defs.specs.Bounded.{IsBoundedBy}
use Rattle.trs_defs.specs.Run.{Run, Stay}
use Rattle.trs_defs.specs.Step.{Inside, InsideOne, here, deep, first, later, RootStep}
use Rattle.trs_defs.specs.Substitution.{apply, apply_all}
use Rattle.trs_defs.specs.Tree.{Tree, Trees, app, cons}
use Rattle.trs_defs.proofs.Runs.{one, then, each, run_along}
use Rattle.confluence_theory.proofs.BoundedRuns.{joins_within}
use Rattle.trs_defs.proofs.Substitutions.{step_closed}
use Rattle.confluence_theory.proofs.Substitutions.{but}
use Rattle.confluence_theory.proofs.AnyInstances.{split_any_all, copies_any}
use Rattle.confluence_theory.proofs.RulePeaks.{peak}

joins_along : {T U : Type 0} (R : T → T → Type 0) (Q : U → U → Type 0) (F : T → U) → ((s t : T) → R s t → Q (F s) (F t)) → {t u : T} → Joins R t u → Joins Q (F t) (F u)
joins_along R Q F f (v, tv, uv) = (F v, run_along F f tv, run_along F f uv)

module _ (rule : ℕ → Tree → Tree → Type 0) where
  abbrev Closed : ℕ → ℕ → Tree → Tree → Type 0
  Closed i j t u = Joins (AnyRule rule) t u

  module _ (i j : ℕ) where
    mutual
      joins_inside : {t u : Tree} → Inside (Closed i j) t u → Joins (AnyRule rule) t u
      joins_inside (here q) = q
      joins_inside (deep {f = f} d) = joins_along (AnyOne rule) (AnyRule rule) (λ ts. app f ts) (λ s t (k, r). (k, deep r)) (joins_all d)

      joins_all : {ts us : Trees} → InsideOne (Closed i j) ts us → Joins (AnyOne rule) ts us
      joins_all (first {ts = ts} d) = joins_along (AnyRule rule) (AnyOne rule) (λ t. cons t ts) (λ s t (k, r). (k, first r)) (joins_inside d)
      joins_all (later {t = t} d) = joins_along (AnyOne rule) (AnyOne rule) (λ ts. cons t ts) (λ s u (k, r). (k, later r)) (joins_all d)

  any_run : (i : ℕ) {t u : Tree} → Run (Inside (RootStep (rule i))) t u → Run (AnyRule rule) t u
  any_run i q = each (λ x y s. (i, s)) q

  module _ (peaks : ℕ → ℕ → Tree → Tree → Tree → Type 0) (sys : IsFamily rule)
      (covers : CoversBy rule peaks) (listed : (i j : ℕ) (top left right : Tree) → peaks i j top left right → Joins (AnyRule rule) left right)
    where
      joins_listed : (i j : ℕ) (s t u : Tree) → HasInstance peaks i j s t u → Joins (AnyRule rule) t u
      joins_listed =
          of_instance peaks Closed
          (λ i j τ t u. joins_along (AnyRule rule) (AnyRule rule) (apply τ) (λ s t (k, r). (k, (step_closed (rule k)).instance τ s t r))) listed

      any_nested : (i j f : ℕ) (ls us : Trees) (r : Tree) (σ : ℕ → Tree) → rule j (app f ls) r → InsideOne (RootStep (rule i)) (apply_all σ ls) us → Joins (AnyRule rule) (app f us) (apply σ r)
      any_nested i j f ls us r σ h d =
          elim (split_any_all (RootStep (rule i)) σ ls us d) [
            | inl o ↦ joins_listed i j (apply σ (app f ls)) (app f us) (apply σ r) (covers.below_root i j f ls us r σ h o)
            | inr m ↦
                let τ : ℕ → Tree = but σ m.x m.y in (
                  apply τ r,
                  then (run_along (λ ts. app f ts) (λ ts us r. (i, deep r)) m.others) (one (j, here (app f ls, r, τ, h, refl, refl))),
                  any_run i (copies_any (RootStep (rule i)) σ m.x m.y m.step r),
                )
          ]

      pub locally_confluent : StepsJoin (AnyRule rule)
      locally_confluent s t u (i, r) (j, q) =
          peak rule sys Closed
          (λ i j t u (v, tv, uv). (v, uv, tv))
          (λ i j f ts us d. joins_inside i j (deep d))
          (λ i t. (t, Stay, Stay))
          (λ i j t u v r q. (v, one (j, r), one (i, q)))
          (λ i j l r t σ h k d. joins_listed i j (apply σ l) t (apply σ r) (covers.at_root i j l r t σ h k d))
          any_nested
          i j r q

      pub newman_system : (s t u : Tree) (n : ℕ) → IsBoundedBy (AnyRule rule) n s → Run (AnyRule rule) s t → Run (AnyRule rule) s u → Joins (AnyRule rule) t u
      newman_system s t u n b p q = joins_within (AnyRule rule) locally_confluent n s t u b p q
