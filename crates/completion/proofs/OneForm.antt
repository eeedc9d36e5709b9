-- A term has one first redex, and within so many units one normal form, or one reason that it was not reached.
use Rattle.std.proofs.Common.{◌≡◌, ◌<◌, ◌≤◌, ℕ, ◌+◌, ◌⊎◌, inl, inr, refl, sym, ap, subst, arith, ◌∙◌, Bool, true, false, Result, IsTrue}
use Rattle.std.proofs.Math.Decide.{dec_le}
use Rattle.trs_defs.specs.Tree.{Tree}
use Rattle.trs_defs.specs.Size.{within_limits}
use Rattle.trs_defs.specs.System.{System, IsSystem}
use Rattle.trs_defs.specs.Path.{PlacedRule, StepsAt}
use Rattle.trs_defs.specs.Step.{Step}
use Rattle.trs_defs.specs.NormalForm.{IsNormalForm}
use Rattle.trs_defs.proofs.Places.{step_of_place, steps_at_once}
use Rattle.term_pool.specs.Redexes.{ComesBefore}
use Rattle.term_pool.specs.Steps.{IsTooLarge}
use Rattle.term_pool.proofs.ListingLaws.{step_there}
use Rattle.term_pool.proofs.ReachOnce.{before_both_ways}
use Rattle.completion.specs.declared.unfinished.Unfinished.{Unfinished}
use Rattle.completion.specs.Normalizing.{IsFirstRedex, Leads, at_once, by_first, Normalizes, to_normal_form, to_no_unit, to_too_large}

contrary : (b : Bool) → IsTrue b → b ≡ false → ⊥
contrary true h e = absurd cc
contrary false h e = absurd cc

module _ (system : System) (valid : IsSystem system) where
  first_once : (t : Tree) (s u : PlacedRule) → IsFirstRedex system.rules t s → IsFirstRedex system.rules t u → s ≡ u
  first_once t s u a b = meet (a.first u b.redex) (b.first s a.redex)
    where
      meet : (s ≡ u) ⊎ ComesBefore s u → (u ≡ s) ⊎ ComesBefore u s → s ≡ u
      meet (inl e) k = e
      meet (inr h) (inl e) = sym e
      meet (inr h) (inr k) = absurd (before_both_ways s u h k)

  first_step_once : (t u v : Tree) (s r : PlacedRule) → IsFirstRedex system.rules t s → StepsAt system.rules s.place s.rule t u
      → IsFirstRedex system.rules t r → StepsAt system.rules r.place r.rule t v → u ≡ v
  first_step_once t u v s r f step g other =
      let same : r ≡ s = first_once t r s g f in
      let P : PlacedRule → Type 0 = λ x. StepsAt system.rules x.place x.rule t v in
      steps_at_once system s.place s.rule t u v valid step (subst P same other)

  no_first : (t : Tree) (s : PlacedRule) → IsNormalForm (Step system.rules) t → IsFirstRedex system.rules t s → ⊥
  no_first t s normal f =
      let (u, step) = step_there system.rules t s f.redex in
      normal u (step_of_place system.rules s.place s.rule t u step)

  -- the longer of two derivations goes on from the end of the shorter
  leads_rest : {n m : ℕ} {t u v : Tree} → Leads system.rules n t u → Leads system.rules m t v → n ≤ m
      → (k : ℕ) × (n + k ≡ m) × Leads system.rules k u v
  leads_rest {m = m} at_once l h = (m, omega arith, l)
  leads_rest (by_first s f step small rest) at_once h = absurd (omega (arith, h))
  leads_rest {v = v} (by_first {n = i} {t = t} {u = w} s f step small rest) (by_first {n = j} {u = x} r g other fits more) h =
      let same : x ≡ w = first_step_once t x w r s g other f step in
      let P : Tree → Type 0 = λ y. Leads system.rules j y v in
      let (k, e, l) = leads_rest rest (subst P same more) (omega (arith, h)) in
      (k, omega (arith, e), l)

  -- no step leaves a normal form
  no_more : {k : ℕ} {u v : Tree} → Leads system.rules k u v → IsNormalForm (Step system.rules) u → (k ≡ 0) × (v ≡ u)
  no_more at_once normal = (refl, refl)
  no_more (by_first {t = t} s f step small rest) normal = absurd (no_first t s normal f)

  -- nor a term whose first step passes a limit
  not_large : {k : ℕ} {u v : Tree} (s : PlacedRule) → Leads system.rules k u v → IsFirstRedex system.rules u s → IsTooLarge system.rules s.place s.rule u → k ≡ 0
  not_large s at_once f large = refl
  not_large s (by_first {t = t} {u = w} r g step small rest) f large =
      let same : w ≡ large.result = first_step_once t w large.result r s g step f large.steps in
      absurd (contrary (within_limits w) small (ap within_limits same ∙ large.large))

  normal_past : {n m : ℕ} {t u v : Tree} (s : PlacedRule) → Leads system.rules n t u → IsNormalForm (Step system.rules) u → Leads system.rules m t v
      → n ≤ m → IsFirstRedex system.rules v s → ⊥
  normal_past {u = u} {v = v} s l normal more h f =
      let (k, e, rest) = leads_rest l more h in
      let P : Tree → Type 0 = λ y. IsFirstRedex system.rules y s in
      no_first u s normal (subst P (no_more rest normal).1 f)

  large_past : {n m : ℕ} {t u v : Tree} (s : PlacedRule) → Leads system.rules n t u → IsFirstRedex system.rules u s → IsTooLarge system.rules s.place s.rule u
      → Leads system.rules m t v → n < m → ⊥
  large_past {n} {m} s l f large more h =
      let (k, e, rest) = leads_rest l more (omega (arith, h)) in
      let none : k ≡ 0 = not_large s rest f large in
      absurd (omega (arith, e, none, h))

  same_normal : (n m : ℕ) (t u v : Tree) → Leads system.rules n t u → IsNormalForm (Step system.rules) u → Leads system.rules m t v
      → n ≤ m → (n ≡ m) × (v ≡ u)
  same_normal n m t u v l normal more h =
      let (k, e, rest) = leads_rest l more h in
      let (none, same) = no_more rest normal in
      (omega (arith, e, none), same)

  one_normal : (n m : ℕ) (t u v : Tree) → Leads system.rules n t u → IsNormalForm (Step system.rules) u → Leads system.rules m t v
      → IsNormalForm (Step system.rules) v → (n ≡ m) × (v ≡ u)
  one_normal n m t u v l normal k other = elim (dec_le n m) as (λ _. (n ≡ m) × (v ≡ u)) [
    | yes h ↦ same_normal n m t u v l normal k h
    | no h ↦ (let (e, same) = same_normal m n t v u k other l (omega (arith, h)) in (sym e, sym same))
  ]

  pub form_once : (units : ℕ) (t : Tree) (a b : Result (Tree × ℕ) Unfinished) → Normalizes system.rules units t a → Normalizes system.rules units t b → a ≡ b
  form_once units t _ _ (to_normal_form n left u l normal sum) (to_normal_form m more v k other total) =
      let (e, same) = one_normal n m t u v l normal k other in
      let rest : left ≡ more = omega (arith, e, sum, total) in
      let back : u ≡ v = sym same in
      cc (rest, back)
  form_once units t _ _ (to_normal_form n left u l normal sum) (to_no_unit v s k f) = absurd (normal_past s l normal k (omega (arith, sum)) f)
  form_once units t _ _ (to_normal_form n left u l normal sum) (to_too_large m v s below k f large) = elim (dec_le n m) [
    | yes h ↦ absurd (normal_past s l normal k h f)
    | no h ↦ absurd (large_past s k f large l (omega (arith, h)))
  ]
  form_once units t _ _ (to_no_unit v s k f) (to_normal_form n left u l normal sum) = absurd (normal_past s l normal k (omega (arith, sum)) f)
  form_once units t _ _ (to_no_unit v s k f) (to_no_unit w r l g) = refl
  form_once units t _ _ (to_no_unit v s k f) (to_too_large m w r below l g large) = absurd (large_past r l g large k below)
  form_once units t _ _ (to_too_large m v s below k f large) (to_normal_form n left u l normal sum) = elim (dec_le n m) [
    | yes h ↦ absurd (normal_past s l normal k h f)
    | no h ↦ absurd (large_past s k f large l (omega (arith, h)))
  ]
  form_once units t _ _ (to_too_large m w r below l g large) (to_no_unit v s k f) = absurd (large_past r l g large k below)
  form_once units t _ _ (to_too_large m v s below k f large) (to_too_large n w r under l g size) = refl
