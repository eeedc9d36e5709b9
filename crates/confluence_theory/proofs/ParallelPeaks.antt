-- A left-linear system whose critical peaks are closed by a parallel step from left to right is confluent.
use Rattle.std.proofs.Common.{ℕ, zero, suc, ◌+◌, ◌<◌, ◌≤◌, ◌≡◌, ◌⊎◌, inl, inr, refl, sym, ◌∙◌, ap, subst, arith}
use native.Mathlib.Decide.{ℕ_discrete}
use Rattle.confluence_theory.proofs.Joins.{RunsJoin}
use Rattle.confluence_theory.proofs.Families.{AnyRule, AnyOne, HasInstance, of_instance, CoversBy, AnyRoot, IsFamily, Redex, redex_of, one_result}
use Rattle.confluence_theory.proofs.Free.{IsFree, AreFree, IsSeparate, AreSeparate}
use Rattle.confluence_theory.specs.Confluence.{HasDiamond}
use Rattle.confluence_theory.specs.Overlap.{Overlap, OverlapOne, overlap_here, overlap_deep, overlap_first, overlap_later}
use Rattle.confluence_theory.specs.ParallelStep.{ParallelStep, ParallelSteps, at_variable, at_root, below_root, no_more, one_more}
use Rattle.trs_defs.specs.Run.{Run, Stay}
use Rattle.trs_defs.specs.Size.{size_of, size_of_all}
use Rattle.trs_defs.specs.Step.{Inside, InsideOne, here, deep, first, later, RootStep}
use Rattle.trs_defs.specs.Substitution.{apply, apply_all}
use Rattle.trs_defs.specs.Tree.{Tree, Trees, var, app, nil, cons}
use Rattle.trs_defs.proofs.Substitutions.{root_step_closed}
use Rattle.trs_defs.proofs.Runs.{one, then, run_along}
use Rattle.confluence_theory.proofs.BetweenRuns.{between_confluent}
use Rattle.confluence_theory.proofs.Substitutions.{but, but_at, instance_eq, instances_eq}

-- a parallel step with the sizes of its redexes added up
mutual
  data Weighted (R : Tree → Tree → Type 0) : ℕ → Tree → Tree → Type 0 where
    weigh_variable : {x : ℕ} → Weighted R zero (var x) (var x)
    weigh_root : {s t : Tree} → R s t → Weighted R (size_of s) s t
    weigh_symbol : {f w : ℕ} {ts us : Trees} → EachWeighted R w ts us → Weighted R w (app f ts) (app f us)

  data EachWeighted (R : Tree → Tree → Type 0) : ℕ → Trees → Trees → Type 0 where
    weigh_nil : EachWeighted R zero nil nil
    weigh_cons : {v w : ℕ} {t u : Tree} {ts us : Trees} → Weighted R v t u → EachWeighted R w ts us → EachWeighted R (v + w) (cons t ts) (cons u us)

mutual
  bound : {R : Tree → Tree → Type 0} {w : ℕ} {s t : Tree} → Weighted R w s t → w ≤ size_of s
  bound weigh_variable = omega arith
  bound (weigh_root r) = omega arith
  bound (weigh_symbol d) = let h = bound_all d in omega arith

  bound_all : {R : Tree → Tree → Type 0} {w : ℕ} {ts us : Trees} → EachWeighted R w ts us → w ≤ size_of_all ts
  bound_all weigh_nil = omega arith
  bound_all (weigh_cons d e) = let h = bound d in let k = bound_all e in omega arith

mutual
  still : (R : Tree → Tree → Type 0) (t : Tree) → Weighted R zero t t
  still R (var x) = weigh_variable
  still R (app f ts) = weigh_symbol (still_all R ts)

  still_all : (R : Tree → Tree → Type 0) (ts : Trees) → EachWeighted R zero ts ts
  still_all R nil = weigh_nil
  still_all R (cons t ts) = weigh_cons (still R t) (still_all R ts)

mutual
  weigh : {R : Tree → Tree → Type 0} {s t : Tree} → ParallelStep R s t → (w : ℕ) × Weighted R w s t
  weigh at_variable = (zero, weigh_variable)
  weigh (at_root {s = s} r) = (size_of s, weigh_root r)
  weigh (below_root d) = let (w, e) = weigh_all d in (w, weigh_symbol e)

  weigh_all : {R : Tree → Tree → Type 0} {ts us : Trees} → ParallelSteps R ts us → (w : ℕ) × EachWeighted R w ts us
  weigh_all no_more = (zero, weigh_nil)
  weigh_all (one_more d e) = let (v, d') = weigh d in let (w, e') = weigh_all e in (v + w, weigh_cons d' e')

mutual
  unweigh : {R : Tree → Tree → Type 0} {w : ℕ} {s t : Tree} → Weighted R w s t → ParallelStep R s t
  unweigh weigh_variable = at_variable
  unweigh (weigh_root r) = at_root r
  unweigh (weigh_symbol d) = below_root (unweigh_all d)

  unweigh_all : {R : Tree → Tree → Type 0} {w : ℕ} {ts us : Trees} → EachWeighted R w ts us → ParallelSteps R ts us
  unweigh_all weigh_nil = no_more
  unweigh_all (weigh_cons d e) = one_more (unweigh d) (unweigh_all e)

rest : (R : Tree → Tree → Type 0) (t : Tree) → ParallelStep R t t
rest R t = unweigh (still R t)

rest_all : (R : Tree → Tree → Type 0) (ts : Trees) → ParallelSteps R ts ts
rest_all R ts = unweigh_all (still_all R ts)

-- a peak of parallel steps, in which the redexes inside any one redex of the other step weigh less than n
mutual
  data Crossed (R : Tree → Tree → Type 0) (n : ℕ) : Tree → Tree → Tree → Type 0 where
    crossed_variable : {x : ℕ} → Crossed R n (var x) (var x) (var x)
    crossed_left : {w : ℕ} {s t u : Tree} → R s t → Weighted R w s u → w < n → Crossed R n s t u
    crossed_right : {w : ℕ} {s t u : Tree} → R s u → Weighted R w s t → w < n → Crossed R n s t u
    crossed_symbol : {f : ℕ} {ts us vs : Trees} → EachCrossed R n ts us vs → Crossed R n (app f ts) (app f us) (app f vs)

  data EachCrossed (R : Tree → Tree → Type 0) (n : ℕ) : Trees → Trees → Trees → Type 0 where
    crossed_nil : EachCrossed R n nil nil nil
    crossed_cons : {t u v : Tree} {ts us vs : Trees} → Crossed R n t u v → EachCrossed R n ts us vs → EachCrossed R n (cons t ts) (cons u us) (cons v vs)

module _ (R : Tree → Tree → Type 0) (n : ℕ) where
  mutual
    peak_of : {v w : ℕ} {s t u : Tree} → Weighted R v s t → Weighted R w s u → w < n → Crossed R n s t u
    peak_of (weigh_root r) e h = crossed_left r e h
    peak_of weigh_variable (weigh_root r) h = crossed_right r weigh_variable (omega arith)
    peak_of (weigh_symbol d) (weigh_root r) h = let k = bound_all d in crossed_right r (weigh_symbol d) (omega arith)
    peak_of weigh_variable weigh_variable h = crossed_variable
    peak_of (weigh_symbol d) (weigh_symbol e) h = crossed_symbol (peak_of_all d e h)

    peak_of_all : {v w : ℕ} {ts us vs : Trees} → EachWeighted R v ts us → EachWeighted R w ts vs → w < n → EachCrossed R n ts us vs
    peak_of_all weigh_nil weigh_nil h = crossed_nil
    peak_of_all (weigh_cons d d') (weigh_cons e e') h = crossed_cons (peak_of d e (omega arith)) (peak_of_all d' e' (omega arith))

-- a redex at a place of the pattern that is no variable; the other redexes weigh less
record Overlapped (rule : ℕ → Tree → Tree → Type 0) (σ : ℕ → Tree) (l u : Tree) (w : ℕ) : Type 0 where
  i : ℕ
  mid : Tree
  over : Overlap (RootStep (rule i)) σ l mid
  weight : ℕ
  less : weight < w
  others : Weighted (AnyRoot rule) weight mid u

record OverlappedOne (rule : ℕ → Tree → Tree → Type 0) (σ : ℕ → Tree) (ls us : Trees) (w : ℕ) : Type 0 where
  i : ℕ
  mid : Trees
  over : OverlapOne (RootStep (rule i)) σ ls mid
  weight : ℕ
  less : weight < w
  others : EachWeighted (AnyRoot rule) weight mid us

-- all redexes below the pattern's variables
record Varied (R : Tree → Tree → Type 0) (σ : ℕ → Tree) (l u : Tree) : Type 0 where
  τ : ℕ → Tree
  steps : (x : ℕ) → ParallelStep R (σ x) (τ x)
  end : u ≡ apply τ l

record VariedOne (R : Tree → Tree → Type 0) (σ : ℕ → Tree) (ls us : Trees) : Type 0 where
  τ : ℕ → Tree
  steps : (x : ℕ) → ParallelStep R (σ x) (τ x)
  end : us ≡ apply_all τ ls

module _ (rule : ℕ → Tree → Tree → Type 0) where
  abbrev R : Tree → Tree → Type 0
  R = AnyRoot rule

  varied_at : (σ : ℕ → Tree) (x : ℕ) (u : Tree) → ParallelStep R (σ x) u → Varied R σ (var x) u
  varied_at σ x u d =
      record {
        τ = but σ x u;
        steps = λ z.
            elim (ℕ_discrete x z) as (λ c. ParallelStep R (σ z) (elim c [ yes e ↦ u | no e ↦ σ z ])) [
              | yes e ↦ let P : ℕ → Type 0 = λ k. ParallelStep R (σ k) u in subst P e d
              | no e ↦ rest R (σ z)
            ];
        end = sym (but_at σ x u);
      }

  -- τ₁ at the variables of l, τ₂ at the others
  pick : {A B : Type 0} → A ⊎ B → Tree → Tree → Tree
  pick (inl a) t u = u
  pick (inr b) t u = t

  pick_par : {A B : Type 0} (c : A ⊎ B) (s t u : Tree) → ParallelStep R s t → ParallelStep R s u → ParallelStep R s (pick c t u)
  unfolding pick
  pick_par (inl a) s t u d e = e
  pick_par (inr b) s t u d e = d

  pick_first : {A B : Type 0} (c : A ⊎ B) (t u : Tree) → A ⊎ (pick c t u ≡ t)
  unfolding pick
  pick_first (inl a) t u = inl a
  pick_first (inr b) t u = inr refl

  pick_second : {A B : Type 0} (c : A ⊎ B) (t u : Tree) → B ⊎ (pick c t u ≡ u)
  unfolding pick
  pick_second (inl a) t u = inr refl
  pick_second (inr b) t u = inl b

  merge : (σ : ℕ → Tree) (l u : Tree) (ls us : Trees) → ((x : ℕ) → IsFree x l ⊎ AreFree x ls) → Varied R σ l u → VariedOne R σ ls us → VariedOne R σ (cons l ls) (cons u us)
  merge σ l u ls us apart v w =
      let τ : ℕ → Tree = λ x. pick (apart x) (v.τ x) (w.τ x) in
      record {
        τ = τ;
        steps = λ x. pick_par (apart x) (σ x) (v.τ x) (w.τ x) (v.steps x) (w.steps x);
        end =
            ap (λ z. cons z us) (v.end ∙ sym (instance_eq τ v.τ l (λ x. pick_first (apart x) (v.τ x) (w.τ x))))
            ∙ ap (λ zs. cons (apply τ l) zs) (w.end ∙ sym (instances_eq τ w.τ ls (λ x. pick_second (apart x) (v.τ x) (w.τ x))));
      }

  deep_split : {σ : ℕ → Tree} {f w : ℕ} {ls us : Trees} → OverlappedOne rule σ ls us w ⊎ VariedOne R σ ls us → Overlapped rule σ (app f ls) (app f us) w ⊎ Varied R σ (app f ls) (app f us)
  deep_split {f = f} (inl o) = inl (record { i = o.i; mid = app f o.mid; over = overlap_deep o.over; weight = o.weight; less = o.less; others = weigh_symbol o.others })
  deep_split {f = f} (inr v) = inr (record { τ = v.τ; steps = v.steps; end = ap (λ us. app f us) v.end })

  both : {σ : ℕ → Tree} {l u : Tree} {ls us : Trees} {v w : ℕ} → ((x : ℕ) → IsFree x l ⊎ AreFree x ls) → Weighted R v (apply σ l) u → EachWeighted R w (apply_all σ ls) us → Overlapped rule σ l u v ⊎ Varied R σ l u → OverlappedOne rule σ ls us w ⊎ VariedOne R σ ls us → OverlappedOne rule σ (cons l ls) (cons u us) (v + w) ⊎ VariedOne R σ (cons l ls) (cons u us)
  both {σ = σ} {ls = ls} {v = v} {w = w} apart d e (inl o) b =
      let h : o.weight < v = o.less in
      inl (record { i = o.i; mid = cons o.mid (apply_all σ ls); over = overlap_first o.over; weight = o.weight + w; less = omega arith; others = weigh_cons o.others e })
  both {σ = σ} {l = l} {v = v} {w = w} apart d e (inr a) (inl o) =
      let h : o.weight < w = o.less in
      inl (record { i = o.i; mid = cons (apply σ l) o.mid; over = overlap_later o.over; weight = v + o.weight; less = omega arith; others = weigh_cons d o.others })
  both {σ = σ} {l = l} {u = u} {ls = ls} {us = us} apart d e (inr a) (inr b) = inr (merge σ l u ls us apart a b)

  mutual
    split_par : (σ : ℕ → Tree) (l u : Tree) (w : ℕ) → IsSeparate l → Weighted R w (apply σ l) u → Overlapped rule σ l u w ⊎ Varied R σ l u
    split_par σ (var x) u w h d = inr (varied_at σ x u (unweigh d))
    split_par σ (app f ls) u w h (weigh_root (i, r)) =
        inl (record { i = i; mid = u; over = overlap_here r; weight = zero; less = omega arith; others = still R u })
    split_par σ (app f ls) u w h (weigh_symbol {us = us} d) = deep_split (split_par_all σ ls us w h d)

    split_par_all : (σ : ℕ → Tree) (ls us : Trees) (w : ℕ) → AreSeparate ls → EachWeighted R w (apply_all σ ls) us → OverlappedOne rule σ ls us w ⊎ VariedOne R σ ls us
    split_par_all σ nil us w h weigh_nil = inr (record { τ = σ; steps = λ x. rest R (σ x); end = refl })
    split_par_all σ (cons l ls) us w h (weigh_cons {v = v} {w = z} {u = u} {us = vs} d e) =
        both h.2 d e (split_par σ l u v h.0 d) (split_par_all σ ls vs z h.1 e)

  mutual
    par_apply : (σ τ : ℕ → Tree) → ((x : ℕ) → ParallelStep R (σ x) (τ x)) → (t : Tree) → ParallelStep R (apply σ t) (apply τ t)
    par_apply σ τ d (var x) = d x
    par_apply σ τ d (app f ts) = below_root (par_apply_all σ τ d ts)

    par_apply_all : (σ τ : ℕ → Tree) → ((x : ℕ) → ParallelStep R (σ x) (τ x)) → (ts : Trees) → ParallelSteps R (apply_all σ ts) (apply_all τ ts)
    par_apply_all σ τ d nil = no_more
    par_apply_all σ τ d (cons t ts) = one_more (par_apply σ τ d t) (par_apply_all σ τ d ts)

  module _ (τ : ℕ → Tree) where
    mutual
      par_instance : {s t : Tree} → ParallelStep R s t → ParallelStep R (apply τ s) (apply τ t)
      par_instance (at_variable {v = x}) = rest R (τ x)
      par_instance (at_root {s = s} {t = t} (i, r)) = at_root (i, (root_step_closed (rule i)).instance τ s t r)
      par_instance (below_root d) = below_root (par_instance_all d)

      par_instance_all : {ts us : Trees} → ParallelSteps R ts us → ParallelSteps R (apply_all τ ts) (apply_all τ us)
      par_instance_all no_more = no_more
      par_instance_all (one_more d e) = one_more (par_instance d) (par_instance_all e)

  module _ (i : ℕ) where
    mutual
      par_step : {s t : Tree} → Inside (RootStep (rule i)) s t → ParallelStep R s t
      par_step (here r) = at_root (i, r)
      par_step (deep d) = below_root (par_step_all d)

      par_step_all : {ts us : Trees} → InsideOne (RootStep (rule i)) ts us → ParallelSteps R ts us
      par_step_all (first {ts = ts} d) = one_more (par_step d) (rest_all R ts)
      par_step_all (later {t = t} d) = one_more (rest R t) (par_step_all d)

  mutual
    par_run : {s t : Tree} → ParallelStep R s t → Run (AnyRule rule) s t
    par_run at_variable = Stay
    par_run (at_root (i, r)) = one (i, here r)
    par_run (below_root {f = f} d) = run_along (λ ts. app f ts) (λ ts us (i, r). (i, deep r)) (par_run_all d)

    par_run_all : {ts us : Trees} → ParallelSteps R ts us → Run (AnyOne rule) ts us
    par_run_all no_more = Stay
    par_run_all (one_more {t = u} {ss = ts} d e) =
        then (run_along (λ t. cons t ts) (λ s t (i, r). (i, first r)) (par_run d)) (run_along (λ ts. cons u ts) (λ ts us (i, r). (i, later r)) (par_run_all e))

  abbrev Joined : Tree → Tree → Type 0
  Joined t u = (v : Tree) × ParallelStep R t v × ParallelStep R u v

  abbrev JoinedAll : Trees → Trees → Type 0
  JoinedAll ts us = (vs : Trees) × ParallelSteps R ts vs × ParallelSteps R us vs

  swap : {t u : Tree} → Joined t u → Joined u t
  swap (v, tv, uv) = (v, uv, tv)

  module _ (peaks : ℕ → ℕ → Tree → Tree → Tree → Type 0) (sys : IsFamily rule) (linear : (i : ℕ) (l r : Tree) → rule i l r → IsSeparate l)
      (covers : CoversBy rule peaks) (listed : (i j : ℕ) (top left right : Tree) → peaks i j top left right → ParallelStep R left right)
    where
      par_listed : (i j : ℕ) (s t u : Tree) → HasInstance peaks i j s t u → ParallelStep R t u
      par_listed = of_instance peaks (λ i j. ParallelStep R) (λ i j τ t u d. par_instance τ d) listed

      -- what is known of lighter peaks
      abbrev Lighter : ℕ → Type 0
      Lighter n = (m : ℕ) → m < n → (s t u : Tree) → Crossed R m s t u → Joined t u

      inner_at : (n : ℕ) → Lighter n → (j f : ℕ) (ls us : Trees) (r : Tree) (σ : ℕ → Tree) (w : ℕ) → rule j (app f ls) r → EachWeighted R w (apply_all σ ls) us → w < n → Joined (apply σ r) (app f us)
      inner_at n lighter j f ls us r σ w h d less =
          elim (split_par_all σ ls us w (linear j (app f ls) r h) d) [
            | inl o ↦
                let c : ParallelStep R (app f o.mid) (apply σ r) = par_listed o.i j (apply σ (app f ls)) (app f o.mid) (apply σ r) (covers.below_root o.i j f ls o.mid r σ h o.over) in
                lighter w less (app f o.mid) (apply σ r) (app f us) (peak_of R w ((weigh c).1) (weigh_symbol o.others) o.less)
            | inr v ↦
                (apply v.τ r, par_apply σ v.τ v.steps r, at_root (j, (app f ls, r, v.τ, h, ap (λ z. app f z) v.end, refl)))
          ]

      inner : (n : ℕ) → Lighter n → (f : ℕ) (ts us : Trees) (t : Tree) (w : ℕ) → R (app f ts) t → EachWeighted R w ts us → w < n → Joined t (app f us)
      inner n lighter f ts us t w (j, q) d less =
          let x : Redex rule j f ts t = redex_of rule sys j f ts t q in
          let dx : EachWeighted R w (apply_all x.σ x.left) us = (let P : Trees → Type 0 = λ z. EachWeighted R w z us in subst P x.arguments d) in
          let P : Tree → Type 0 = λ z. Joined z (app f us) in
          subst P (sym x.reduct) (inner_at n lighter j f x.left us x.right x.σ w x.is_rule dx less)

      roots : (s t u : Tree) → R s t → R s u → Joined t u
      roots s t u (i, (l, r, σ, h, e, e')) (j, (l₂, r₂, σ₂, h₂, e₂, e₂')) =
          let P : Tree → Type 0 = λ z. Joined t z in
          elim (ℕ_discrete i j) [
            | yes k ↦ subst P (one_result rule sys i j s t u k (l, r, σ, h, e, e') (l₂, r₂, σ₂, h₂, e₂, e₂')) (t, rest R t, rest R t)
            | no k ↦
                subst P (sym e₂') (
                  apply σ₂ r₂,
                  par_listed i j (apply σ₂ l₂) t (apply σ₂ r₂) (covers.at_root i j l₂ r₂ t σ₂ h₂ k (l, r, σ, h, sym e₂ ∙ e, e')),
                  rest R (apply σ₂ r₂),
                )
          ]

      one_root : (n : ℕ) → Lighter n → (s t u : Tree) (w : ℕ) → R s t → Weighted R w s u → w < n → Joined t u
      one_root n lighter s t u w r (weigh_root q) less = roots s t u r q
      one_root n lighter s t u w r (weigh_variable {x = x}) less = (t, rest R t, at_root r)
      one_root n lighter s t u w r (weigh_symbol {f = f} {ts = ts} {us = us} d) less = inner n lighter f ts us t w r d less

      module _ (n : ℕ) (lighter : Lighter n) where
        mutual
          close : {s t u : Tree} → Crossed R n s t u → Joined t u
          close (crossed_variable {x = x}) = (var x, at_variable, at_variable)
          close (crossed_left {w = w} {s = s} {t = t} {u = u} r d less) = one_root n lighter s t u w r d less
          close (crossed_right {w = w} {s = s} {t = t} {u = u} r d less) = swap (one_root n lighter s u t w r d less)
          close (crossed_symbol {f = f} p) = let (vs, d, e) = close_all p in (app f vs, below_root d, below_root e)

          close_all : {ts us vs : Trees} → EachCrossed R n ts us vs → JoinedAll us vs
          close_all crossed_nil = (nil, no_more, no_more)
          close_all (crossed_cons p q) = let (v, d, e) = close p in let (vs, d', e') = close_all q in (cons v vs, one_more d d', one_more e e')

      lighter_all : (n : ℕ) → Lighter n
      lighter_all zero m h s t u p = absurd (omega arith)
      lighter_all (suc n) m h s t u p = close m (λ k l. lighter_all n k (omega arith)) p

      par_diamond : HasDiamond (ParallelStep R)
      par_diamond s t u d e =
          let (v, d') = weigh d in
          let (w, e') = weigh e in
          lighter_all (suc (suc w)) (suc w) (omega arith) s t u (peak_of R (suc w) d' e' (omega arith))

      pub parallel_system : RunsJoin (AnyRule rule)
      parallel_system = between_confluent (AnyRule rule) (ParallelStep R) (λ s t (i, r). par_step i r) (λ s t d. par_run d) par_diamond
