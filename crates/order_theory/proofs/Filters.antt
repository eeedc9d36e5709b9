-- The path order with filters is well-founded in the finite sense: the filtered pairs that fall make a terminating system.
use Rattle.std.proofs.Common.{◌≡◌, ℕ, zero, suc, ◌-◌, refl, ap, ◌∙◌, inl, inr, List, [], ◌∷◌}
use Rattle.trs_defs.specs.Tree.{Tree, var, app, Trees, nil, cons}
use Rattle.trs_defs.specs.Substitution.{apply, apply_all}
use Rattle.trs_defs.specs.Step.{StepBy, here, deep, first, later}
use Rattle.pair_theory.specs.Terminates.{ArgumentStep, Terminates}
use Rattle.trs_defs.specs.System.{RewriteRule, Among}
use Rattle.trs_defs.specs.Member.{In}
use Rattle.trs_defs.specs.Run.{Run, Stay}
use Rattle.order_theory.specs.PathOrder.{PathGreater}
use Rattle.order_theory.specs.ArgumentFilter.{ArgumentFilter, To, Keep, keep_one, select, by_filter, filtered, filtered_all, PathStrict, PathWeak}
use Rattle.pair_theory.specs.ItemOr.{item_or}
use Rattle.pair_theory.specs.Moves.{MovesAtMost, IsWellFounded}
use Rattle.pair_theory.specs.ReductionPair.{AllTerms}
use Rattle.trs_defs.proofs.StepLaws.{run_in_app, run_in_cons}
use Rattle.trs_defs.proofs.EqualTerms.{join_cons}
use Rattle.pair_theory.proofs.Reducts.{bounded, NoNewVariables}
use Rattle.order_theory.proofs.Fallers.{system, each_of_system, weak_at_root, moves_bounded}
use Rattle.order_theory.proofs.PathLaws.{greater_vars, falling_terminates}

at_applies : (τ : ℕ → Tree) (i : ℕ) (ts : Trees) (d : Tree) → item_or i (apply_all τ ts) (apply τ d) ≡ apply τ (item_or i ts d)
at_applies τ i nil d = refl
at_applies τ zero (cons t ts) d = refl
at_applies τ (suc i) (cons t ts) d = at_applies τ i ts d

keep_applies : (τ : ℕ → Tree) (i : ℕ) (ts rest : Trees) → keep_one i (apply_all τ ts) (apply_all τ rest) ≡ apply_all τ (keep_one i ts rest)
keep_applies τ i nil rest = refl
keep_applies τ zero (cons t ts) rest = refl
keep_applies τ (suc i) (cons t ts) rest = keep_applies τ i ts rest

select_applies : (τ : ℕ → Tree) (is : List ℕ) (ts : Trees) → select is (apply_all τ ts) ≡ apply_all τ (select is ts)
select_applies τ [] ts = refl
select_applies τ (i ∷ is) ts = ap (keep_one (i - 1) (apply_all τ ts)) (select_applies τ is ts) ∙ keep_applies τ (i - 1) ts (select is ts)

by_applies : (τ : ℕ → Tree) (f : ℕ) (φ : ArgumentFilter) (ts : Trees) → by_filter f φ (apply_all τ ts) ≡ apply τ (by_filter f φ ts)
by_applies τ f (To i) ts = at_applies τ (i - 1) ts (app f nil)
by_applies τ f (Keep is) ts = ap (app f) (select_applies τ is ts)

module _ (π : ℕ → ArgumentFilter) where
  abbrev pub after : (ℕ → Tree) → ℕ → Tree
  after σ x = filtered π (σ x)

  mutual
    pub filtered_apply : (σ : ℕ → Tree) (t : Tree) → filtered π (apply σ t) ≡ apply (after σ) (filtered π t)
    filtered_apply σ (var x) = refl
    filtered_apply σ (app f ts) = ap (by_filter f (π f)) (filters_apply σ ts) ∙ by_applies (after σ) f (π f) (filtered_all π ts)

    pub filters_apply : (σ : ℕ → Tree) (ts : Trees) → filtered_all π (apply_all σ ts) ≡ apply_all (after σ) (filtered_all π ts)
    filters_apply σ nil = refl
    filters_apply σ (cons t ts) = join_cons (filtered_apply σ t) (filters_apply σ ts)

module _ (rule : Tree → Tree → Type 0) where
  -- place by place, steps
  data Near : Trees → Trees → Type 0 where
    near_nil : Near nil nil
    near_cons : {s t : Tree} {ss ts : Trees} → Run (StepBy rule) s t → Near ss ts → Near (cons s ss) (cons t ts)

  near_same : (ts : Trees) → Near ts ts
  near_same nil = near_nil
  near_same (cons t ts) = near_cons Stay (near_same ts)

  near_at : (i : ℕ) {ss ts : Trees} (d : Tree) → Near ss ts → Run (StepBy rule) (item_or i ss d) (item_or i ts d)
  near_at i d near_nil = Stay
  near_at zero d (near_cons p ps) = p
  near_at (suc i) d (near_cons p ps) = near_at i d ps

  near_keep : (i : ℕ) {ss ts us vs : Trees} → Near ss ts → Near us vs → Near (keep_one i ss us) (keep_one i ts vs)
  near_keep i near_nil q = q
  near_keep zero (near_cons p ps) q = near_cons p q
  near_keep (suc i) (near_cons p ps) q = near_keep i ps q

  near_select : (is : List ℕ) {ss ts : Trees} → Near ss ts → Near (select is ss) (select is ts)
  near_select [] p = near_nil
  near_select (i ∷ is) p = near_keep (i - 1) p (near_select is p)

  near_run : {ss ts : Trees} → Near ss ts → Run (ArgumentStep rule) ss ts
  near_run near_nil = Stay
  near_run (near_cons p ps) = run_in_cons p (near_run ps)

  near_filter : (f : ℕ) (φ : ArgumentFilter) {ss ts : Trees} → Near ss ts → Run (StepBy rule) (by_filter f φ ss) (by_filter f φ ts)
  near_filter f (To i) p = near_at (i - 1) (app f nil) p
  near_filter f (Keep is) p = run_in_app f (near_run (near_select is p))

module _ (rank : ℕ → ℕ) (π : ℕ → ArgumentFilter) (ws ss : List RewriteRule)
    (weak : (p : RewriteRule) → In p ws → PathWeak rank π p.left p.right)
    (strict : (p : RewriteRule) → In p ss → PathStrict rank π p.left p.right) where
  -- the system on filtered terms
  abbrev filtered_system : List RewriteRule
  filtered_system = system (filtered π) ws ss

  system_falls : (q : RewriteRule) → In q filtered_system → PathGreater rank q.left q.right
  system_falls = each_of_system (filtered π) ws ss (λ q. PathGreater rank q.left q.right) strict
      (λ p i n. elim (weak p i) [ inl e ↦ absurd (n e) | inr g ↦ g ])

  system_fine : (q : RewriteRule) → In q filtered_system → NoNewVariables q
  system_fine q i = greater_vars rank (system_falls q i)

  system_terminates : (t : Tree) → Terminates (Among filtered_system) t
  system_terminates t = falling_terminates rank (Among filtered_system) (λ l r i. system_falls _ i) t

  mutual
    filter_step : {s t : Tree} → StepBy (Among ws) s t → Run (StepBy (Among filtered_system)) (filtered π s) (filtered π t)
    filter_step (here r) = weak_at_root (filtered π) ws ss (after π) (filtered_apply π) r
    filter_step (deep {f = f} s) = near_filter (Among filtered_system) f (π f) (filter_steps s)

    filter_steps : {us vs : Trees} → ArgumentStep (Among ws) us vs → Near (Among filtered_system) (filtered_all π us) (filtered_all π vs)
    filter_steps (first {ts = ts} s) = near_cons (filter_step s) (near_same (Among filtered_system) (filtered_all π ts))
    filter_steps (later s) = near_cons Stay (filter_steps s)

  pub few_strict : (t : Tree) → (n : ℕ) × MovesAtMost ws ss n t
  few_strict t = moves_bounded (filtered π) ws ss (after π) (filtered_apply π) (λ s u d. filter_step d) t
      (bounded filtered_system system_fine (system_terminates (filtered π t)))

pub path_well_founded : (rank : ℕ → ℕ) (π : ℕ → ArgumentFilter) → IsWellFounded (PathWeak rank π) (PathStrict rank π) AllTerms
path_well_founded rank π ws ss weak strict t spoken = few_strict rank π ws ss (λ p i. (weak p i).ordered) (λ p i. (strict p i).ordered) t
