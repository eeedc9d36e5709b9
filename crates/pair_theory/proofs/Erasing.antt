-- Subterms whose root an order does not know are read as one variable: bounds on terms of known symbols give bounds on all.
use Rattle.std.proofs.Common.{◌≡◌, ℕ, refl, sym, ap, subst, ◌∙◌, ◌⊎◌, inl, inr, List, Bool, true, false}
use Rattle.trs_defs.specs.Tree.{Tree, var, app, Trees, nil, cons}
use Rattle.trs_defs.specs.Substitution.{apply, apply_all}
use Rattle.trs_defs.specs.Step.{StepBy, here, deep, first, later}
use Rattle.pair_theory.specs.Terminates.{ArgumentStep}
use Rattle.trs_defs.specs.System.{RewriteRule, Among}
use Rattle.trs_defs.specs.Member.{In}
use Rattle.pair_theory.specs.Erased.{HasEntries, HaveEntries, by_root, erased, erased_all}
use Rattle.pair_theory.specs.Moves.{Moves, no_moves, weakly, strictly, MovesAtMost}
use Rattle.trs_defs.proofs.EqualTerms.{join_cons}

module _ (has : ℕ → Bool) where
  mutual
    erase_apply : (σ : ℕ → Tree) (t : Tree) → HasEntries has t → erased has (apply σ t) ≡ apply (λ x. erased has (σ x)) t
    erase_apply σ (var x) k = refl
    erase_apply σ (app f ts) k = ap (λ b. by_root b (app f (erased_all has (apply_all σ ts)))) k.0 ∙ ap (app f) (erased_all_apply σ ts k.1)

    erased_all_apply : (σ : ℕ → Tree) (ts : Trees) → HaveEntries has ts → erased_all has (apply_all σ ts) ≡ apply_all (λ x. erased has (σ x)) ts
    erased_all_apply σ nil k = refl
    erased_all_apply σ (cons t ts) k = join_cons (erase_apply σ t k.0) (erased_all_apply σ ts k.1)

  module _ (ws ss : List RewriteRule) (weak : (p : RewriteRule) → In p ws → HasEntries has p.left × HasEntries has p.right) (strict : (p : RewriteRule) → In p ss → HasEntries has p.left × HasEntries has p.right) where
    root_step : (b : Bool) (f : ℕ) {us vs : Trees} → (us ≡ vs) ⊎ ArgumentStep (Among ws) us vs
        → (by_root b (app f us) ≡ by_root b (app f vs)) ⊎ StepBy (Among ws) (by_root b (app f us)) (by_root b (app f vs))
    root_step true f (inl e) = inl (ap (app f) e)
    root_step true f (inr s) = inr (deep s)
    root_step false f h = inl refl

    mutual
      erase_step : {s t : Tree} → StepBy (Among ws) s t → (erased has s ≡ erased has t) ⊎ StepBy (Among ws) (erased has s) (erased has t)
      erase_step (here (l, r, σ, h, e, e')) = let k : _ = weak _ h in
          inr (here (l, r, (λ x. erased has (σ x)), h, ap (erased has) e ∙ erase_apply σ l k.0, ap (erased has) e' ∙ erase_apply σ r k.1))
      erase_step (deep {f = f} s) = root_step (has f) f (erase_steps s)

      erase_steps : {us vs : Trees} → ArgumentStep (Among ws) us vs → (erased_all has us ≡ erased_all has vs) ⊎ ArgumentStep (Among ws) (erased_all has us) (erased_all has vs)
      erase_steps (first {ts = ts} s) = elim (erase_step s) [ inl e ↦ inl (ap (λ t. cons t (erased_all has ts)) e) | inr s' ↦ inr (first s') ]
      erase_steps (later {t = s} st) = elim (erase_steps st) [ inl e ↦ inl (ap (cons (erased has s)) e) | inr s' ↦ inr (later s') ]

    pub erase_moves : {m : ℕ} {s u : Tree} → Moves ws ss m s u → Moves ws ss m (erased has s) (erased has u)
    erase_moves no_moves = no_moves
    erase_moves (weakly {n = n} {u = u} s ms) = elim (erase_step s)
        [ inl e ↦ subst (λ z. Moves ws ss n z (erased has u)) (sym e) (erase_moves ms) | inr s' ↦ weakly s' (erase_moves ms) ]
    erase_moves (strictly (l, r, σ, i, e, e') ms) = let k : HasEntries has l × HasEntries has r = strict (record { left = l; right = r }) i in
        strictly (l, r, (λ x. erased has (σ x)), i, ap (erased has) e ∙ erase_apply σ l k.0, ap (erased has) e' ∙ erase_apply σ r k.1) (erase_moves ms)

    pub bound_of_erased : (t : Tree) → (n : ℕ) × MovesAtMost ws ss n (erased has t) → (n : ℕ) × MovesAtMost ws ss n t
    bound_of_erased t b = (b.0, λ m u ms. b.1 m (erased has u) (erase_moves ms))

-- where each symbol has an entry nothing is erased
mutual
  pub erased_same : (has : ℕ → Bool) (t : Tree) → HasEntries has t → erased has t ≡ t
  erased_same has (var x) k = refl
  erased_same has (app f ts) k = ap (λ b. by_root b (app f (erased_all has ts))) k.0 ∙ ap (app f) (erased_all_same has ts k.1)

  erased_all_same : (has : ℕ → Bool) (ts : Trees) → HaveEntries has ts → erased_all has ts ≡ ts
  erased_all_same has nil k = refl
  erased_all_same has (cons t ts) k = join_cons (erased_same has t k.0) (erased_all_same has ts k.1)

mutual
  pub all_have : (t : Tree) → HasEntries (λ f. true) t
  all_have (var x) = tt
  all_have (app f ts) = (refl, all_have_each ts)

  all_have_each : (ts : Trees) → HaveEntries (λ f. true) ts
  all_have_each nil = tt
  all_have_each (cons t ts) = (all_have t, all_have_each ts)
