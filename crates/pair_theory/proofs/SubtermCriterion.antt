-- The subterm criterion.
use Rattle.std.proofs.Common.{◌≡◌, ℕ, zero, suc, ◌<◌, refl, sym, ap, subst, arith, ◌∙◌, ◌⊎◌, inl, inr}
use Rattle.trs_defs.specs.Tree.{Tree, var, app, Trees, nil, cons, count}
use Rattle.trs_defs.specs.Substitution.{apply, apply_all}
use Rattle.pair_theory.specs.Accessible.{Acc, acc}
use Rattle.trs_defs.specs.Step.{StepBy, deep, first, later}
use Rattle.pair_theory.specs.Terminates.{ArgumentStep, Terminates}
use Rattle.pair_theory.specs.Subterm.{ProperSubterm, proper, Sub, itself, under, Subs, in_head, in_tail}
use Rattle.trs_defs.specs.Every.{Every, every_nil, every_cons}
use Rattle.trs_defs.specs.Run.{Run, Stay, Go}
use Rattle.pair_theory.specs.Marked.{Marked, marked}
use Rattle.pair_theory.specs.Chain.{ChainStep, link}
use Rattle.pair_theory.specs.ItemOr.{item_or}
use Rattle.trs_defs.proofs.Runs.{then}
use Rattle.pair_theory.proofs.Accessibility.{down, acc_induction}
use Rattle.pair_theory.proofs.Subterms.{subs_apply}
use Rattle.pair_theory.proofs.Chains.{chain_either}

pub data Plus {A : Type 0} (r : A → A → Type 0) : A → A → Type 0 where
  once : {x y : A} → r x y → Plus r x y
  onto : {x y z : A} → r x y → Plus r y z → Plus r x z

acc_plus : {A : Type 0} (r : A → A → Type 0) {x : A} → Acc r x → Acc (Plus r) x
acc_plus r a = acc_induction {P = Acc (Plus r)} (λ x below rec. acc (λ y p. plus_case (Acc (Plus r)) p rec (λ z s q. down (rec z s) q))) a
  where
    plus_case : {x y : _} (P : _ → Type 0) → Plus r x y → ((y : _) → r x y → P y) → ((z : _) → r x z → Plus r z y → P y) → P y
    plus_case P (once s) f g = f _ s
    plus_case P (onto s q) f g = g _ s q

plus_after : {A : Type 0} {r : A → A → Type 0} {x y z : A} → Run r x y → Plus r y z → Plus r x z
plus_after Stay q = q
plus_after (Go s p) q = onto s (plus_after p q)

module _ (rule : Tree → Tree → Type 0) where
  -- a step, or to a proper subterm
  abbrev pub Down : Tree → Tree → Type 0
  Down s t = StepBy rule s t ⊎ ProperSubterm s t

  mutual
    step_in : {s t u : Tree} → Sub s t → StepBy rule s u → (t' : Tree) × StepBy rule t t' × Sub u t'
    step_in itself s = (_, s, itself)
    step_in (under {f = f} p) s = let (ts', s', q) = steps_in p s in (app f ts', deep s', under q)

    steps_in : {s u : Tree} {ts : Trees} → Subs s ts → StepBy rule s u → (ts' : Trees) × ArgumentStep rule ts ts' × Subs u ts'
    steps_in (in_head {ts = ts} p) s = let (t', s', q) = step_in p s in (cons t' ts, first s', in_head q)
    steps_in (in_tail {t = t} p) s = let (ts', s', q) = steps_in p s in (cons t ts', later s', in_tail q)

  module _ (t : Tree) (rec : (t' : Tree) → StepBy rule t t' → (s : Tree) → Sub s t' → Acc Down s) where
    by_step : {s u : Tree} → Sub s t → StepBy rule s u → Acc Down u
    by_step p s = let h : (t' : Tree) × StepBy rule t t' × Sub _ t' = step_in p s in rec h.0 h.1 _ h.2

    of_term : (s : Tree) → Sub s t → ((u : Tree) → ProperSubterm s u → Acc Down u) → Acc Down s
    of_term s p k = acc (λ u d. elim d [ inl st ↦ by_step p st | inr pr ↦ k u pr ])

    sub_case : {P : Type 0} {f : ℕ} {ss : Trees} {u : Tree} → Sub u (app f ss) → (u ≡ app f ss → P) → (Subs u ss → P) → P
    sub_case itself a b = a refl
    sub_case (under p) a b = b p

    var_case : {P : Type 0} {x : ℕ} {u : Tree} → Sub u (var x) → (u ≡ var x → P) → P
    var_case itself a = a refl

    out_proper : {f : ℕ} {ss : Trees} {u : Tree} → ProperSubterm (app f ss) u → Subs u ss
    out_proper (proper p) = p

    no_proper : {x : ℕ} {u : Tree} → ProperSubterm (var x) u → ⊥
    no_proper p = elim p [ ]

    subs_case : {P : Type 0} {s u : Tree} {ss : Trees} → Subs u (cons s ss) → (Sub u s → P) → (Subs u ss → P) → P
    subs_case (in_head p) a b = a p
    subs_case (in_tail p) a b = b p

    mutual
      all_of : (s : Tree) → ((u : Tree) → Sub u s → Sub u t) → (u : Tree) → Sub u s → Acc Down u
      all_of (var x) k u p = var_case p (λ e. of_term u (k u p) (λ w pr. absurd (no_proper (subst (λ z. ProperSubterm z w) e pr))))
      all_of (app f ss) k u p = sub_case p
          (λ e. of_term u (k u p) (λ w pr. alls_of ss (λ z q. k z (under q)) w (out_proper (subst (λ z. ProperSubterm z w) e pr))))
          (λ q. alls_of ss (λ z q. k z (under q)) u q)

      alls_of : (ss : Trees) → ((u : Tree) → Subs u ss → Sub u t) → (u : Tree) → Subs u ss → Acc Down u
      alls_of nil k u p = elim p [ ]
      alls_of (cons s ss) k u p = subs_case p (λ q. all_of s (λ z q. k z (in_head q)) u q) (λ q. alls_of ss (λ z q. k z (in_tail q)) u q)

  pub down_acc : {t : Tree} → Terminates rule t → Acc Down t
  down_acc {t} a = acc_induction {P = λ t. (s : Tree) → Sub s t → Acc Down s} (λ t below rec s p. all_of t rec t (λ u q. q) s p) a t itself

  every_at : {P : Tree → Type 0} (i : ℕ) {ts : Trees} (d : Tree) → P d → Every P ts → P (item_or i ts d)
  every_at i d p every_nil = p
  every_at zero d p (every_cons h hs) = h
  every_at (suc i) d p (every_cons h hs) = every_at i d p hs

  steps_at : (i : ℕ) (d : Tree) {ss ts : Trees} → ArgumentStep rule ss ts → Run Down (item_or i ss d) (item_or i ts d)
  steps_at zero d (first s) = Go (inl s) Stay
  steps_at (suc i) d (first s) = Stay
  steps_at zero d (later s) = Stay
  steps_at (suc i) d (later s) = steps_at i d s

  run_at : (i : ℕ) (d : Tree) {ss ts : Trees} → Run (ArgumentStep rule) ss ts → Run Down (item_or i ss d) (item_or i ts d)
  run_at i d Stay = Stay
  run_at i d (Go s ss) = then (steps_at i d s) (run_at i d ss)

  -- within the arguments, the place's instance is the instance's place
  at_inside : (σ : ℕ → Tree) (i : ℕ) (ts : Trees) (d e : Tree) → i < count ts → item_or i (apply_all σ ts) d ≡ apply σ (item_or i ts e)
  at_inside σ i nil d e lt = absurd (omega arith)
  at_inside σ zero (cons t ts) d e lt = refl
  at_inside σ (suc i) (cons t ts) d e lt = at_inside σ i ts d e (omega arith)

  proper_apply : (σ : ℕ → Tree) {s t : Tree} → ProperSubterm s t → ProperSubterm (apply σ s) (apply σ t)
  proper_apply σ (proper p) = proper (subs_apply σ p)

  module _ (place : ℕ → ℕ) where
    -- the argument that is looked at
    abbrev pub projected : Marked → Tree
    projected m = item_or (place m.symbol) m.args (var 0)

    module _ (stay go : Marked → Marked → Type 0)
        (stay_at : (l r : Marked) → stay l r → (place l.symbol < count l.args) × (place r.symbol < count r.args) × (projected l ≡ projected r))
        (go_at : (l r : Marked) → go l r → (place l.symbol < count l.args) × (place r.symbol < count r.args) × ProperSubterm (projected l) (projected r)) where
      abbrev pub Either : Marked → Marked → Type 0
      Either l r = stay l r ⊎ go l r

      reach_projected : (u l : Marked) (σ : ℕ → Tree) → u.symbol ≡ l.symbol → Run (ArgumentStep rule) u.args (apply_all σ l.args) → place l.symbol < count l.args
          → Run Down (projected u) (apply σ (projected l))
      reach_projected u l σ e reach lt =
          subst (λ z. Run Down (projected u) z) (at_inside σ (place l.symbol) l.args (var 0) (var 0) lt)
          (subst (λ k. Run Down (item_or (place k) u.args (var 0)) (item_or (place l.symbol) (apply_all σ l.args) (var 0))) (sym e) (run_at (place l.symbol) (var 0) reach))

      to_projected : (v r : Marked) (σ : ℕ → Tree) → v ≡ marked r.symbol (apply_all σ r.args) → place r.symbol < count r.args → apply σ (projected r) ≡ projected v
      to_projected v r σ to lt = sym (ap projected to ∙ at_inside σ (place r.symbol) r.args (var 0) (var 0) lt)

      stay_run : {u v : Marked} → ChainStep rule stay u v → Run Down (projected u) (projected v)
      stay_run {u} (link l r σ h e reach to small) = let w : _ = stay_at l r h in
          subst (Run Down (projected u)) (ap (apply σ) w.2 ∙ to_projected _ r σ to w.1) (reach_projected u l σ e reach w.0)

      go_plus : {u v : Marked} → ChainStep rule go u v → Plus Down (projected u) (projected v)
      go_plus {u} (link l r σ h e reach to small) = let w : _ = go_at l r h in
          plus_after (reach_projected u l σ e reach w.0) (once (inr (subst (ProperSubterm (apply σ (projected l))) (to_projected _ r σ to w.1) (proper_apply σ w.2))))

      module _ (Ok : Marked → Type 0) (keeps : (u v : Marked) → Ok u → ChainStep rule Either u v → Ok v)
          (small : (u : Marked) → Ok u → Every (Terminates rule) u.args) (var_ends : Terminates rule (var 0))
          (rest : (u : Marked) → Ok u → Acc (ChainStep rule stay) u) where
        from_projected : {p : Tree} → Acc (Plus Down) p → (u : Marked) → Run Down p (projected u) → Ok u → Acc (ChainStep rule Either) u
        from_projected a =
            acc_induction {P = λ p. (u : Marked) → Run Down p (projected u) → Ok u → Acc (ChainStep rule Either) u}
            (λ p below rec u reach ok. acc_induction {P = λ u. Run Down p (projected u) → Ok u → Acc (ChainStep rule Either) u}
            (λ u below' rec' reach ok. acc (λ v c. elim (chain_either c) [
              | inl c' ↦ rec' v c' (then reach (stay_run c')) (keeps u v ok c)
              | inr c' ↦ rec (projected v) (plus_after reach (go_plus c')) v Stay (keeps u v ok c)
            ]))
            (rest u ok) reach ok)
            a

        pub criterion : (u : Marked) → Ok u → Acc (ChainStep rule Either) u
        criterion u ok = from_projected (acc_plus Down (down_acc (every_at (place u.symbol) (var 0) var_ends (small u ok)))) u Stay ok
