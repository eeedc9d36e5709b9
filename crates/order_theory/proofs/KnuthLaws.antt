-- The Knuth-Bendix order is closed under substitutions and contexts.
use Rattle.std.proofs.Common.{◌≡◌, ℕ, zero, suc, ◌+◌, ◌*◌, ◌≤◌, ◌<◌, refl, sym, ap, subst, arith, ◌∙◌, ◌⊎◌, inl, inr, Option, Some}
use native.Mathlib.Decide.{dec_lt, ℕ_discrete}
use Rattle.trs_defs.specs.Tree.{Tree, var, app, Trees, nil, cons, count}
use Rattle.trs_defs.specs.Substitution.{apply, apply_all}
use Rattle.pair_theory.specs.Accessible.{acc}
use Rattle.trs_defs.specs.Step.{Inside, InsideOne, StepBy, here, deep, first, later}
use Rattle.pair_theory.specs.Terminates.{ArgumentStep, Terminates}
use Rattle.pair_theory.specs.Subterm.{Sub}
use Rattle.order_theory.specs.KnuthBendix.{IsAdmissible, KeepsOccurrences, KnuthWeak, weigh, weigh_all, Tower, one_high, higher, KnuthGreater, by_weight, by_tower, by_head, by_args, KnuthLexGreater, heavier_here, heavier_later}
use Rattle.pair_theory.specs.Over.{IsOver, AreOver}
use Rattle.trs_defs.proofs.ArgumentLists.{count_apply_all}
use Rattle.order_theory.specs.LinearInterpretation.{value, values, constant, constants, coefficient, coefficients}
use Rattle.trs_defs.specs.Variable.{occurrences, occurrences_in_all}
use Rattle.order_theory.proofs.Coefficients.{by_coefficients, mul_le, value_sum, vars_below, sum_to}
use Rattle.order_theory.proofs.KnuthAccessible.{some_same, lex_count, weigh_pos, knuth_acc}
use Rattle.pair_theory.proofs.Accessibility.{acc_induction}
use Rattle.pair_theory.proofs.Matching.{occurs, same_apply, pick}
use Rattle.pair_theory.proofs.Over.{over_var, step_over}

-- the symbol's weight, and 1 for each argument
abbrev pub plus_args : (ℕ → ℕ) → ℕ → ℕ → ℕ
plus_args w f zero = w f
plus_args w f (suc i) = 1

gap : (p q a : ℕ) → p ≤ q → 1 ≤ a → p * a + q ≤ q * a + p
gap p q zero le one = absurd (omega arith)
gap p q (suc a) le one = let h : p * a ≤ q * a = mul_le p q a le in omega arith

sum_gap : (n : ℕ) (p q a : ℕ → ℕ) → ((x : ℕ) → p x ≤ q x) → ((x : ℕ) → 1 ≤ a x)
    → sum_to n (λ x. p x * a x) + sum_to n (λ x. q x * 1) ≤ sum_to n (λ x. q x * a x) + sum_to n (λ x. p x * 1)
sum_gap zero p q a le one = omega arith
sum_gap (suc n) p q a le one =
    let h : sum_to n (λ x. p x * a x) + sum_to n (λ x. q x * 1) ≤ sum_to n (λ x. q x * a x) + sum_to n (λ x. p x * 1) = sum_gap n p q a le one in
    let k : p n * a n + q n ≤ q n * a n + p n = gap (p n) (q n) (a n) (le n) (one n) in omega arith

module _ (w : ℕ → ℕ) where
  mutual
    weigh_value : (t : Tree) → weigh w t ≡ value (plus_args w) (λ x. 1) t
    weigh_value (var x) = refl
    weigh_value (app f ts) = let h : weigh_all w ts ≡ values (plus_args w) (λ x. 1) f 1 ts = weighs_value f 0 ts in omega arith

    weighs_value : (f i : ℕ) (ts : Trees) → weigh_all w ts ≡ values (plus_args w) (λ x. 1) f (suc i) ts
    weighs_value f i nil = refl
    weighs_value f i (cons t ts) = let h : weigh w t ≡ value (plus_args w) (λ x. 1) t = weigh_value t in
        let k : weigh_all w ts ≡ values (plus_args w) (λ x. 1) f (suc (suc i)) ts = weighs_value f (suc i) ts in omega arith

  mutual
    weigh_apply : (σ : ℕ → Tree) (t : Tree) → weigh w (apply σ t) ≡ value (plus_args w) (λ x. weigh w (σ x)) t
    weigh_apply σ (var x) = refl
    weigh_apply σ (app f ts) = let h : weigh_all w (apply_all σ ts) ≡ values (plus_args w) (λ x. weigh w (σ x)) f 1 ts = weighs_apply σ f 0 ts in omega arith

    weighs_apply : (σ : ℕ → Tree) (f i : ℕ) (ts : Trees) → weigh_all w (apply_all σ ts) ≡ values (plus_args w) (λ x. weigh w (σ x)) f (suc i) ts
    weighs_apply σ f i nil = refl
    weighs_apply σ f i (cons t ts) = let h : weigh w (apply σ t) ≡ value (plus_args w) (λ x. weigh w (σ x)) t = weigh_apply σ t in
        let k : weigh_all w (apply_all σ ts) ≡ values (plus_args w) (λ x. weigh w (σ x)) f (suc (suc i)) ts = weighs_apply σ f (suc i) ts in omega arith

  mutual
    pub same_times : (x : ℕ) (t : Tree) → coefficient (plus_args w) x t ≡ occurrences x t
    same_times x (var y) = refl
    same_times x (app f ts) = same_times_each x f 0 ts

    same_times_each : (x f i : ℕ) (ts : Trees) → coefficients (plus_args w) x f (suc i) ts ≡ occurrences_in_all x ts
    same_times_each x f i nil = refl
    same_times_each x f i (cons t ts) =
        let h : coefficient (plus_args w) x t ≡ occurrences x t = same_times x t in
        let k : coefficients (plus_args w) x f (suc (suc i)) ts ≡ occurrences_in_all x ts = same_times_each x f (suc i) ts in omega arith

  -- where t has no variable more often than s, a heavier assignment keeps the difference of the weights
  weigh_instance : (σ : ℕ → Tree) (s t : Tree) (d : ℕ) → KeepsOccurrences s t → ((x : ℕ) → 1 ≤ weigh w (σ x)) → weigh w t + d ≤ weigh w s → weigh w (apply σ t) + d ≤ weigh w (apply σ s)
  weigh_instance σ s t d k one le =
      let c : ℕ → ℕ → ℕ = plus_args w in
      let a : ℕ → ℕ = λ x. weigh w (σ x) in
      let p : (n : ℕ) × ((x : ℕ) → Sub (var x) s → x < n) = vars_below s in
      let q : (n : ℕ) × ((x : ℕ) → Sub (var x) t → x < n) = vars_below t in
      let n : ℕ = p.0 + q.0 in
      let in_s : (x : ℕ) → Sub (var x) s → x < n = λ x i. let h : x < p.0 = p.1 x i in omega arith in
      let in_t : (x : ℕ) → Sub (var x) t → x < n = λ x i. let h : x < q.0 = q.1 x i in omega arith in
      let e1 : value c a s ≡ constant c s + sum_to n (λ x. coefficient c x s * a x) = value_sum c a n s in_s in
      let e2 : value c a t ≡ constant c t + sum_to n (λ x. coefficient c x t * a x) = value_sum c a n t in_t in
      let e3 : value c (λ x. 1) s ≡ constant c s + sum_to n (λ x. coefficient c x s * 1) = value_sum c (λ x. 1) n s in_s in
      let e4 : value c (λ x. 1) t ≡ constant c t + sum_to n (λ x. coefficient c x t * 1) = value_sum c (λ x. 1) n t in_t in
      let g : sum_to n (λ x. coefficient c x t * a x) + sum_to n (λ x. coefficient c x s * 1) ≤ sum_to n (λ x. coefficient c x s * a x) + sum_to n (λ x. coefficient c x t * 1) =
      sum_gap n (λ x. coefficient c x t) (λ x. coefficient c x s) a (λ x. rw (same_times x t, same_times x s) (k x)) one in
      let w1 : weigh w (apply σ s) ≡ value c a s = weigh_apply σ s in
      let w2 : weigh w (apply σ t) ≡ value c a t = weigh_apply σ t in
      let w3 : weigh w s ≡ value c (λ x. 1) s = weigh_value s in
      let w4 : weigh w t ≡ value c (λ x. 1) t = weigh_value t in
      omega arith

mutual
  times_apply : (y : ℕ) (σ : ℕ → Tree) (t : Tree) → occurrences y (apply σ t) ≡ value (plus_args (λ f. 0)) (λ x. occurrences y (σ x)) t
  times_apply y σ (var x) = refl
  times_apply y σ (app f ts) = let h : occurrences_in_all y (apply_all σ ts) ≡ values (plus_args (λ f. 0)) (λ x. occurrences y (σ x)) f 1 ts = times_apply_each y σ f 0 ts in omega arith

  times_apply_each : (y : ℕ) (σ : ℕ → Tree) (f i : ℕ) (ts : Trees) → occurrences_in_all y (apply_all σ ts) ≡ values (plus_args (λ f. 0)) (λ x. occurrences y (σ x)) f (suc i) ts
  times_apply_each y σ f i nil = refl
  times_apply_each y σ f i (cons t ts) =
      let h : occurrences y (apply σ t) ≡ value (plus_args (λ f. 0)) (λ x. occurrences y (σ x)) t = times_apply y σ t in
      let k : occurrences_in_all y (apply_all σ ts) ≡ values (plus_args (λ f. 0)) (λ x. occurrences y (σ x)) f (suc (suc i)) ts = times_apply_each y σ f (suc i) ts in omega arith

mutual
  no_constant : (t : Tree) → constant (plus_args (λ f. 0)) t ≡ 0
  no_constant (var x) = refl
  no_constant (app f ts) = let h : constants (plus_args (λ f. 0)) f 1 ts ≡ 0 = no_constants f 0 ts in omega arith

  no_constants : (f i : ℕ) (ts : Trees) → constants (plus_args (λ f. 0)) f (suc i) ts ≡ 0
  no_constants f i nil = refl
  no_constants f i (cons t ts) = let h : constant (plus_args (λ f. 0)) t ≡ 0 = no_constant t in let k : constants (plus_args (λ f. 0)) f (suc (suc i)) ts ≡ 0 = no_constants f (suc i) ts in omega arith

keeps_apply : (σ : ℕ → Tree) (s t : Tree) → KeepsOccurrences s t → KeepsOccurrences (apply σ s) (apply σ t)
keeps_apply σ s t k y =
    let e : occurrences y (apply σ s) ≡ value (plus_args (λ f. 0)) (λ x. occurrences y (σ x)) s = times_apply y σ s in
    let e' : occurrences y (apply σ t) ≡ value (plus_args (λ f. 0)) (λ x. occurrences y (σ x)) t = times_apply y σ t in
    let c : constant (plus_args (λ f. 0)) s ≡ 0 = no_constant s in
    let c' : constant (plus_args (λ f. 0)) t ≡ 0 = no_constant t in
    let h : value (plus_args (λ f. 0)) (λ x. occurrences y (σ x)) t + 0 ≤ value (plus_args (λ f. 0)) (λ x. occurrences y (σ x)) s =
    by_coefficients (plus_args (λ f. 0)) s t (λ x. rw (same_times (λ f. 0) x s, same_times (λ f. 0) x t) (k x)) 0 (omega arith) (λ x. occurrences y (σ x)) in
    omega arith

module _ (arity : ℕ → Option ℕ) (w rank : ℕ → ℕ) (admissible : IsAdmissible arity w rank) where
  abbrev pub Heavier : Tree → Tree → Type 0
  Heavier = KnuthGreater w rank

  abbrev pub HeavierLex : Trees → Trees → Type 0
  HeavierLex = KnuthLexGreater w rank

  positive : (t : Tree) → IsOver arity t → 1 ≤ weigh w t
  positive = weigh_pos arity w rank admissible

  -- f, k times, on u
  abbrev stack : ℕ → ℕ → Tree → Tree
  stack f zero u = u
  stack f (suc k) u = app f (cons (stack f k u) nil)

  stack_times : (f k x : ℕ) (u : Tree) → occurrences x (stack f k u) ≡ occurrences x u
  stack_times f zero x u = refl
  stack_times f (suc k) x u = let h : occurrences x (stack f k u) ≡ occurrences x u = stack_times f k x u in omega arith

  stack_weigh : (f k : ℕ) (u : Tree) → w f ≡ 0 → weigh w (stack f k u) ≡ weigh w u
  stack_weigh f zero u z = refl
  stack_weigh f (suc k) u z = let h : weigh w (stack f k u) ≡ weigh w u = stack_weigh f k u z in omega arith

  stack_shift : (f k : ℕ) (u : Tree) → stack f k (app f (cons u nil)) ≡ app f (cons (stack f k u) nil)
  stack_shift f zero u = refl
  stack_shift f (suc k) u = ap (λ t. app f (cons t nil)) (stack_shift f k u)

  stack_tower : (f k x : ℕ) → Tower f x (stack f (suc k) (var x))
  stack_tower f zero x = one_high
  stack_tower f (suc k) x = higher (stack_tower f k x)

  stack_heavy : (f : ℕ) → arity f ≡ Some 1 → w f ≡ 0 → (k : ℕ) (u : Tree) → IsOver arity u → Heavier (stack f (suc k) u) u
  stack_heavy f one z k (var x) v = by_tower (stack_tower f k x) (stack_weigh f (suc k) (var x) z)
  stack_heavy f one z k (app g nil) v = by_head (λ x. let e : occurrences x (stack f (suc k) (app g nil)) ≡ occurrences x (app g nil) = stack_times f (suc k) x (app g nil) in omega arith)
      (stack_weigh f (suc k) (app g nil) z) (admissible.on_top f g 0 one z v.0 (λ e. let h : 1 ≡ 0 = some_same (sym one ∙ ap arity e ∙ v.0) in omega arith))
  stack_heavy f one z k (app g (cons u us)) v = go (ℕ_discrete f g) us v (λ w. stack_heavy f one z k u w)
    where
      go : Dec (f ≡ g) → (us : Trees) → IsOver arity (app g (cons u us)) → (IsOver arity u → Heavier (stack f (suc k) u) u) → Heavier (stack f (suc k) (app g (cons u us))) (app g (cons u us))
      go (no d) us v rec = by_head (λ x. let e : occurrences x (stack f (suc k) (app g (cons u us))) ≡ occurrences x (app g (cons u us)) = stack_times f (suc k) x (app g (cons u us)) in omega arith)
          (stack_weigh f (suc k) (app g (cons u us)) z) (admissible.on_top f g (count (cons u us)) one z v.0 d)
      go (yes e) nil v rec = subst (λ g. Heavier (stack f (suc k) (app g (cons u nil))) (app g (cons u nil))) e
          (by_args (λ x. let e : occurrences x (stack f (suc k) (app f (cons u nil))) ≡ occurrences x (app f (cons u nil)) = stack_times f (suc k) x (app f (cons u nil)) in omega arith)
          (stack_weigh f (suc k) (app f (cons u nil)) z)
          (heavier_here (subst (λ t. Heavier t u) (sym (stack_shift f k u)) (rec v.1.0)) refl))
      go (yes e) (cons u' us) v rec = absurd (let h : 1 ≡ 1 + (1 + count us) = some_same (sym one ∙ ap arity e ∙ v.0) in omega arith)

  tower_stack : {f x : ℕ} {s : Tree} → Tower f x s → (k : ℕ) × (s ≡ stack f (suc k) (var x))
  tower_stack one_high = (0, refl)
  tower_stack {f} (higher p) = let h : (k : ℕ) × (_ ≡ stack f (suc k) (var _)) = tower_stack p in (suc h.0, ap (λ t. app f (cons t nil)) h.1)

  stack_apply : (σ : ℕ → Tree) (f k x : ℕ) → apply σ (stack f k (var x)) ≡ stack f k (σ x)
  stack_apply σ f zero x = refl
  stack_apply σ f (suc k) x = ap (λ t. app f (cons t nil)) (stack_apply σ f k x)

  tower_unary : {f x : ℕ} {s : Tree} → Tower f x s → IsOver arity s → arity f ≡ Some 1
  tower_unary one_high v = v.0
  tower_unary (higher p) v = v.0

  heavier_keeps : {s t : Tree} → Heavier s t → KeepsOccurrences s t
  heavier_keeps (by_weight k lt) y = k y
  heavier_keeps {s} (by_tower {f = f} {x = x} p e) y = let h : (k : ℕ) × (s ≡ stack f (suc k) (var x)) = tower_stack p in
      let m : occurrences y (stack f (suc h.0) (var x)) ≡ occurrences y (var x) = stack_times f (suc h.0) y (var x) in rw h.1 (omega arith)
  heavier_keeps (by_head k e r) y = k y
  heavier_keeps (by_args k e l) y = k y

  heavier_le : {s t : Tree} → Heavier s t → weigh w t ≤ weigh w s
  heavier_le (by_weight k lt) = omega arith
  heavier_le (by_tower p e) = omega arith
  heavier_le (by_head k e r) = omega arith
  heavier_le (by_args k e l) = omega arith

  tower_zero : {f x : ℕ} {s : Tree} → Tower f x s → IsOver arity s → weigh w s ≡ 1 → w f ≡ 0
  tower_zero one_high v e = omega arith
  tower_zero (higher {t = t} p) v e = let h : 1 ≤ weigh w t = positive t v.1.0 in omega arith

  module _ (σ : ℕ → Tree) (good : (x : ℕ) → IsOver arity (σ x)) where
    by_less : (s t : Tree) → KeepsOccurrences s t → weigh w t ≤ weigh w s → (weigh w (apply σ s) ≡ weigh w (apply σ t) → Heavier (apply σ s) (apply σ t)) → Heavier (apply σ s) (apply σ t)
    by_less s t k le same = go (dec_lt (weigh w (apply σ t)) (weigh w (apply σ s)))
      where
        go : Dec (weigh w (apply σ t) < weigh w (apply σ s)) → Heavier (apply σ s) (apply σ t)
        go (yes lt) = by_weight (keeps_apply σ s t k) lt
        go (no d) = let h : weigh w (apply σ t) + 0 ≤ weigh w (apply σ s) = weigh_instance w σ s t 0 k (λ x. positive (σ x) (good x)) (omega arith) in same (omega (arith, d))

    mutual
      pub heavy_apply : {s t : Tree} → Heavier s t → IsOver arity s → Heavier (apply σ s) (apply σ t)
      heavy_apply {s} {t} (by_weight k lt) v = by_weight (keeps_apply σ s t k)
          (let h : weigh w (apply σ t) + 1 ≤ weigh w (apply σ s) = weigh_instance w σ s t 1 k (λ x. positive (σ x) (good x)) (omega arith) in omega arith)
      heavy_apply {s} {t} (by_tower {f = f} {x = x} p e) v = let h : (k : ℕ) × (s ≡ stack f (suc k) (var x)) = tower_stack p in
          rw (h.1, stack_apply σ f (suc h.0) x) (stack_heavy f (tower_unary p v) (tower_zero p v e) h.0 (σ x) (good x))
      heavy_apply {s} {t} (by_head k e r) v = by_less s t k (omega arith) (λ e'. by_head (keeps_apply σ s t k) e' r)
      heavy_apply {s} {t} (by_args k e l) v = let l' : HeavierLex _ _ = lex_apply l v.1 in by_less s t k (omega arith) (λ e'. by_args (keeps_apply σ s t k) e' l')

      lex_apply : {ss ts : Trees} → HeavierLex ss ts → AreOver arity ss → HeavierLex (apply_all σ ss) (apply_all σ ts)
      lex_apply (heavier_here {ss = ss} {ts = ts} g e) v = heavier_here (heavy_apply g v.0) (count_apply_all σ ss ∙ e ∙ sym (count_apply_all σ ts))
      lex_apply (heavier_later l) v = heavier_later (lex_apply l v.1)

  pick_is : {A : Type 0} (d : Dec A) (s t : Tree) → A → s ≡ pick d s t
  pick_is (yes a) s t p = refl
  pick_is (no n) s t p = absurd (n p)

  pick_good : {A : Type 0} (d : Dec A) (s : Tree) (x : ℕ) → (A → IsOver arity s) → IsOver arity (pick d s (var x))
  pick_good (yes a) s x k = k a
  pick_good (no n) s x k = tt

  root_heavy : (l r : Tree) (σ : ℕ → Tree) → Heavier l r → IsOver arity l → ((x : ℕ) → Sub (var x) r → Sub (var x) l) → IsOver arity (apply σ l) → Heavier (apply σ l) (apply σ r)
  root_heavy l r σ g vl vars v =
      let τ : ℕ → Tree = λ x. pick (occurs x l) (σ x) (var x) in
      let same_l : apply σ l ≡ apply τ l = same_apply l σ τ (λ x p. pick_is (occurs x l) (σ x) (var x) p) in
      let same_r : apply σ r ≡ apply τ r = same_apply r σ τ (λ x p. pick_is (occurs x l) (σ x) (var x) (vars x p)) in
      subst (λ z. Heavier z (apply σ r)) (sym same_l) (subst (Heavier (apply τ l)) (sym same_r)
      (heavy_apply τ (λ x. pick_good (occurs x l) (σ x) x (λ p. over_var arity σ p v)) g vl))

  abbrev Sums : Trees → Trees → Type 0
  Sums ss ts = HeavierLex ss ts × (weigh_all w ts ≤ weigh_all w ss) × ((x : ℕ) → occurrences_in_all x ts ≤ occurrences_in_all x ss)

  app_heavy : (f : ℕ) (ss ts : Trees) → Sums ss ts → Heavier (app f ss) (app f ts)
  app_heavy f ss ts h = go (dec_lt (weigh w (app f ts)) (weigh w (app f ss)))
    where
      less : KeepsOccurrences (app f ss) (app f ts)
      less x = h.2 x

      go : Dec (weigh w (app f ts) < weigh w (app f ss)) → Heavier (app f ss) (app f ts)
      go (yes lt) = by_weight less lt
      go (no d) = by_args less (omega (arith, h.1, d)) h.0

  first_sums : {s t : Tree} (ts : Trees) → Heavier s t → Sums (cons s ts) (cons t ts)
  first_sums {s} {t} ts g = (
    heavier_here g refl,
    (let h : weigh w t ≤ weigh w s = heavier_le g in omega arith),
    (λ x. let h : occurrences x t ≤ occurrences x s = heavier_keeps g x in omega arith),
  )

  later_sums : (s : Tree) {ss ts : Trees} → Sums ss ts → Sums (cons s ss) (cons s ts)
  later_sums s {ss} {ts} h = (
    heavier_later h.0,
    (let k : weigh_all w ts ≤ weigh_all w ss = h.1 in omega arith),
    (λ x. let k : occurrences_in_all x ts ≤ occurrences_in_all x ss = h.2 x in omega arith),
  )

  -- the weak order in a context
  mutual
    pub weak_context : {s t : Tree} → Inside (KnuthWeak w rank) s t → KnuthWeak w rank s t
    weak_context (here h) = h
    weak_context (deep {f = f} {ss = ss} {ts = ts} p) = elim (weak_contexts p) [ inl e ↦ inl (ap (app f) e) | inr h ↦ inr (app_heavy f ss ts h) ]

    weak_contexts : {ss ts : Trees} → InsideOne (KnuthWeak w rank) ss ts → (ss ≡ ts) ⊎ Sums ss ts
    weak_contexts (first {ts = ts} p) = elim (weak_context p) [ inl e ↦ inl (ap (λ t. cons t ts) e) | inr h ↦ inr (first_sums ts h) ]
    weak_contexts (later {t = t} p) = elim (weak_contexts p) [ inl e ↦ inl (ap (cons t) e) | inr h ↦ inr (later_sums t h) ]

  module _ (rule : Tree → Tree → Type 0) (falls : (l r : Tree) → rule l r → Heavier l r) (left : (l r : Tree) → rule l r → IsOver arity l)
      (right : (l r : Tree) → rule l r → IsOver arity r) (vars : (l r : Tree) → rule l r → (x : ℕ) → Sub (var x) r → Sub (var x) l) where
    mutual
      step_heavy : {s t : Tree} → StepBy rule s t → IsOver arity s → Heavier s t
      step_heavy {s} {t} (here (l, r, σ, h, e, e')) v = subst (λ z. Heavier z t) (sym e) (subst (Heavier (apply σ l)) (sym e')
          (root_heavy l r σ (falls l r h) (left l r h) (vars l r h) (subst (IsOver arity) e v)))
      step_heavy (deep {f = f} {ss = ss} {ts = ts} s) v = app_heavy f ss ts (steps_heavy s v.1)

      steps_heavy : {ss ts : Trees} → ArgumentStep rule ss ts → AreOver arity ss → Sums ss ts
      steps_heavy (first {ts = ts} s) v = first_sums ts (step_heavy s v.0)
      steps_heavy (later {t = s} st) v = later_sums s (steps_heavy st v.1)

    pub falling_terminates : (t : Tree) → IsOver arity t → Terminates rule t
    falling_terminates t v = acc_induction {P = λ t. IsOver arity t → Terminates rule t}
        (λ t below rec v. acc (λ u s. let v' : IsOver arity u = step_over arity rule right vars s v in rec u (step_heavy s v, v') v'))
        (knuth_acc arity w rank admissible t v) v

  -- transitivity
  head_case : (P : Type 0) {f : ℕ} {ss : Trees} {t : Tree} → Heavier (app f ss) t
      → (weigh w t < weigh w (app f ss) → P)
      → ((x : ℕ) → t ≡ var x → Tower f x (app f ss) → weigh w (app f ss) ≡ 1 → P)
      → ((g : ℕ) (ts : Trees) → t ≡ app g ts → weigh w (app f ss) ≡ weigh w (app g ts) → rank g < rank f → P)
      → ((ts : Trees) → t ≡ app f ts → weigh w (app f ss) ≡ weigh w (app f ts) → HeavierLex ss ts → P) → P
  head_case P (by_weight k lt) a b c d = a lt
  head_case P (by_tower one_high e) a b c d = b _ refl one_high e
  head_case P (by_tower (higher p) e) a b c d = b _ refl (higher p) e
  head_case P (by_head k e r) a b c d = c _ _ refl e r
  head_case P (by_args k e l) a b c d = d _ refl e l

  one_top : (f g n : ℕ) → arity f ≡ Some 1 → w f ≡ 0 → arity g ≡ Some n → rank f < rank g → ⊥
  one_top f g n one z is r = go (ℕ_discrete f g)
    where
      go : Dec (f ≡ g) → ⊥
      go (yes e) = let h : rank f ≡ rank g = ap rank e in omega arith
      go (no d) = let h : rank g < rank f = admissible.on_top f g n one z is d in omega arith

  same_top : (f g : ℕ) → arity f ≡ Some 1 → w f ≡ 0 → arity g ≡ Some 1 → w g ≡ 0 → f ≡ g
  same_top f g one z one' z' = go (ℕ_discrete f g)
    where
      go : Dec (f ≡ g) → f ≡ g
      go (yes e) = e
      go (no d) = absurd (let h : rank g < rank f = admissible.on_top f g 1 one z one' d in one_top g f 1 one' z' one h)

  var_minimal : {x : ℕ} {u : Tree} → Heavier (var x) u → IsOver arity u → ⊥
  var_minimal {u = u} (by_weight k lt) v = let h : 1 ≤ weigh w u = positive u v in omega arith
  var_minimal (by_tower p e) v = elim p [ ]

  -- of weight 1 and app_greater a variable: a tower
  light_tower : {s : Tree} {x : ℕ} → Heavier s (var x) → IsOver arity s → weigh w s ≡ 1 → (f : ℕ) × Tower f x s
  light_tower (by_weight k lt) v e = absurd (omega arith)
  light_tower (by_tower {f = f} p e') v e = (f, p)

  keeps_trans : (s t u : Tree) → KeepsOccurrences s t → KeepsOccurrences t u → KeepsOccurrences s u
  keeps_trans s t u k k' x = let h : occurrences x t ≤ occurrences x s = k x in let h' : occurrences x u ≤ occurrences x t = k' x in omega arith

  lex_on : {s t : Tree} {ss ts us : Trees} → Heavier s t → ((u : Tree) → Heavier t u → IsOver arity u → Heavier s u) → count ss ≡ count ts → HeavierLex (cons t ts) us → AreOver arity us → HeavierLex (cons s ss) us
  lex_on g k e (heavier_here g' e') v = heavier_here (k _ g' v.0) (e ∙ e')
  lex_on g k e (heavier_later l) v = heavier_here g (e ∙ lex_count l)

  lex_past : {s : Tree} {ss ts us : Trees} → HeavierLex ss ts → ((us : Trees) → HeavierLex ts us → AreOver arity us → HeavierLex ss us) → HeavierLex (cons s ts) us → AreOver arity us → HeavierLex (cons s ss) us
  lex_past l k (heavier_here g e) v = heavier_here g (lex_count l ∙ e)
  lex_past l k (heavier_later l') v = heavier_later (k _ l' v.1)

  -- one argument each, the second a variable or a tower over it
  over : {f g x : ℕ} {s t : Tree} → Tower f x (app g (cons t nil)) → weigh w (app g (cons t nil)) ≡ 1 → w g ≡ 0
      → Heavier s t → ((u : Tree) → Heavier t u → IsOver arity u → Heavier s u) → Heavier s (var x)
  over one_high e z g k = g
  over {x = x} (higher p) e z g k = k (var x) (by_tower p (omega arith)) tt

  lex_some : {ss ts : Trees} → HeavierLex ss ts → 1 ≤ count ss
  lex_some (heavier_here g e) = omega arith
  lex_some (heavier_later l) = omega arith

  tower_at : (f x : ℕ) (s t : Tree) (ss ts : Trees) → Tower f x (app f (cons t ts)) → count ss ≡ count ts → weigh w (app f (cons s ss)) ≡ 1 → weigh w (app f (cons t ts)) ≡ 1
      → IsOver arity (app f (cons s ss)) → IsOver arity (app f (cons t ts)) → Heavier s t → ((u : Tree) → Heavier t u → IsOver arity u → Heavier s u) → Heavier (app f (cons s ss)) (var x)
  tower_at f x s t nil nil p same one one' v v' g k =
      let z : w f ≡ 0 = tower_zero p v' one' in
      let h : Heavier s (var x) = over p one' z g k in
      let light : weigh w s ≡ 1 = omega arith in
      let q : (f' : ℕ) × Tower f' x s = light_tower h v.1.0 light in
      let is : q.0 ≡ f = same_top q.0 f (tower_unary q.1 v.1.0) (tower_zero q.1 v.1.0 light) (tower_unary p v') z in
      by_tower (higher (subst (λ k. Tower k x s) is q.1)) one
  tower_at f x s t nil (cons u us) p same one one' v v' g k = absurd (omega arith)
  tower_at f x s t (cons u us) ts p same one one' v v' g k = absurd (let h : 1 ≡ 1 + (1 + count us) = some_same (sym (tower_unary p v') ∙ v.0) in omega arith)

  head_on : (f g : ℕ) (ss ts : Trees) (u : Tree) → KeepsOccurrences (app f ss) (app g ts) → weigh w (app f ss) ≡ weigh w (app g ts) → rank g < rank f → Heavier (app g ts) u → IsOver arity (app f ss) → IsOver arity (app g ts) → Heavier (app f ss) u
  head_on f g ss ts u k e r h vs vt =
      let k' : KeepsOccurrences (app f ss) u = keeps_trans (app f ss) (app g ts) u k (heavier_keeps h) in
      head_case (Heavier (app f ss) u) h
      (λ lt. by_weight k' (omega arith))
      (λ x e' p one. absurd (one_top g f (count ss) (tower_unary p vt) (tower_zero p vt one) vs.0 r))
      (λ h' us e' same r'. subst (Heavier (app f ss)) (sym e') (by_head (subst (KeepsOccurrences (app f ss)) e' k') (e ∙ same) (omega arith)))
      (λ us e' same l. subst (Heavier (app f ss)) (sym e') (by_head (subst (KeepsOccurrences (app f ss)) e' k') (e ∙ same) r))

  args_on : (f : ℕ) (ss ts : Trees) (u : Tree) → KeepsOccurrences (app f ss) (app f ts) → weigh w (app f ss) ≡ weigh w (app f ts) → HeavierLex ss ts → Heavier (app f ts) u → IsOver arity (app f ss) → IsOver arity (app f ts) → IsOver arity u
      → ((us : Trees) → HeavierLex ts us → AreOver arity ss → AreOver arity ts → AreOver arity us → HeavierLex ss us)
      → ((f x : ℕ) → Tower f x (app f ts) → weigh w (app f ss) ≡ 1 → weigh w (app f ts) ≡ 1 → IsOver arity (app f ss) → IsOver arity (app f ts) → Heavier (app f ss) (var x))
      → Heavier (app f ss) u
  args_on f ss ts u k e l h vs vt vu onto tower =
      let k' : KeepsOccurrences (app f ss) u = keeps_trans (app f ss) (app f ts) u k (heavier_keeps h) in
      head_case (Heavier (app f ss) u) h
      (λ lt. by_weight k' (omega arith))
      (λ x e' p one. subst (Heavier (app f ss)) (sym e') (tower f x p (e ∙ one) one vs vt))
      (λ h' us e' same r'. subst (Heavier (app f ss)) (sym e') (by_head (subst (KeepsOccurrences (app f ss)) e' k') (e ∙ same) r'))
      (λ us e' same l'. subst (Heavier (app f ss)) (sym e') (by_args (subst (KeepsOccurrences (app f ss)) e' k') (e ∙ same)
      (let v : IsOver arity (app f us) = subst (IsOver arity) e' vu in onto us l' vs.1 vt.1 v.1)))

  mutual
    pub heavy_trans : {s t : Tree} → Heavier s t → (u : Tree) → Heavier t u → IsOver arity s → IsOver arity t → IsOver arity u → Heavier s u
    heavy_trans {s} {t} (by_weight k lt) u g vs vt vu = let h : weigh w u ≤ weigh w t = heavier_le g in by_weight (keeps_trans s t u k (heavier_keeps g)) (omega arith)
    heavy_trans (by_tower p e) u g vs vt vu = absurd (var_minimal g vu)
    heavy_trans (by_head {f = f} {g = g'} {ss = ss} {ts = ts} k e r) u g vs vt vu = head_on f g' ss ts u k e r g vs vt
    heavy_trans (by_args {f = f} {ss = ss} {ts = ts} k e l) u g vs vt vu = args_on f ss ts u k e l g vs vt vu (lex_trans l) (tower_onto l)

    tower_onto : {ss ts : Trees} → HeavierLex ss ts → (f x : ℕ) → Tower f x (app f ts) → weigh w (app f ss) ≡ 1 → weigh w (app f ts) ≡ 1 → IsOver arity (app f ss) → IsOver arity (app f ts) → Heavier (app f ss) (var x)
    tower_onto (heavier_here {s = s} {t = t} {ss = ss} {ts = ts} g e) f x p one one' v v' =
        tower_at f x s t ss ts p e one one' v v' g (λ u g' vu. heavy_trans g u g' v.1.0 v'.1.0 vu)
    tower_onto (heavier_later {ss = ss} l) f x p one one' v v' = absurd (let h : 1 ≡ 1 + count ss = some_same (sym (tower_unary p v') ∙ v.0) in let h' : 1 ≤ count ss = lex_some l in omega arith)

    lex_trans : {ss ts : Trees} → HeavierLex ss ts → (us : Trees) → HeavierLex ts us → AreOver arity ss → AreOver arity ts → AreOver arity us → HeavierLex ss us
    lex_trans (heavier_here g e) us l vs vt vu = lex_on g (λ u g' v. heavy_trans g u g' vs.0 vt.0 v) e l vu
    lex_trans (heavier_later l') us l vs vt vu = lex_past l' (λ us l v. lex_trans l' us l vs.1 vt.1 v) l vu
