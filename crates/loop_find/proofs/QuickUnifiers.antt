-- Bindings that are found at once, and the most general unifier that they say.
use Rattle.std.specs.Option.{option_map}
use Rattle.std.specs.Prelude.{◌==◌, if◌then◌else◌, IfSome, IfOk, Result, Ok, Err}
use Rattle.trs_core.specs.declared.memory.OutOfMemory.{OutOfMemory}
use Rattle.trs_core.specs.View.{forest}
use Rattle.std.specs.Borrow.{Bor}
use Rattle.trs_core.specs.declared.terms.Term.{Term}
use Rattle.std.proofs.Common.{◌≡◌, ℕ, ◌+◌, ◌<◌, ◌≤◌, ◌⊎◌, inl, inr, Bool, true, false, List, [], ◌∷◌, ◌++◌, length, drop, get_or, Option, Some, None, IsTrue, refl, ap, sym, ◌∙◌, subst, zero, suc, arith, slice_get}
use native.Mathlib.Decide.{dec_lt}
use Rattle.std.proofs.lemmas.Bool.{eqb-true, eq-eqb}
use Rattle.std.proofs.lemmas.Option.{same_Some}
use Rattle.std.proofs.lemmas.List.{drop_all}
use Rattle.trs_defs.proofs.ArgumentLists.{cell}
use Rattle.trs_defs.specs.Tree.{Tree, Trees, var, app, nil, cons}
use Rattle.trs_defs.specs.Variable.{has_var, some_has_var}
use Rattle.trs_defs.specs.Substitution.{apply, apply_all}
use Rattle.trs_defs.specs.Unifier.{IsMostGeneralUnifier}
use Rattle.trs_defs.proofs.VariableLaws.{has_var_same, has_var_cons, has_var_first, has_var_rest}
use Rattle.trs_defs.proofs.Substitutions.{apply_apply, same_instance}
use Rattle.trs_core.specs.SystemLimits.{HasSmallVariables}
use Rattle.trs_core.specs.View.{tree}
use Rattle.loop_find.specs.Bindings.{term_for, instance_or_variable, resolved, Satisfies, IsFree, IsScoped, Unites, Binds, IsAdded, Adds}
use Rattle.loop_find.specs.declared.binding.Binding.{Binding}

-- ---- one more binding

no_value : (t : Tree) → ◌≡◌ {A = Option Tree} None (Some t) → ⊥
no_value t e = cc

still_bound : (bs : List Binding) (b : Binding) (v : ℕ) (t : Tree) → term_for bs v ≡ Some t → term_for (bs ++ b ∷ []) v ≡ Some t
still_bound [] b v t e = absurd (no_value t e)
still_bound (x ∷ bs) b v t e = go (x.variable == v) (λ h. still_bound bs b v t h) e
  where
    go : (c : Bool) → (term_for bs v ≡ Some t → term_for (bs ++ b ∷ []) v ≡ Some t) → (if c then Some (tree x.term.now) else term_for bs v) ≡ Some t
        → (if c then Some (tree x.term.now) else term_for (bs ++ b ∷ []) v) ≡ Some t
    go true rec h = h
    go false rec h = rec h

newly_bound : (bs : List Binding) (b : Binding) (v : ℕ) (t : Tree) → term_for (bs ++ b ∷ []) v ≡ Some t → (term_for bs v ≡ Some t) ⊎ ((b.variable ≡ v) × (tree b.term.now ≡ t))
newly_bound [] b v t e = go (b.variable == v) refl e
  where
    go : (c : Bool) → (b.variable == v) ≡ c → (if c then Some (tree b.term.now) else None) ≡ Some t → (◌≡◌ {A = Option Tree} None (Some t)) ⊎ ((b.variable ≡ v) × (tree b.term.now ≡ t))
    go true k h = inr (eqb-true b.variable v k, same_Some (tree b.term.now) t h)
    go false k h = inl h
newly_bound (x ∷ bs) b v t e = go (x.variable == v) (λ h. newly_bound bs b v t h) e
  where
    go : (c : Bool) → (term_for (bs ++ b ∷ []) v ≡ Some t → (term_for bs v ≡ Some t) ⊎ ((b.variable ≡ v) × (tree b.term.now ≡ t)))
        → (if c then Some (tree x.term.now) else term_for (bs ++ b ∷ []) v) ≡ Some t
        → ((if c then Some (tree x.term.now) else term_for bs v) ≡ Some t) ⊎ ((b.variable ≡ v) × (tree b.term.now ≡ t))
    go true rec h = inl h
    go false rec h = rec h

last_bound : (bs : List Binding) (b : Binding) → term_for bs b.variable ≡ None → term_for (bs ++ b ∷ []) b.variable ≡ Some (tree b.term.now)
last_bound [] b e = let same : (b.variable == b.variable) ≡ true = eq-eqb b.variable b.variable refl in ap (λ c. if c then Some (tree b.term.now) else None) same
last_bound (x ∷ bs) b e = go (x.variable == b.variable) (λ h. last_bound bs b h) e
  where
    go : (c : Bool) → (term_for bs b.variable ≡ None → term_for (bs ++ b ∷ []) b.variable ≡ Some (tree b.term.now))
        → (if c then Some (tree x.term.now) else term_for bs b.variable) ≡ None → (if c then Some (tree x.term.now) else term_for (bs ++ b ∷ []) b.variable) ≡ Some (tree b.term.now)
    go true rec h = absurd (no_value (tree x.term.now) (sym h))
    go false rec h = rec h

pub added : (v : ℕ) (t : Tree) (old new : List Binding) (b : Binding) → b.variable ≡ v → tree b.term.now ≡ t → new ≡ old ++ b ∷ [] → term_for old v ≡ None → IsAdded v t old new
added v t old new b is_v is_t longer none =
    let last : term_for new v ≡ Some t =
    ap (λ z. term_for z v) longer ∙ (ap (term_for (old ++ b ∷ [])) (sym is_v) ∙ (last_bound old b (ap (term_for old) is_v ∙ none) ∙ ap (λ z. Some z) is_t)) in
    record {
      sound = λ σ h. (λ w u e. h w u (ap (λ z. term_for z w) longer ∙ still_bound old b w u e), h v t last);
      complete = λ σ h e w u k. elim (newly_bound old b w u (sym (ap (λ z. term_for z w) longer) ∙ k)) as (λ _. σ w ≡ apply σ u) [
        | inl x ↦ h w u x
        | inr (x, y) ↦ ap σ (sym x ∙ is_v) ∙ (e ∙ ap (apply σ) (sym is_t ∙ y))
      ];
      scoped = λ small h w u k high. elim (newly_bound old b w u (sym (ap (λ z. term_for z w) longer) ∙ k)) as (λ _. HasSmallVariables u) [
        | inl x ↦ h w u x high
        | inr (x, y) ↦ let same : v ≡ w = sym is_v ∙ x in subst HasSmallVariables (sym is_t ∙ y) (small (omega (arith, same, high)))
      ];
    }

-- the variable is bound to the same term
pub added_before : (v : ℕ) (t u : Tree) (bs : List Binding) → term_for bs v ≡ Some u → u ≡ t → IsAdded v t bs bs
added_before v t u bs e same = record {
  sound = λ σ h. (h, h v u e ∙ ap (apply σ) same);
  complete = λ σ h k. h;
  scoped = λ small h. h;
}

-- ---- variables

pub unites_pattern : (s t : Tree) (x : ℕ) (old new : List Binding) → t ≡ var x → HasSmallVariables s → (yes : Bool) → Adds x s old new yes → Binds s t old new yes
unites_pattern s t x old new is small true h =
    subst (λ z. Unites s z old new) (sym is) (record {
      sound = λ σ k. let p = h.sound σ k in (p.0, sym p.1);
      complete = λ σ k e. h.complete σ k (sym e);
      scoped = h.scoped (λ _. small);
    })
unites_pattern s t x old new is small false h = tt

pub unites_part : (s t : Tree) (y : ℕ) (old new : List Binding) → s ≡ var y → HasSmallVariables s → (yes : Bool) → Adds y t old new yes → Binds s t old new yes
unites_part s t y old new is small true h =
    let low : y < 65536 = small y (subst (λ z. IsTrue (has_var y z)) (sym is) (eq-eqb y y refl)) in
    subst (λ z. Unites z t old new) (sym is) (record {
      sound = h.sound;
      complete = h.complete;
      scoped = h.scoped (λ high. absurd (omega (arith, low, high)));
    })
unites_part s t y old new is small false h = tt

-- ---- arguments one after another

pub record StillUnites (s t : Tree) (old now : List Binding) (ss ts : Trees) : Type 0 where
  pub sound : (σ : ℕ → Tree) → Satisfies now σ → apply_all σ ss ≡ apply_all σ ts → Satisfies old σ × (apply σ s ≡ apply σ t)
  pub complete : (σ : ℕ → Tree) → Satisfies old σ → apply σ s ≡ apply σ t → Satisfies now σ × (apply_all σ ss ≡ apply_all σ ts)
  pub scoped : IsScoped old → IsScoped now

same_arguments : (σ : ℕ → Tree) (f g : ℕ) (ss ts : Trees) → app f (apply_all σ ss) ≡ app g (apply_all σ ts) → apply_all σ ss ≡ apply_all σ ts
same_arguments σ f g ss ts e = cc (e)

pub unites_begins : (s t : Tree) (f g : ℕ) (ss ts : Trees) (bs : List Binding) → s ≡ app f ss → t ≡ app g ts → f ≡ g → StillUnites s t bs bs ss ts
unites_begins s t f g ss ts bs is_s is_t same = record {
  sound = λ σ h e. (h, ap (apply σ) is_s ∙ (ap (app f) e ∙ (ap (λ k. app k (apply_all σ ts)) same ∙ sym (ap (apply σ) is_t))));
  complete = λ σ h e. (h, same_arguments σ f g ss ts (sym (ap (apply σ) is_s) ∙ (e ∙ ap (apply σ) is_t)));
  scoped = λ h. h;
}

first_same : (σ : ℕ → Tree) (s t : Tree) (ss ts : Trees) → cons (apply σ s) (apply_all σ ss) ≡ cons (apply σ t) (apply_all σ ts) → (apply σ s ≡ apply σ t) × (apply_all σ ss ≡ apply_all σ ts)
first_same σ s t ss ts e = (cc (e), cc (e))

pub unites_goes_on : (s t x y : Tree) (old now new : List Binding) (ss ts ss2 ts2 : Trees) → ss ≡ cons x ss2 → ts ≡ cons y ts2 → StillUnites s t old now ss ts → Unites x y now new → StillUnites s t old new ss2 ts2
unites_goes_on s t x y old now new ss ts ss2 ts2 is_ss is_ts h k = record {
  sound = λ σ sat e.
      let p = k.sound σ sat in
      let first = p.1 in
      let all : apply_all σ (cons x ss2) ≡ apply_all σ (cons y ts2) = cc (first, e) in
      h.sound σ p.0 (ap (apply_all σ) is_ss ∙ (all ∙ sym (ap (apply_all σ) is_ts)));
  complete = λ σ sat e.
      let p = h.complete σ sat e in
      let parts = first_same σ x y ss2 ts2 (sym (ap (apply_all σ) is_ss) ∙ (p.1 ∙ ap (apply_all σ) is_ts)) in
      (k.complete σ p.0 parts.0, parts.1);
  scoped = λ o. k.scoped (h.scoped o);
}

pub unites_ends : (s t : Tree) (old new : List Binding) (ss ts : Trees) → ss ≡ nil → ts ≡ nil → StillUnites s t old new ss ts → Unites s t old new
unites_ends s t old new ss ts is_ss is_ts h = record {
  sound = λ σ sat. h.sound σ sat (ap (apply_all σ) is_ss ∙ sym (ap (apply_all σ) is_ts));
  complete = λ σ sat e. (h.complete σ sat e).0;
  scoped = h.scoped;
}

-- ---- going through the bindings twice

module _ (bs : List Binding) (settled : (v : ℕ) (t : Tree) → term_for bs v ≡ Some t → v < 65536 → IsFree bs t) (scoped : IsScoped bs) where
  free_still : (n : ℕ) (t : Tree) (v : ℕ) → IsFree bs t → IsTrue (has_var v t) → resolved bs n v ≡ var v
  free_still zero t v free h = refl
  free_still (suc n) t v free h = ap (λ o. instance_or_variable o (resolved bs n) v) (free v h)

  -- of a variable of what stands for another one the second step changes nothing
  once_enough : (v : ℕ) (t : Tree) → term_for bs v ≡ Some t → (w : ℕ) → IsTrue (has_var w t) → resolved bs 2 w ≡ resolved bs 1 w
  once_enough v t e w h = elim (dec_lt v 65536) as (λ _. resolved bs 2 w ≡ resolved bs 1 w) [
    | yes low ↦ let free = settled v t e low in free_still 2 t w free h ∙ sym (free_still 1 t w free h)
    | no high ↦ go (term_for bs w) refl (scoped v t e (omega (arith, high)) w h)
  ]
    where
      go : (o : Option Tree) → term_for bs w ≡ o → w < 65536 → instance_or_variable (term_for bs w) (resolved bs 1) w ≡ instance_or_variable (term_for bs w) (resolved bs 0) w
      go None k low = ap (λ z. instance_or_variable z (resolved bs 1) w) k ∙ sym (ap (λ z. instance_or_variable z (resolved bs 0) w) k)
      go (Some u) k low =
          let free = settled w u k low in
          ap (λ z. instance_or_variable z (resolved bs 1) w) k
          ∙ (same_instance (resolved bs 1) (resolved bs 0) u (λ x i. free_still 1 u x free i) ∙ sym (ap (λ z. instance_or_variable z (resolved bs 0) w) k))

  twice_satisfies : Satisfies bs (resolved bs 2)
  twice_satisfies v t e =
      ap (λ o. instance_or_variable o (resolved bs 1) v) e
      ∙ sym (same_instance (resolved bs 2) (resolved bs 1) t (λ w h. once_enough v t e w h))

instance_of_resolved : (bs : List Binding) (σ : ℕ → Tree) → Satisfies bs σ → (n v : ℕ) → σ v ≡ apply σ (resolved bs n v)
instance_of_resolved bs σ sat zero v = refl
instance_of_resolved bs σ sat (suc n) v = go (λ w. instance_of_resolved bs σ sat n w) (term_for bs v) refl
  where
    go : ((w : ℕ) → σ w ≡ apply σ (resolved bs n w)) → (o : Option Tree) → term_for bs v ≡ o → σ v ≡ apply σ (instance_or_variable (term_for bs v) (resolved bs n) v)
    go rec None k = sym (ap (λ z. apply σ (instance_or_variable z (resolved bs n) v)) k)
    go rec (Some t) k =
        sat v t k
        ∙ (same_instance σ (λ w. apply σ (resolved bs n w)) t (λ w h. rec w)
        ∙ (sym (apply_apply σ (resolved bs n) t) ∙ sym (ap (λ z. apply σ (instance_or_variable z (resolved bs n) v)) k)))

pub quick_unifier : (s t : Tree) (bs none : List Binding) → none ≡ [] → Unites s t none bs → ((v : ℕ) (u : Tree) → term_for bs v ≡ Some u → v < 65536 → IsFree bs u)
    → IsMostGeneralUnifier s t (resolved bs 2)
quick_unifier s t bs none empty h settled =
    let k : Unites s t [] bs = subst (λ z. Unites s t z bs) empty h in
    let nothing : (σ : ℕ → Tree) → Satisfies [] σ = λ σ v u e. absurd (no_value u e) in
    let scoped : IsScoped bs = k.scoped (λ v u e high. absurd (no_value u e)) in
    record {
      unifies = (k.sound (resolved bs 2) (twice_satisfies bs settled scoped)).1;
      most_general = λ σ e. (σ, instance_of_resolved bs σ (k.complete σ (nothing σ) e) 2);
    }

-- ---- whether bindings are settled

pub record IsFreeSoFar (bs : List Binding) (t : Tree) (rest : Trees) : Type 0 where
  pub once : ((v : ℕ) → IsTrue (some_has_var v rest) → term_for bs v ≡ None) → IsFree bs t

pub free_begins : (bs : List Binding) (t : Tree) (f : ℕ) (ts : Trees) → t ≡ app f ts → IsFreeSoFar bs t ts
free_begins bs t f ts is = record { once = λ h v k. h v (subst (λ z. IsTrue (has_var v z)) is k) }

pub free_goes_on : (bs : List Binding) (t x : Tree) (rest rest2 : Trees) → rest ≡ cons x rest2 → IsFreeSoFar bs t rest → IsFree bs x → IsFreeSoFar bs t rest2
free_goes_on bs t x rest rest2 is h free = record {
  once = λ k. h.once (λ v i. elim (has_var_cons v x rest2 (subst (λ z. IsTrue (some_has_var v z)) is i)) as (λ _. term_for bs v ≡ None) [ inl a ↦ free v a | inr a ↦ k v a ]);
}

pub free_ends : (bs : List Binding) (t : Tree) (rest : Trees) → rest ≡ nil → IsFreeSoFar bs t rest → IsFree bs t
free_ends bs t rest none h = h.once (λ v k. let e : IsTrue (some_has_var v nil) = subst (λ z. IsTrue (some_has_var v z)) none k in absurd cc)

pub free_variable : (bs : List Binding) (t : Tree) (n : ℕ) → t ≡ var n → term_for bs n ≡ None → IsFree bs t
free_variable bs t n is none v h = let same : n ≡ v = has_var_same v n (subst (λ z. IsTrue (has_var v z)) is h) in ap (term_for bs) (sym same) ∙ none

bound_somewhere : (bs : List Binding) (v : ℕ) (t : Tree) → term_for bs v ≡ Some t → (i : ℕ) × (b : Binding) × (slice_get bs i ≡ Some b) × (b.variable ≡ v) × (tree b.term.now ≡ t)
bound_somewhere [] v t e = absurd (no_value t e)
bound_somewhere (x ∷ bs) v t e = go (λ h. bound_somewhere bs v t h) (x.variable == v) refl e
  where
    go : (term_for bs v ≡ Some t → (i : ℕ) × (b : Binding) × (slice_get bs i ≡ Some b) × (b.variable ≡ v) × (tree b.term.now ≡ t))
        → (c : Bool) → (x.variable == v) ≡ c → (if c then Some (tree x.term.now) else term_for bs v) ≡ Some t
        → (i : ℕ) × (b : Binding) × (slice_get (x ∷ bs) i ≡ Some b) × (b.variable ≡ v) × (tree b.term.now ≡ t)
    go rec true k h = (zero, x, refl, eqb-true x.variable v k, same_Some (tree x.term.now) t h)
    go rec false k h = let (i, b, at, is_v, is_t) = rec h in (suc i, b, at, is_v, is_t)

-- each binding so far is settled
pub record AreSettledTo (bs : List Binding) (n : ℕ) : Type 0 where
  pub each : (i : ℕ) (b : Binding) → i < n → slice_get bs i ≡ Some b → b.variable < 65536 → IsFree bs (tree b.term.now)

pub settled_none : (bs : List Binding) → AreSettledTo bs 0
settled_none bs = record { each = λ i b h. absurd (omega (arith, h)) }

pub settled_more : (bs : List Binding) (n : ℕ) (x : Binding) → slice_get bs n ≡ Some x → (x.variable < 65536 → IsFree bs (tree x.term.now)) → AreSettledTo bs n → AreSettledTo bs (n + 1)
settled_more bs n x at h k = record {
  each = λ i b low e small. elim (dec_lt i n) as (λ _. IsFree bs (tree b.term.now)) [
    | yes below ↦ k.each i b below e small
    | no above ↦
        let place : i ≡ n = omega (arith, low, above) in
        let same : x ≡ b = same_Some x b (sym at ∙ (ap (slice_get bs) (sym place) ∙ e)) in
        subst (λ (z : Binding). IsFree bs (tree z.term.now)) same (h (subst (λ (z : Binding). z.variable < 65536) (sym same) small))
  ];
}

settled_within : (bs : List Binding) (i : ℕ) (b : Binding) → slice_get bs i ≡ Some b → i < length bs
settled_within [] i b e = absurd cc
settled_within (x ∷ bs) zero b e = omega arith
settled_within (x ∷ bs) (suc i) b e = omega (arith, settled_within bs i b e)

pub settled_all : (bs : List Binding) (n : ℕ) → length bs ≤ n → AreSettledTo bs n → (v : ℕ) (t : Tree) → term_for bs v ≡ Some t → v < 65536 → IsFree bs t
settled_all bs n past h v t e low =
    let (i, b, at, is_v, is_t) = bound_somewhere bs v t e in
    let within = settled_within bs i b at in
    subst (IsFree bs) is_t (h.each i b (omega (arith, within, past)) at (omega (arith, is_v, low)))

-- ---- a look-up

pub found_here : (bs : List Binding) (i : ℕ) (b : Binding) (v : ℕ) → i < length bs → b ≡ get_or bs i b → b.variable ≡ v → term_for (drop i bs) v ≡ term_for bs v → Some (tree b.term.now) ≡ term_for bs v
found_here bs i b v h e is same =
    let here : term_for (b ∷ drop (i + 1) bs) v ≡ Some (tree b.term.now) = ap (λ c. if c then Some (tree b.term.now) else term_for (drop (i + 1) bs) v) (eq-eqb b.variable v is) in
    sym (sym same ∙ (ap (λ z. term_for z v) (cell bs i b h e) ∙ here))

pub found_later : (bs : List Binding) (i : ℕ) (b : Binding) (v : ℕ) → i < length bs → b ≡ get_or bs i b → (b.variable ≡ v → ⊥) → term_for (drop i bs) v ≡ term_for bs v → term_for (drop (i + 1) bs) v ≡ term_for bs v
found_later bs i b v h e other same = go (b.variable == v) refl ∙ (sym (ap (λ z. term_for z v) (cell bs i b h e)) ∙ same)
  where
    go : (c : Bool) → (b.variable == v) ≡ c → term_for (drop (i + 1) bs) v ≡ (if b.variable == v then Some (tree b.term.now) else term_for (drop (i + 1) bs) v)
    go true k = absurd (other (eqb-true b.variable v k))
    go false k = sym (ap (λ c. if c then Some (tree b.term.now) else term_for (drop (i + 1) bs) v) k)

pub found_nowhere : (bs : List Binding) (i v : ℕ) → length bs ≤ i → term_for (drop i bs) v ≡ term_for bs v → None ≡ term_for bs v
found_nowhere bs i v past same = sym (ap (λ z. term_for z v) (drop_all i bs past)) ∙ same

pub next_resolved : (bs : List Binding) (steps v : ℕ) (o : Option (Bor Term)) → option_map (λ t. tree t.now) o ≡ term_for bs v
    → IfSome o (λ u. (n : ℕ) → steps ≡ n + 1 → resolved bs steps v ≡ apply (resolved bs n) (tree u.now))
next_resolved bs steps v None e = tt
next_resolved bs steps v (Some u) e = λ n s.
    let k : steps ≡ suc n = omega (arith, s) in
    ap (λ m. resolved bs m v) k ∙ ap (λ o. instance_or_variable o (resolved bs n) v) (sym e)

-- the look-up found this term
pub found_term : (bs : List Binding) (v : ℕ) (o : Option (Bor Term)) (u : Bor Term) → option_map (λ t. tree t.now) o ≡ term_for bs v → o ≡ Some u → term_for bs v ≡ Some (tree u.now)
found_term bs v o u e is = sym e ∙ ap (option_map (λ t. tree t.now)) is

pub found_none : (bs : List Binding) (v : ℕ) (o : Option (Bor Term)) → option_map (λ t. tree t.now) o ≡ term_for bs v → o ≡ None → term_for bs v ≡ None
found_none bs v o e is = sym e ∙ ap (option_map (λ t. tree t.now)) is

pub adds_before : (v : ℕ) (t u : Tree) (bs : List Binding) (yes : Bool) → term_for bs v ≡ Some u → (IsTrue yes → u ≡ t) → Adds v t bs bs yes
adds_before v t u bs true e h = added_before v t u bs e (h refl)
adds_before v t u bs false e h = tt

pub unites_part_ok : (s t : Tree) (y : ℕ) (old new : List Binding) → s ≡ var y → HasSmallVariables s → (r : Result Bool OutOfMemory) → IfOk r (Adds y t old new) → IfOk r (Binds s t old new)
unites_part_ok s t y old new is small (Ok b) h = unites_part s t y old new is small b h
unites_part_ok s t y old new is small (Err e) h = tt

pub unites_pattern_ok : (s t : Tree) (x : ℕ) (old new : List Binding) → t ≡ var x → HasSmallVariables s → (r : Result Bool OutOfMemory) → IfOk r (Adds x s old new) → IfOk r (Binds s t old new)
unites_pattern_ok s t x old new is small (Ok b) h = unites_pattern s t x old new is small b h
unites_pattern_ok s t x old new is small (Err e) h = tt

item_variable : (ts : List Term) (i : ℕ) (x : Term) → i < length ts → x ≡ get_or ts i x → (v : ℕ) → IsTrue (has_var v (tree x)) → IsTrue (some_has_var v (forest ts))
item_variable [] i x h e v k = absurd (omega (arith, h))
item_variable (u ∷ ts) zero x h e v k = has_var_first v (tree u) (forest ts) (subst (λ z. IsTrue (has_var v (tree z))) e k)
item_variable (u ∷ ts) (suc i) x h e v k = has_var_rest v (tree u) (forest ts) (item_variable ts i x (omega (arith, h)) e v k)

pub argument_variable : (ts : List Term) (i f : ℕ) (t : Tree) (x : Term) → t ≡ app f (forest ts) → i < length ts → x ≡ get_or ts i x → (v : ℕ) → IsTrue (has_var v (tree x)) → IsTrue (has_var v t)
argument_variable ts i f t x is h e v k = subst (λ z. IsTrue (has_var v z)) (sym is) (item_variable ts i x h e v k)
