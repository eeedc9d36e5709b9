-- The variables of an instance, and instances of a term with another subterm at a position.
use Rattle.std.specs.Prelude.{◌≡◌, ℕ, ◌⊎◌, List, [], ◌∷◌, Some, IsTrue, slice_get, slice_set}
use Rattle.std.proofs.Common.{zero, suc, inl, inr, sym, ◌∙◌, ap, subst, refl}
use Rattle.trs_defs.specs.Tree.{Tree, Trees, var, app, nil, cons, trees, items, trees_items}
use Rattle.trs_defs.specs.Variable.{has_var, some_has_var}
use Rattle.trs_defs.specs.Substitution.{apply, apply_all}
use Rattle.trs_defs.specs.Position.{argument_at, with_argument, replaced_at}
use Rattle.trs_defs.proofs.VariableLaws.{has_var_same, has_var_self, has_var_cons, has_var_first, has_var_rest}
use Rattle.trs_defs.proofs.Positions.{IsReplacedInside, replaced_inside}

module _ (σ : ℕ → Tree) (x : ℕ) where
  mutual
    -- a variable of a variable's term is one of the instance
    pub into_instance : (t : Tree) (v : ℕ) → IsTrue (has_var v t) → IsTrue (has_var x (σ v)) → IsTrue (has_var x (apply σ t))
    into_instance (var n) v h k = let same : n ≡ v = has_var_same v n h in subst (λ z. IsTrue (has_var x (σ z))) (sym same) k
    into_instance (app f ts) v h k = into_instances ts v h k

    into_instances : (ts : Trees) (v : ℕ) → IsTrue (some_has_var v ts) → IsTrue (has_var x (σ v)) → IsTrue (some_has_var x (apply_all σ ts))
    into_instances nil v h k = absurd cc
    into_instances (cons t ts) v h k = elim (has_var_cons v t ts h) as (λ _. IsTrue (some_has_var x (apply_all σ (cons t ts)))) [
      | inl l ↦ has_var_first x (apply σ t) (apply_all σ ts) (into_instance t v l k)
      | inr l ↦ has_var_rest x (apply σ t) (apply_all σ ts) (into_instances ts v l k)
    ]

  mutual
    -- a variable of the instance is one of some variable's term
    pub of_instance : (t : Tree) → IsTrue (has_var x (apply σ t)) → (v : ℕ) × IsTrue (has_var v t) × IsTrue (has_var x (σ v))
    of_instance (var n) h = (n, has_var_self n, h)
    of_instance (app f ts) h = of_instances ts h

    of_instances : (ts : Trees) → IsTrue (some_has_var x (apply_all σ ts)) → (v : ℕ) × IsTrue (some_has_var v ts) × IsTrue (has_var x (σ v))
    of_instances nil h = absurd cc
    of_instances (cons t ts) h = elim (has_var_cons x (apply σ t) (apply_all σ ts) h) [
      | inl l ↦ let (v, there, k) = of_instance t l in (v, has_var_first v t ts there, k)
      | inr l ↦ let (v, there, k) = of_instances ts l in (v, has_var_rest v t ts there, k)
    ]

-- a variable of the list with another item is one of the list, or comes from the item
set_variable : (P : Type 0) (ts : Trees) (i : ℕ) (a b : Tree) (v : ℕ) → slice_get (items ts) i ≡ Some a → (IsTrue (has_var v b) → IsTrue (has_var v a) ⊎ P)
    → IsTrue (some_has_var v (trees (slice_set (items ts) i b))) → IsTrue (some_has_var v ts) ⊎ P
set_variable P nil i a b v e below h = absurd cc
set_variable P (cons t ts) zero a b v e below h =
    let same : t ≡ a = cc in
    elim (has_var_cons v b (trees (items ts)) h) as (λ _. IsTrue (some_has_var v (cons t ts)) ⊎ P) [
      | inl k ↦ elim (below k) as (λ _. IsTrue (some_has_var v (cons t ts)) ⊎ P) [
        | inl l ↦ inl (has_var_first v t ts (subst (λ z. IsTrue (has_var v z)) (sym same) l))
        | inr p ↦ inr p
      ]
      | inr k ↦ inl (has_var_rest v t ts (subst (λ z. IsTrue (some_has_var v z)) (trees_items ts) k))
    ]
set_variable P (cons t ts) (suc i) a b v e below h =
    elim (has_var_cons v t (trees (slice_set (items ts) i b)) h) as (λ _. IsTrue (some_has_var v (cons t ts)) ⊎ P) [
      | inl k ↦ inl (has_var_first v t ts k)
      | inr k ↦ elim (set_variable P ts i a b v e below k) as (λ _. IsTrue (some_has_var v (cons t ts)) ⊎ P) [
        | inl l ↦ inl (has_var_rest v t ts l)
        | inr p ↦ inr p
      ]
    ]

with_variable : (P : Type 0) (t : Tree) (place : ℕ) (a b : Tree) (v : ℕ) → argument_at t place ≡ Some a → (IsTrue (has_var v b) → IsTrue (has_var v a) ⊎ P)
    → IsTrue (has_var v (with_argument t place b)) → IsTrue (has_var v t) ⊎ P
with_variable P (var n) place a b v e below h = absurd cc
with_variable P (app f ts) zero a b v e below h = absurd cc
with_variable P (app f ts) (suc i) a b v e below h = set_variable P ts i a b v e below h

-- a variable of the term with another subterm is one of the term, or of that subterm
pub replaced_variable : (p : List ℕ) (t new u : Tree) (v : ℕ) → replaced_at p t new ≡ Some u → IsTrue (has_var v u) → IsTrue (has_var v t) ⊎ IsTrue (has_var v new)
replaced_variable [] t new u v e h = let same : u ≡ new = cc in inr (subst (λ z. IsTrue (has_var v z)) same h)
replaced_variable (place ∷ p) t new u v e h =
    let r : IsReplacedInside place p t new u = replaced_inside place p t new u e in
    with_variable (IsTrue (has_var v new)) t place r.argument r.changed v r.there (λ k. replaced_variable p r.argument new r.changed v r.below k)
    (subst (λ z. IsTrue (has_var v z)) (sym r.whole) h)

-- Two substitutions that give a term one instance, and two others one instance, do so after these are put into the term.
module _ (σ τ : ℕ → Tree) where
  set_instance : (ts : Trees) (i : ℕ) (b c : Tree) → apply_all σ ts ≡ apply_all τ ts → apply σ b ≡ apply τ c
      → apply_all σ (trees (slice_set (items ts) i b)) ≡ apply_all τ (trees (slice_set (items ts) i c))
  set_instance nil i b c e h = refl
  set_instance (cons t ts) zero b c e h =
      let same : apply_all σ ts ≡ apply_all τ ts = cc in
      let rest : apply_all σ (trees (items ts)) ≡ apply_all τ (trees (items ts)) = ap (apply_all σ) (trees_items ts) ∙ (same ∙ sym (ap (apply_all τ) (trees_items ts))) in
      cc (h, rest)
  set_instance (cons t ts) (suc i) b c e h =
      let first : apply σ t ≡ apply τ t = cc in
      let same : apply_all σ ts ≡ apply_all τ ts = cc in
      let rest : apply_all σ (trees (slice_set (items ts) i b)) ≡ apply_all τ (trees (slice_set (items ts) i c)) = set_instance ts i b c same h in
      cc (first, rest)

  with_instance : (t : Tree) (place : ℕ) (b c : Tree) → apply σ t ≡ apply τ t → apply σ b ≡ apply τ c → apply σ (with_argument t place b) ≡ apply τ (with_argument t place c)
  with_instance (var n) place b c e h = e
  with_instance (app f ts) zero b c e h = e
  with_instance (app f ts) (suc i) b c e h = let same : apply_all σ ts ≡ apply_all τ ts = cc (e) in ap (app f) (set_instance ts i b c same h)

  item_instance : (ts : Trees) (i : ℕ) (a : Tree) → slice_get (items ts) i ≡ Some a → apply_all σ ts ≡ apply_all τ ts → apply σ a ≡ apply τ a
  item_instance nil i a e h = absurd cc
  item_instance (cons t ts) zero a e h = let same : t ≡ a = cc (e) in let first : apply σ t ≡ apply τ t = cc (h) in subst (λ z. apply σ z ≡ apply τ z) same first
  item_instance (cons t ts) (suc i) a e h = let rest : apply_all σ ts ≡ apply_all τ ts = cc (h) in item_instance ts i a e rest

  argument_instance : (t : Tree) (place : ℕ) (a : Tree) → argument_at t place ≡ Some a → apply σ t ≡ apply τ t → apply σ a ≡ apply τ a
  argument_instance (var n) place a e h = absurd cc
  argument_instance (app f ts) zero a e h = absurd cc
  argument_instance (app f ts) (suc i) a e h = let same : apply_all σ ts ≡ apply_all τ ts = cc (h) in item_instance ts i a e same

  pub replaced_instance : (p : List ℕ) (t b c u w : Tree) → replaced_at p t b ≡ Some u → replaced_at p t c ≡ Some w → apply σ t ≡ apply τ t → apply σ b ≡ apply τ c
      → apply σ u ≡ apply τ w
  replaced_instance [] t b c u w e k h l = let x : b ≡ u = cc (e) in let y : c ≡ w = cc (k) in sym (ap (apply σ) x) ∙ (l ∙ ap (apply τ) y)
  replaced_instance (place ∷ p) t b c u w e k h l =
      let r : IsReplacedInside place p t b u = replaced_inside place p t b u e in
      let s : IsReplacedInside place p t c w = replaced_inside place p t c w k in
      let there : Some r.argument ≡ Some s.argument = sym r.there ∙ s.there in
      let same : r.argument ≡ s.argument = cc (there) in
      let below : replaced_at p r.argument c ≡ Some s.changed = subst (λ z. replaced_at p z c ≡ Some s.changed) (sym same) s.below in
      let inner : apply σ r.changed ≡ apply τ s.changed = replaced_instance p r.argument b c r.changed s.changed r.below below (argument_instance t place r.argument r.there h) l in
      sym (ap (apply σ) r.whole) ∙ (with_instance t place r.changed s.changed h inner ∙ ap (apply τ) s.whole)
