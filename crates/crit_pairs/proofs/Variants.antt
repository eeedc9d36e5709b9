-- Terms that differ in their variables alone, and whose variables are numbered in order of first occurrence, are equal.
use Rattle.std.specs.Prelude.{◌≡◌, ◌≢◌, ℕ, ◌⊎◌, Bool, true, false, ◌==◌, if◌then◌else◌, List, [], ◌∷◌, ◌++◌, Some, IsTrue, slice_get}
use Rattle.std.proofs.Common.{zero, suc, inl, inr, sym, ◌∙◌, ap, subst, refl, arith}
use Rattle.std.proofs.Math.Decide.{ℕ_discrete}
use Rattle.trs_defs.specs.Tree.{Tree, Trees, var, app, nil, cons}
use Rattle.trs_defs.specs.Variable.{has_var, some_has_var, is_listed, with_variables, with_variables_of_all, variables_of}
use Rattle.trs_defs.specs.Substitution.{apply, apply_all}
use Rattle.trs_defs.proofs.VariableLaws.{has_var_self, has_var_first, has_var_rest}
use Rattle.trs_defs.proofs.ListItems.{item_of_more}
use Rattle.trs_unify.proofs.ListedVariables.{listed_at, listed_variable}
use Rattle.crit_pairs.specs.PeakList.{IsCount}

-- the terms are equal, but for variables that are related
mutual
  pub data Paired (R : ℕ → ℕ → Type 0) : Tree → Tree → Type 0 where
    paired_variables : {v w : ℕ} → R v w → Paired R (var v) (var w)
    paired_symbols : {f : ℕ} {ts us : Trees} → AllPaired R ts us → Paired R (app f ts) (app f us)

  pub data AllPaired (R : ℕ → ℕ → Type 0) : Trees → Trees → Type 0 where
    none_paired : AllPaired R nil nil
    one_paired : {t u : Tree} {ts us : Trees} → Paired R t u → AllPaired R ts us → AllPaired R (cons t ts) (cons u us)

-- Each is an instance of the other, up to the names of variables: P holds of the variables of the first, and Q of those of the
-- second.
abbrev pub Swaps : (ℕ → Tree) → (ℕ → Tree) → (ℕ → ℕ) → (ℕ → ℕ) → (ℕ → Type 0) → (ℕ → Type 0) → ℕ → ℕ → Type 0
Swaps α β m n P Q v w = P v × Q w × (α v ≡ var (n w)) × (β w ≡ var (m v))

module _ (α β : ℕ → Tree) (m n : ℕ → ℕ) (P Q : ℕ → Type 0) where
  mutual
    pub pair : (t u : Tree) → ((v : ℕ) → IsTrue (has_var v t) → P v) → ((w : ℕ) → IsTrue (has_var w u) → Q w)
        → apply α t ≡ apply (λ w. var (n w)) u → apply β u ≡ apply (λ v. var (m v)) t → Paired (Swaps α β m n P Q) t u
    pair (var v) (var w) p q e k = paired_variables (p v (has_var_self v), q w (has_var_self w), e, k)
    pair (var v) (app g us) p q e k = absurd cc
    pair (app f ts) (var w) p q e k = absurd cc
    pair (app f ts) (app g us) p q e k =
        let same : f ≡ g = cc (e) in
        let first : apply_all α ts ≡ apply_all (λ w. var (n w)) us = cc (e) in
        let second : apply_all β us ≡ apply_all (λ v. var (m v)) ts = cc (k) in
        subst (λ h. Paired (Swaps α β m n P Q) (app f ts) (app h us)) same (paired_symbols (pair_all ts us p q first second))

    pair_all : (ts us : Trees) → ((v : ℕ) → IsTrue (some_has_var v ts) → P v) → ((w : ℕ) → IsTrue (some_has_var w us) → Q w)
        → apply_all α ts ≡ apply_all (λ w. var (n w)) us → apply_all β us ≡ apply_all (λ v. var (m v)) ts → AllPaired (Swaps α β m n P Q) ts us
    pair_all nil nil p q e k = none_paired
    pair_all nil (cons u us) p q e k = absurd cc
    pair_all (cons t ts) nil p q e k = absurd cc
    pair_all (cons t ts) (cons u us) p q e k =
        let e1 : apply α t ≡ apply (λ w. var (n w)) u = cc (e) in
        let e2 : apply_all α ts ≡ apply_all (λ w. var (n w)) us = cc (e) in
        let k1 : apply β u ≡ apply (λ v. var (m v)) t = cc (k) in
        let k2 : apply_all β us ≡ apply_all (λ v. var (m v)) ts = cc (k) in
        one_paired (pair t u (λ v h. p v (has_var_first v t ts h)) (λ w h. q w (has_var_first w u us h)) e1 k1)
        (pair_all ts us (λ v h. p v (has_var_rest v t ts h)) (λ w h. q w (has_var_rest w u us h)) e2 k2)

module _ (R : ℕ → ℕ → Type 0) where
  -- related variables are equal
  module _ (equal : (v w : ℕ) → R v w → v ≡ w) where
    mutual
      pub paired_equal : {t u : Tree} → Paired R t u → t ≡ u
      paired_equal (paired_variables {v = v} {w = w} r) = ap var (equal v w r)
      paired_equal (paired_symbols {f = f} h) = ap (app f) (all_paired_equal h)

      all_paired_equal : {ts us : Trees} → AllPaired R ts us → ts ≡ us
      all_paired_equal none_paired = refl
      all_paired_equal (one_paired h hs) = cc (paired_equal h, all_paired_equal hs)

  -- the items of two lists are related
  abbrev pub AreRelated : List ℕ → List ℕ → Type 0
  AreRelated [] [] = Unit {0}
  AreRelated [] (w ∷ ws) = ⊥
  AreRelated (v ∷ vs) [] = ⊥
  AreRelated (v ∷ vs) (w ∷ ws) = R v w × AreRelated vs ws

  related_more : (vs ws : List ℕ) (v w : ℕ) → AreRelated vs ws → R v w → AreRelated (vs ++ v ∷ []) (ws ++ w ∷ [])
  related_more [] [] v w h r = (r, tt)
  related_more [] (y ∷ ws) v w h r = absurd h
  related_more (x ∷ vs) [] v w h r = absurd h
  related_more (x ∷ vs) (y ∷ ws) v w h r = (h.0, related_more vs ws v w h.1 r)

  pub related_item : (vs ws : List ℕ) (i v : ℕ) → AreRelated vs ws → slice_get vs i ≡ Some v → (w : ℕ) × (slice_get ws i ≡ Some w) × R v w
  related_item [] [] i v h e = absurd cc
  related_item [] (w ∷ ws) i v h e = absurd h
  related_item (x ∷ vs) [] i v h e = absurd h
  related_item (x ∷ vs) (y ∷ ws) zero v h e = let same : x ≡ v = cc (e) in (y, refl, subst (λ z. R z y) same h.0)
  related_item (x ∷ vs) (y ∷ ws) (suc i) v h e = related_item vs ws i v h.1 e

  -- each variable is related to one, and one to it
  module _ (one : (v w x : ℕ) → R v w → R v x → w ≡ x) (other : (v x w : ℕ) → R v w → R x w → v ≡ x) where
    pub same_test : (x v y w : ℕ) → R x y → R v w → (x == v) ≡ (y == w)
    same_test x v y w r s = elim (ℕ_discrete x v) as (λ _. (x == v) ≡ (y == w)) [
      | yes same ↦
          let k : y ≡ w = one v y w (subst (λ z. R z y) same r) s in
          let a : (x == v) ≡ true = grind arith in
          let b : (y == w) ≡ true = grind arith in
          a ∙ sym b
      | no ne ↦
          let apart : y ≢ w = (λ k. ne (other x v w (subst (λ z. R x z) k r) s)) in
          let a : (x == v) ≡ false = grind arith in
          let b : (y == w) ≡ false = grind arith in
          a ∙ sym b
    ]

    both_listed : (vs ws : List ℕ) (v w : ℕ) → AreRelated vs ws → R v w → is_listed v vs ≡ is_listed w ws
    both_listed [] [] v w h r = refl
    both_listed [] (y ∷ ws) v w h r = absurd h
    both_listed (x ∷ vs) [] v w h r = absurd h
    both_listed (x ∷ vs) (y ∷ ws) v w h r =
        let first : (x == v) ≡ (y == w) = same_test x v y w h.0 r in
        let rest : is_listed v vs ≡ is_listed w ws = both_listed vs ws v w h.1 r in
        cc (first, rest)

    related_next : (a b : Bool) (vs ws : List ℕ) (v w : ℕ) → a ≡ b → AreRelated vs ws → R v w
        → AreRelated (if a then vs else vs ++ v ∷ []) (if b then ws else ws ++ w ∷ [])
    related_next true true vs ws v w e h r = h
    related_next true false vs ws v w e h r = absurd cc
    related_next false true vs ws v w e h r = absurd cc
    related_next false false vs ws v w e h r = related_more vs ws v w h r

    mutual
      pub related_variables : {t u : Tree} → Paired R t u → (vs ws : List ℕ) → AreRelated vs ws → AreRelated (with_variables vs t) (with_variables ws u)
      related_variables (paired_variables {v = v} {w = w} r) vs ws h = related_next (is_listed v vs) (is_listed w ws) vs ws v w (both_listed vs ws v w h r) h r
      related_variables (paired_symbols ps) vs ws h = all_related_variables ps vs ws h

      all_related_variables : {ts us : Trees} → AllPaired R ts us → (vs ws : List ℕ) → AreRelated vs ws → AreRelated (with_variables_of_all vs ts) (with_variables_of_all ws us)
      all_related_variables none_paired vs ws h = h
      all_related_variables (one_paired {t = t} {u = u} p ps) vs ws h = all_related_variables ps (with_variables vs t) (with_variables ws u) (related_variables p vs ws h)

    -- where both number their variables in order of first occurrence, each is related to itself
    pub numbered_alike : (t u : Tree) → Paired R t u → IsCount 0 (variables_of t) → IsCount 0 (variables_of u) → (i v : ℕ) → slice_get (variables_of t) i ≡ Some v → R v v
    numbered_alike t u p first second i v e =
        let (w, at, r) = related_item (variables_of t) (variables_of u) i v (related_variables p [] [] tt) e in
        let same : w ≡ v = second i w at ∙ sym (first i v e) in
        subst (λ z. R v z) same r

-- a variable of the term is among its variables
pub among_variables : (v : ℕ) (t : Tree) → IsTrue (has_var v t) → (i : ℕ) × (slice_get (variables_of t) i ≡ Some v)
among_variables v t h = listed_at v (variables_of t) (listed_variable v t [] h)

-- what is added to a list of variables occurs in the term
occurs_next : (b : Bool) (i v n : ℕ) (known : List ℕ) → slice_get (if b then known else known ++ n ∷ []) i ≡ Some v → (slice_get known i ≡ Some v) ⊎ IsTrue (has_var v (var n))
occurs_next true i v n known e = inl e
occurs_next false i v n known e = elim (item_of_more known n v i e) as (λ _. (slice_get known i ≡ Some v) ⊎ IsTrue (has_var v (var n))) [
  | inl h ↦ inl h
  | inr h ↦ inr (subst (λ z. IsTrue (has_var z (var n))) (sym h.1) (has_var_self n))
]

mutual
  occurs_added : (i v : ℕ) (t : Tree) (known : List ℕ) → slice_get (with_variables known t) i ≡ Some v → (slice_get known i ≡ Some v) ⊎ IsTrue (has_var v t)
  occurs_added i v (var n) known e = occurs_next (is_listed n known) i v n known e
  occurs_added i v (app f ts) known e = occurs_added_in_all i v ts known e

  occurs_added_in_all : (i v : ℕ) (ts : Trees) (known : List ℕ) → slice_get (with_variables_of_all known ts) i ≡ Some v → (slice_get known i ≡ Some v) ⊎ IsTrue (some_has_var v ts)
  occurs_added_in_all i v nil known e = inl e
  occurs_added_in_all i v (cons t ts) known e =
      elim (occurs_added_in_all i v ts (with_variables known t) e) as (λ _. (slice_get known i ≡ Some v) ⊎ IsTrue (some_has_var v (cons t ts))) [
        | inl h ↦ elim (occurs_added i v t known h) as (λ _. (slice_get known i ≡ Some v) ⊎ IsTrue (some_has_var v (cons t ts))) [
          | inl k ↦ inl k
          | inr k ↦ inr (has_var_first v t ts k)
        ]
        | inr h ↦ inr (has_var_rest v t ts h)
      ]

-- and each of its variables is one of the term
pub occurs_among : (v : ℕ) (t : Tree) (i : ℕ) → slice_get (variables_of t) i ≡ Some v → IsTrue (has_var v t)
occurs_among v t i e = elim (occurs_added i v t [] e) as (λ _. IsTrue (has_var v t)) [
  | inl h ↦ absurd cc
  | inr h ↦ h
]
