-- The placed pairs are the dependency pairs.
use Rattle.std.specs.Prelude.{◌≡◌, ℕ, ◌+◌, Bool, true, false, List, [], ◌∷◌, ◌++◌, map, Some, length, slice_get}
use Rattle.std.specs.Option.{option_and_then}
use Rattle.std.proofs.Common.{zero, suc, refl, sym, ap, subst, arith, ◌∙◌}
use Rattle.trs_defs.specs.Tree.{Tree, Trees, var, app, nil, cons, items}
use Rattle.trs_defs.specs.Variable.{IsVariable}
use Rattle.trs_defs.specs.Position.{subterm_at}
use Rattle.trs_defs.specs.System.{RewriteRule, System, IsSystem, is_defined}
use Rattle.pair_theory.specs.Marked.{Marked, marked, plain}
use Rattle.pair_theory.specs.DependencyPair.{DependencyPair, dependency_pairs, subterms, subterms_of_all, keep_if, pairs_to, pairs_of, pairs_of_each}
use Rattle.dp_core.specs.PlacedPairs.{defined_places, defined_places_of_all, placed_below, placed_pairs_from, placed_pairs, IsPairAt}

-- two lists are of one length, and items of one number are related
abbrev pub Paired : {A B : Type 0} → (A → B → Type 0) → List A → List B → Type 0
Paired R [] [] = Unit {0}
Paired R [] (y ∷ ys) = ⊥
Paired R (x ∷ xs) [] = ⊥
Paired R (x ∷ xs) (y ∷ ys) = R x y × Paired R xs ys

pub paired_length : {A B : Type 0} (R : A → B → Type 0) (xs : List A) (ys : List B) → Paired R xs ys → length xs ≡ length ys
paired_length R [] [] h = refl
paired_length R [] (y ∷ ys) h = absurd h
paired_length R (x ∷ xs) [] h = absurd h
paired_length R (x ∷ xs) (y ∷ ys) h = ap suc (paired_length R xs ys h.1)

pub paired_items : {A B : Type 0} (R : A → B → Type 0) (xs : List A) (ys : List B) (n : ℕ) (x : A) (y : B) → Paired R xs ys
    → slice_get xs n ≡ Some x → slice_get ys n ≡ Some y → R x y
paired_items R [] [] n x y h e d = absurd cc
paired_items R [] (v ∷ ys) n x y h e d = absurd h
paired_items R (u ∷ xs) [] n x y h e d = absurd h
paired_items R (u ∷ xs) (v ∷ ys) zero x y h e d =
    let left : u ≡ x = cc in
    let right : v ≡ y = cc in
    subst (λ z. R z y) left (subst (λ z. R u z) right h.0)
paired_items R (u ∷ xs) (v ∷ ys) (suc n) x y h e d = paired_items R xs ys n x y h.1 e d

paired_both : {A B : Type 0} (R : A → B → Type 0) (xs zs : List A) (ys ws : List B) → Paired R xs ys → Paired R zs ws → Paired R (xs ++ zs) (ys ++ ws)
paired_both R [] zs [] ws h k = k
paired_both R [] zs (y ∷ ys) ws h k = absurd h
paired_both R (x ∷ xs) zs [] ws h k = absurd h
paired_both R (x ∷ xs) zs (y ∷ ys) ws h k = (h.0, paired_both R xs zs ys ws h.1 k)

paired_map : {A B C : Type 0} (R : A → B → Type 0) (S : C → B → Type 0) (f : A → C) → ((x : A) (y : B) → R x y → S (f x) y)
    → (xs : List A) (ys : List B) → Paired R xs ys → Paired S (map f xs) ys
paired_map R S f to [] [] h = tt
paired_map R S f to [] (y ∷ ys) h = absurd h
paired_map R S f to (x ∷ xs) [] h = absurd h
paired_map R S f to (x ∷ xs) (y ∷ ys) h = (to x y h.0, paired_map R S f to xs ys h.1)

paired_weaker : {A B : Type 0} (R S : A → B → Type 0) → ((x : A) (y : B) → R x y → S x y) → (xs : List A) (ys : List B) → Paired R xs ys → Paired S xs ys
paired_weaker R S to [] [] h = tt
paired_weaker R S to [] (y ∷ ys) h = absurd h
paired_weaker R S to (x ∷ xs) [] h = absurd h
paired_weaker R S to (x ∷ xs) (y ∷ ys) h = (to x y h.0, paired_weaker R S to xs ys h.1)

paired_if : {A B : Type 0} (R : A → B → Type 0) (b : Bool) (x : A) (xs : List A) (y : B) (ys : List B) → R x y → Paired R xs ys → Paired R (keep_if b x xs) (keep_if b y ys)
paired_if R true x xs y ys h k = (h, k)
paired_if R false x xs y ys h k = k

kept_both : {A : Type 0} (b : Bool) (x : A) (xs ys : List A) → keep_if b x (xs ++ ys) ≡ keep_if b x xs ++ ys
kept_both true x xs ys = refl
kept_both false x xs ys = refl

module _ (rules : List RewriteRule) (l : Marked) where
  pairs_to_both : (ts us : List Tree) → pairs_to rules l (ts ++ us) ≡ pairs_to rules l ts ++ pairs_to rules l us
  pairs_to_both [] us = refl
  pairs_to_both (var x ∷ ts) us = pairs_to_both ts us
  pairs_to_both (app g vs ∷ ts) us =
      ap (keep_if (is_defined rules g) (record { from = l; to = marked g vs })) (pairs_to_both ts us)
      ∙ kept_both (is_defined rules g) (record { from = l; to = marked g vs }) (pairs_to rules l ts) (pairs_to rules l us)

  -- the right side of a pair from l stands at the position of the term
  abbrev pub StandsAt : Tree → List ℕ → DependencyPair → Type 0
  StandsAt t p pair = (pair.from ≡ l) × (subterm_at p t ≡ Some (plain pair.to))

  -- the same below argument number `index` of those that are counted from k on
  pub record StandsBelow (k : ℕ) (ts : Trees) (p : List ℕ) (pair : DependencyPair) : Type 0 where
    index : ℕ
    below : List ℕ
    place : p ≡ (k + index) ∷ below
    from : pair.from ≡ l
    there : option_and_then (subterm_at below) (slice_get (items ts) index) ≡ Some (plain pair.to)

  below_root : (f : ℕ) (ts : Trees) (p : List ℕ) (pair : DependencyPair) → StandsBelow 1 ts p pair → StandsAt (app f ts) p pair
  below_root f ts p pair s =
      let place : p ≡ suc s.index ∷ s.below = s.place ∙ ap (λ n. n ∷ s.below) (omega arith) in
      (s.from, ap (λ q. subterm_at q (app f ts)) place ∙ s.there)

  in_first_one : (k : ℕ) (t : Tree) (ts : Trees) (p : List ℕ) (pair : DependencyPair) → StandsAt t p pair → StandsBelow k (cons t ts) (k ∷ p) pair
  in_first_one k t ts p pair s =
      record { index = zero; below = p; place = ap (λ n. n ∷ p) (omega arith); from = s.0; there = s.1 }

  in_later_one : (k : ℕ) (t : Tree) (ts : Trees) (p : List ℕ) (pair : DependencyPair) → StandsBelow (k + 1) ts p pair → StandsBelow k (cons t ts) p pair
  in_later_one k t ts p pair s =
      record { index = suc s.index; below = s.below; place = s.place ∙ ap (λ n. n ∷ s.below) (omega arith); from = s.from; there = s.there }

  mutual
    placed_in : (t : Tree) → Paired (StandsAt t) (defined_places rules t) (pairs_to rules l (subterms t))
    placed_in (var x) = tt
    placed_in (app f ts) =
        paired_if (StandsAt (app f ts)) (is_defined rules f) [] (defined_places_of_all rules 1 ts) (record { from = l; to = marked f ts })
        (pairs_to rules l (subterms_of_all ts)) (refl, refl)
        (paired_weaker (StandsBelow 1 ts) (StandsAt (app f ts)) (below_root f ts) (defined_places_of_all rules 1 ts)
        (pairs_to rules l (subterms_of_all ts)) (placed_in_all 1 ts))

    placed_in_all : (k : ℕ) (ts : Trees) → Paired (StandsBelow k ts) (defined_places_of_all rules k ts) (pairs_to rules l (subterms_of_all ts))
    placed_in_all k nil = tt
    placed_in_all k (cons t ts) =
        let first = map (λ p. k ∷ p) (defined_places rules t) in
        subst (Paired (StandsBelow k (cons t ts)) (first ++ defined_places_of_all rules (k + 1) ts))
        (sym (pairs_to_both (subterms t) (subterms_of_all ts)))
        (paired_both (StandsBelow k (cons t ts)) first (defined_places_of_all rules (k + 1) ts) (pairs_to rules l (subterms t)) (pairs_to rules l (subterms_of_all ts))
        (paired_map (StandsAt t) (StandsBelow k (cons t ts)) (λ p. k ∷ p) (in_first_one k t ts) (defined_places rules t) (pairs_to rules l (subterms t)) (placed_in t))
        (paired_weaker (StandsBelow (k + 1) ts) (StandsBelow k (cons t ts)) (in_later_one k t ts) (defined_places_of_all rules (k + 1) ts) (pairs_to rules l (subterms_of_all ts)) (placed_in_all (k + 1) ts)))

-- the pairs of one rule
module _ (rules : List RewriteRule) (k : ℕ) where
  pair_of_rule : (f : ℕ) (ls : Trees) (r : Tree) → slice_get rules k ≡ Some (record { left = app f ls; right = r })
      → (p : List ℕ) (pair : DependencyPair) → StandsAt rules (marked f ls) r p pair → IsPairAt rules (record { place = p; rule = k }) pair
  pair_of_rule f ls r e p pair s =
      record { rule = record { left = app f ls; right = r }; numbered = e; left = ap plain (sym s.0); right = s.1 }

  pairs_of_rule : (left right : Tree) → (IsVariable left → ⊥) → slice_get rules k ≡ Some (record { left = left; right = right })
      → Paired (IsPairAt rules) (placed_below k [] (defined_places rules right)) (pairs_of rules left right)
  pairs_of_rule (var x) right proper e = absurd (proper (x, refl))
  pairs_of_rule (app f ls) right proper e =
      paired_map (StandsAt rules (marked f ls) right) (IsPairAt rules) (λ q. record { place = q; rule = k }) (pair_of_rule f ls right e)
      (defined_places rules right) (pairs_to rules (marked f ls) (subterms right)) (placed_in rules (marked f ls) right)

module _ (system : System) (valid : IsSystem system) where
  pairs_from : (k : ℕ) (rest : List RewriteRule) → ((i : ℕ) (r : RewriteRule) → slice_get rest i ≡ Some r → slice_get system.rules (k + i) ≡ Some r)
      → Paired (IsPairAt system.rules) (placed_pairs_from system.rules k rest) (pairs_of_each system.rules rest)
  pairs_from k [] at = tt
  pairs_from k (rule ∷ rest) at =
      let here : slice_get system.rules k ≡ Some rule = let same : k + zero ≡ k = omega arith in subst (λ n. slice_get system.rules n ≡ Some rule) same (at zero rule refl) in
      paired_both (IsPairAt system.rules) (placed_below k [] (defined_places system.rules rule.right)) (placed_pairs_from system.rules (k + 1) rest)
      (pairs_of system.rules rule.left rule.right) (pairs_of_each system.rules rest)
      (pairs_of_rule system.rules k rule.left rule.right (valid.each k rule here).left_no_variable here)
      (pairs_from (k + 1) rest (λ i r e. let next : k + suc i ≡ k + 1 + i = omega arith in subst (λ n. slice_get system.rules n ≡ Some r) next (at (suc i) r e)))

  pub pairs_placed : Paired (IsPairAt system.rules) (placed_pairs system.rules) (dependency_pairs system.rules)
  pairs_placed = pairs_from 0 system.rules (λ i r e. let same : i ≡ 0 + i = omega arith in subst (λ n. slice_get system.rules n ≡ Some r) same e)
