-- Terms in which no defined symbol stands.
use Rattle.std.specs.Prelude.{◌≡◌, ◌≤◌, ◌<◌, ◌↔◌, ℕ, ◌+◌, true, false, List, [], ◌∷◌, ◌++◌, map, length, drop, get_or, Bool}
use Rattle.std.proofs.Common.{refl, sym, ap, subst, ◌∙◌}
use Rattle.std.proofs.lemmas.List.{drop_all}
use Rattle.trs_defs.specs.Tree.{Tree, Trees, var, app, nil, cons}
use Rattle.trs_defs.specs.System.{RewriteRule, is_defined}
use Rattle.trs_defs.proofs.ArgumentLists.{cell}
use Rattle.trs_core.specs.declared.terms.Term.{Term}
use Rattle.trs_core.specs.View.{tree, forest}
use Rattle.pair_theory.specs.Marked.{Marked, marked}
use Rattle.pair_theory.specs.DependencyPair.{keep_if, pairs_to, subterms, subterms_of_all}
use Rattle.dp_core.specs.PlacedPairs.{defined_places, defined_places_of_all}

none_placed : {A B : Type 0} (f : A → B) (xs : List A) → map f xs ≡ [] → xs ≡ []
none_placed f [] e = refl
none_placed f (x ∷ xs) e = absurd cc

none_of_both : {A : Type 0} (xs ys : List A) → xs ++ ys ≡ [] → (xs ≡ []) × (ys ≡ [])
none_of_both [] ys e = (refl, e)
none_of_both (x ∷ xs) ys e = absurd cc

-- no defined symbol stands in the term
abbrev pub HasNone : List RewriteRule → Tree → Type 0
HasNone rules t = defined_places rules t ≡ []

-- nor in the arguments, counted from n on
abbrev pub HaveNone : List RewriteRule → ℕ → Trees → Type 0
HaveNone rules n ts = defined_places_of_all rules n ts ≡ []

module _ (rules : List RewriteRule) where
  pub none_in_variable : (t : Tree) (v : ℕ) → t ≡ var v → HasNone rules t
  none_in_variable t v is = ap (defined_places rules) is

  -- below a symbol that is not defined
  pub none_below : (t : Tree) (f : ℕ) (ts : Trees) → t ≡ app f ts → is_defined rules f ≡ false → HaveNone rules 1 ts ↔ HasNone rules t
  none_below t f ts is unknown =
      let same : defined_places rules t ≡ defined_places_of_all rules 1 ts =
      ap (defined_places rules) is ∙ ap (λ b. keep_if b [] (defined_places_of_all rules 1 ts)) unknown in
      (λ e. same ∙ e, λ e. sym same ∙ e)

  pub some_at : (t : Tree) (f : ℕ) (ts : Trees) → t ≡ app f ts → is_defined rules f ≡ true → HasNone rules t → ⊥
  some_at t f ts is known none =
      let d : [] ∷ defined_places_of_all rules 1 ts ≡ [] =
      sym (ap (defined_places rules) is ∙ ap (λ b. keep_if b [] (defined_places_of_all rules 1 ts)) known) ∙ none in
      cc

  -- the first argument, and those behind it
  first_none : (n : ℕ) (t : Tree) (ts : Trees) → HaveNone rules n (cons t ts) ↔ (HasNone rules t × HaveNone rules (n + 1) ts)
  first_none n t ts = (
    λ e. (let both = none_of_both (map (λ p. n ∷ p) (defined_places rules t)) (defined_places_of_all rules (n + 1) ts) e in (none_placed (λ p. n ∷ p) (defined_places rules t) both.0, both.1)),
    λ (e, d). ap (λ z. map (λ p. n ∷ p) z ++ defined_places_of_all rules (n + 1) ts) e ∙ d,
  )

  pub next_none : (ts : List Term) (i : ℕ) (t : Term) → i < length ts → t ≡ get_or ts i t
      → HaveNone rules (i + 1) (forest (drop i ts)) ↔ (HasNone rules (tree t) × HaveNone rules (i + 1 + 1) (forest (drop (i + 1) ts)))
  next_none ts i t lt is =
      let first = first_none (i + 1) (tree t) (forest (drop (i + 1) ts)) in
      let at = cell ts i t lt is in
      (λ e. first.0 (subst (λ us. HaveNone rules (i + 1) (forest us)) at e), λ e. subst (λ us. HaveNone rules (i + 1) (forest us)) (sym at) (first.1 e))

  pub none_left : (ts : List Term) (i n : ℕ) → length ts ≤ i → HaveNone rules n (forest (drop i ts))
  none_left ts i n past = ap (λ us. defined_places_of_all rules n (forest us)) (drop_all i ts past)

  -- ---- pairs

  no_pairs_both : (l : Marked) (ts us : List Tree) → pairs_to rules l ts ≡ [] → pairs_to rules l us ≡ [] → pairs_to rules l (ts ++ us) ≡ []
  no_pairs_both l [] us h also = also
  no_pairs_both l (var x ∷ ts) us h also = no_pairs_both l ts us h also
  no_pairs_both l (app g vs ∷ ts) us h also = go (is_defined rules g) h (λ e. no_pairs_both l ts us e also)
    where
      go : (b : Bool) → keep_if b (record { from = l; to = marked g vs }) (pairs_to rules l ts) ≡ [] → (pairs_to rules l ts ≡ [] → pairs_to rules l (ts ++ us) ≡ [])
          → keep_if b (record { from = l; to = marked g vs }) (pairs_to rules l (ts ++ us)) ≡ []
      go true e rest = absurd cc
      go false e rest = rest e

  -- such a term has no pairs
  mutual
    pub no_pairs_in : (l : Marked) (t : Tree) → HasNone rules t → pairs_to rules l (subterms t) ≡ []
    no_pairs_in l (var x) none = refl
    no_pairs_in l (app f ts) none = go (is_defined rules f) none (λ e. no_pairs_in_all l 1 ts e)
      where
        go : (b : Bool) → keep_if b [] (defined_places_of_all rules 1 ts) ≡ [] → (HaveNone rules 1 ts → pairs_to rules l (subterms_of_all ts) ≡ [])
            → keep_if b (record { from = l; to = marked f ts }) (pairs_to rules l (subterms_of_all ts)) ≡ []
        go true e rest = absurd cc
        go false e rest = rest e

    no_pairs_in_all : (l : Marked) (n : ℕ) (ts : Trees) → HaveNone rules n ts → pairs_to rules l (subterms_of_all ts) ≡ []
    no_pairs_in_all l n nil none = refl
    no_pairs_in_all l n (cons t ts) none =
        let both = (first_none n t ts).0 none in
        no_pairs_both l (subterms t) (subterms_of_all ts) (no_pairs_in l t both.0) (no_pairs_in_all l (n + 1) ts both.1)
