-- The comparison of two terms by a path order on filtered terms depends only on the filters and ranks of their symbols.
use Rattle.std.specs.Prelude.{ℕ, ◌-◌, Bool, true, ◌||◌, ◌&&◌, ◌==◌, nat_eq, nat_lt, List, [], ◌∷◌, ◌≡◌, ◌⊎◌}
use Rattle.std.proofs.Common.{zero, suc, false, refl, ap, ap₂, inl, inr, ◌∙◌}
use Rattle.trs_defs.specs.Tree.{Tree, Trees, var, app, nil, cons, count}
use Rattle.pair_theory.specs.ItemOr.{item_or}
use Rattle.order_theory.specs.PathTest.{same_tree, some_at_least, lex_greater, app_greater, app_greater_than_all, path_greater, path_greater_each}
use Rattle.order_theory.specs.ArgumentFilter.{ArgumentFilter, To, Keep, keep_one, select, by_filter, filtered, filtered_all}
use Rattle.assign_search.proofs.Refuting.{or_left, or_right}
use Rattle.order_search.specs.Slots.{Table}
use Rattle.order_search.specs.OrderSpace.{occurs_in, occurs_in_some, DependsOnSymbols}
use Rattle.lpo_find.specs.LpoSpace.{filter_number, filter_by, rank_by, path_strict, path_weak, lpo_family}
use Rattle.order_search.proofs.Agreeing.{Agree, AgreeAll, root_agrees, args_agree, first_agrees, rest_agree, SameTests, if_same}
use Rattle.order_search.proofs.Tests.{either}

-- ---- the path order

module _ (r q : ℕ → ℕ) where
  abbrev Same : ℕ → Type 0
  Same f = r f ≡ q f

  same_some : (ss : Trees) (a b : List (Tree → Bool)) → SameTests Same a b → (t : Tree) → Agree Same t → some_at_least ss a t ≡ some_at_least ss b t
  same_some nil a b tests t same = refl
  same_some (cons s ss) [] [] tests t same = refl
  same_some (cons s ss) [] (y ∷ b) tests t same = absurd tests
  same_some (cons s ss) (x ∷ a) [] tests t same = absurd tests
  same_some (cons s ss) (x ∷ a) (y ∷ b) tests t same =
      ap (λ c. same_tree s t || c) (ap₂ (λ c d. c || d) (tests.0 t same) (same_some ss a b tests.1 t same))

  same_lex : (ss : Trees) (a b : List (Tree → Bool)) → SameTests Same a b → (ts : Trees) → AgreeAll Same ts → lex_greater ss a ts ≡ lex_greater ss b ts
  same_lex nil a b tests ts same = refl
  same_lex (cons s ss) [] [] tests ts same = refl
  same_lex (cons s ss) [] (y ∷ b) tests ts same = absurd tests
  same_lex (cons s ss) (x ∷ a) [] tests ts same = absurd tests
  same_lex (cons s ss) (x ∷ a) (y ∷ b) tests nil same = refl
  same_lex (cons s ss) (x ∷ a) (y ∷ b) tests (cons t ts) same =
      if_same (same_tree s t) _ _ _ _ (same_lex ss a b tests.1 ts (rest_agree Same t ts same))
      (ap (λ c. c && nat_eq (count ss) (count ts)) (tests.0 t (first_agrees Same t ts same)))

  module _ (f : ℕ) (ss : Trees) (a b : List (Tree → Bool)) (tests : SameTests Same a b) (own : r f ≡ q f) where
    mutual
      same_app : (t : Tree) → Agree Same t → app_greater r f ss a t ≡ app_greater q f ss b t
      same_app (var y) same = same_some ss a b tests (var y) same
      same_app (app g ts) same =
          ap₂ (λ c d. c || d) (same_some ss a b tests (app g ts) same)
          (ap₂ (λ c d. c && d)
          (ap₂ (λ c d. c || d) (ap₂ (λ (m n : ℕ). nat_lt m n) (root_agrees Same g ts same) own) (ap (λ c. nat_eq f g && c) (same_lex ss a b tests ts (args_agree Same g ts same))))
          (same_than_all ts (args_agree Same g ts same)))

      same_than_all : (ts : Trees) → AgreeAll Same ts → app_greater_than_all r f ss a ts ≡ app_greater_than_all q f ss b ts
      same_than_all nil same = refl
      same_than_all (cons t ts) same = ap₂ (λ c d. c && d) (same_app t (first_agrees Same t ts same)) (same_than_all ts (rest_agree Same t ts same))

  mutual
    same_path : (s : Tree) → Agree Same s → (t : Tree) → Agree Same t → path_greater r s t ≡ path_greater q s t
    same_path (var x) own t same = refl
    same_path (app f ss) own t same =
        same_app f ss (path_greater_each r ss) (path_greater_each q ss) (same_each ss (args_agree Same f ss own)) (root_agrees Same f ss own) t same

    same_each : (ss : Trees) → AgreeAll Same ss → SameTests Same (path_greater_each r ss) (path_greater_each q ss)
    same_each nil own = tt
    same_each (cons s ss) own = (same_path s (first_agrees Same s ss own), same_each ss (rest_agree Same s ss own))

-- ---- filters

module _ (F G : ℕ → ArgumentFilter) where
  mutual
    pub same_filtered : (t : Tree) → Agree (λ f. F f ≡ G f) t → filtered F t ≡ filtered G t
    same_filtered (var x) same = refl
    same_filtered (app f ts) same =
        ap₂ (by_filter f) (root_agrees (λ f. F f ≡ G f) f ts same) (same_filtered_all ts (args_agree (λ f. F f ≡ G f) f ts same))

    same_filtered_all : (ts : Trees) → AgreeAll (λ f. F f ≡ G f) ts → filtered_all F ts ≡ filtered_all G ts
    same_filtered_all nil same = refl
    same_filtered_all (cons t ts) same =
        ap₂ cons (same_filtered t (first_agrees (λ f. F f ≡ G f) t ts same)) (same_filtered_all ts (rest_agree (λ f. F f ≡ G f) t ts same))

-- a filtered term has no other symbols
module _ (g : ℕ) where
  in_item : (i : ℕ) (ts : Trees) (d : Tree) → occurs_in g (item_or i ts d) ≡ true → (occurs_in_some g ts ≡ true) ⊎ (occurs_in g d ≡ true)
  in_item i nil d e = inr e
  in_item zero (cons t ts) d e = inl (or_left (occurs_in g t) (occurs_in_some g ts) e)
  in_item (suc i) (cons t ts) d e = elim (in_item i ts d e) [ inl h ↦ inl (or_right (occurs_in g t) (occurs_in_some g ts) h) | inr h ↦ inr h ]

  in_kept : (i : ℕ) (ts rest : Trees) → occurs_in_some g (keep_one i ts rest) ≡ true → (occurs_in_some g ts ≡ true) ⊎ (occurs_in_some g rest ≡ true)
  in_kept i nil rest e = inr e
  in_kept zero (cons t ts) rest e = elim (either (occurs_in g t) (occurs_in_some g rest) e) [
    | inl h ↦ inl (or_left (occurs_in g t) (occurs_in_some g ts) h)
    | inr h ↦ inr h
  ]
  in_kept (suc i) (cons t ts) rest e = elim (in_kept i ts rest e) [ inl h ↦ inl (or_right (occurs_in g t) (occurs_in_some g ts) h) | inr h ↦ inr h ]

  in_selected : (places : List ℕ) (ts : Trees) → occurs_in_some g (select places ts) ≡ true → occurs_in_some g ts ≡ true
  in_selected [] ts e = absurd cc
  in_selected (place ∷ places) ts e = elim (in_kept (place - 1) ts (select places ts) e) [ inl h ↦ h | inr h ↦ in_selected places ts h ]

  in_root : (f : ℕ) (ts : Trees) → occurs_in g (app f nil) ≡ true → occurs_in g (app f ts) ≡ true
  in_root f ts e = elim (either (f == g) false e) [ inl h ↦ or_left (f == g) (occurs_in_some g ts) h | inr h ↦ absurd cc ]

  in_by_filter : (f : ℕ) (filter : ArgumentFilter) (ts : Trees) → occurs_in g (by_filter f filter ts) ≡ true → occurs_in g (app f ts) ≡ true
  in_by_filter f (To place) ts e = elim (in_item (place - 1) ts (app f nil) e) [
    | inl h ↦ or_right (f == g) (occurs_in_some g ts) h
    | inr h ↦ in_root f ts h
  ]
  in_by_filter f (Keep places) ts e = elim (either (f == g) (occurs_in_some g (select places ts)) e) [
    | inl h ↦ or_left (f == g) (occurs_in_some g ts) h
    | inr h ↦ or_right (f == g) (occurs_in_some g ts) (in_selected places ts h)
  ]

  module _ (F : ℕ → ArgumentFilter) where
    mutual
      in_filtered : (t : Tree) → occurs_in g (filtered F t) ≡ true → occurs_in g t ≡ true
      in_filtered (var x) e = e
      in_filtered (app f ts) e = elim (either (f == g) (occurs_in_some g (filtered_all F ts)) (in_by_filter f (F f) (filtered_all F ts) e)) [
        | inl h ↦ or_left (f == g) (occurs_in_some g ts) h
        | inr h ↦ or_right (f == g) (occurs_in_some g ts) (in_filtered_all ts h)
      ]

      in_filtered_all : (ts : Trees) → occurs_in_some g (filtered_all F ts) ≡ true → occurs_in_some g ts ≡ true
      in_filtered_all nil e = e
      in_filtered_all (cons t ts) e = elim (either (occurs_in g (filtered F t)) (occurs_in_some g (filtered_all F ts)) e) [
        | inl h ↦ or_left (occurs_in g t) (occurs_in_some g ts) (in_filtered t h)
        | inr h ↦ or_right (occurs_in g t) (occurs_in_some g ts) (in_filtered_all ts h)
      ]

-- ---- both comparisons

module _ (s t : Tree) (r q : ℕ → ℕ) (F G : ℕ → ArgumentFilter) (ranks : (f : ℕ) → occurs_in f s || occurs_in f t ≡ true → r f ≡ q f)
    (filters : (f : ℕ) → occurs_in f s || occurs_in f t ≡ true → F f ≡ G f) where
  left : filtered F s ≡ filtered G s
  left = same_filtered F G s (λ f i. filters f (or_left (occurs_in f s) (occurs_in f t) i))

  right : filtered F t ≡ filtered G t
  right = same_filtered F G t (λ f i. filters f (or_right (occurs_in f s) (occurs_in f t) i))

  pub strict_same : path_strict r F s t ≡ path_strict q G s t
  strict_same =
      same_path r q (filtered F s) (λ f i. ranks f (or_left (occurs_in f s) (occurs_in f t) (in_filtered f F s i)))
      (filtered F t) (λ f i. ranks f (or_right (occurs_in f s) (occurs_in f t) (in_filtered f F t i)))
      ∙ ap₂ (path_greater q) left right

  pub weak_same : path_weak r F s t ≡ path_weak q G s t
  weak_same = ap₂ (λ a b. a || b) (ap₂ same_tree left right) strict_same

module _ (arity : ℕ → ℕ) (s t : Tree) (p q : Table) (same : (f part : ℕ) → occurs_in f s || occurs_in f t ≡ true → p f part ≡ q f part) where
  same_ranks : (f : ℕ) → occurs_in f s || occurs_in f t ≡ true → rank_by p f ≡ rank_by q f
  same_ranks f i = same f 1 i

  same_filters : (f : ℕ) → occurs_in f s || occurs_in f t ≡ true → filter_by arity p f ≡ filter_by arity q f
  same_filters f i = ap (λ (v : ℕ). filter_number (arity f) v) (same f 0 i)

pub lpo_depends : (arity : ℕ → ℕ) → DependsOnSymbols (lpo_family arity)
lpo_depends arity = record {
  weak = λ s t p q same. weak_same s t (rank_by p) (rank_by q) (filter_by arity p) (filter_by arity q) (same_ranks arity s t p q same) (same_filters arity s t p q same);
  strict = λ s t p q same. strict_same s t (rank_by p) (rank_by q) (filter_by arity p) (filter_by arity q) (same_ranks arity s t p q same) (same_filters arity s t p q same);
}
