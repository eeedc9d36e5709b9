-- The comparison of two terms by a Knuth-Bendix order depends only on the weights and ranks of their symbols.
use Rattle.std.specs.Prelude.{ℕ, ◌+◌, ◌^◌, Bool, true, false, ◌||◌, ◌&&◌, ◌==◌, nat_lt, List, [], ◌∷◌, ◌≡◌}
use Rattle.std.proofs.Common.{refl, ap, ap₂}
use Rattle.trs_defs.specs.Tree.{Tree, Trees, var, app, nil, cons, count}
use Rattle.order_theory.specs.KnuthBendix.{weigh, weigh_all}
use Rattle.order_theory.specs.PathTest.{same_tree}
use Rattle.assign_search.proofs.Refuting.{or_left, or_right}
use Rattle.order_search.specs.Slots.{Table}
use Rattle.order_search.specs.OrderSpace.{occurs_in, DependsOnSymbols}
use Rattle.order_search.proofs.Agreeing.{Agree, AgreeAll, root_agrees, args_agree, first_agrees, rest_agree, SameTests, if_same}
use Rattle.kbo_find.specs.KnuthTest.{keeps_each, knuth_lex, head_greater, weight_greater, knuth_greater, knuth_greater_each, both_fit, knuth_strict, knuth_weak}
use Rattle.kbo_find.specs.KboSpace.{weight_by, rank_by, kbo_family}

module _ (w v r q : ℕ → ℕ) where
  abbrev Same : ℕ → Type 0
  Same f = (w f ≡ v f) × (r f ≡ q f)

  mutual
    same_weight : (t : Tree) → Agree Same t → weigh w t ≡ weigh v t
    same_weight (var x) same = refl
    same_weight (app f ts) same = ap₂ (λ (a b : ℕ). a + b) (root_agrees Same f ts same).0 (same_weights ts (args_agree Same f ts same))

    same_weights : (ts : Trees) → AgreeAll Same ts → weigh_all w ts ≡ weigh_all v ts
    same_weights nil same = refl
    same_weights (cons t ts) same = ap₂ (λ (a b : ℕ). a + b) (same_weight t (first_agrees Same t ts same)) (same_weights ts (rest_agree Same t ts same))

  same_lex : (ss : Trees) (a b : List (Tree → Bool)) → SameTests Same a b → (ts : Trees) → AgreeAll Same ts → knuth_lex ss a ts ≡ knuth_lex ss b ts
  same_lex nil a b tests ts same = refl
  same_lex (cons s ss) [] [] tests ts same = refl
  same_lex (cons s ss) [] (y ∷ b) tests ts same = absurd tests
  same_lex (cons s ss) (x ∷ a) [] tests ts same = absurd tests
  same_lex (cons s ss) (x ∷ a) (y ∷ b) tests nil same = refl
  same_lex (cons s ss) (x ∷ a) (y ∷ b) tests (cons t ts) same =
      if_same (same_tree s t) _ _ _ _ (same_lex ss a b tests.1 ts (rest_agree Same t ts same))
      (ap (λ c. c && count ss == count ts) (tests.0 t (first_agrees Same t ts same)))

  same_head : (f : ℕ) (ss : Trees) (a b : List (Tree → Bool)) → SameTests Same a b → r f ≡ q f → (t : Tree) → Agree Same t → head_greater r f ss a t ≡ head_greater q f ss b t
  same_head f ss a b tests own (var x) same = refl
  same_head f ss a b tests own (app g ts) same =
      ap₂ (λ c d. c || d) (ap₂ (λ (m n : ℕ). nat_lt m n) (root_agrees Same g ts same).1 own)
      (ap (λ c. f == g && c) (same_lex ss a b tests ts (args_agree Same g ts same)))

  same_heavier : (s : Tree) (a b : Tree → Bool) → Agree Same s → (t : Tree) → Agree Same t → a t ≡ b t → weight_greater w s a t ≡ weight_greater v s b t
  same_heavier s a b own t same rest =
      ap (λ c. keeps_each s t t && c)
      (ap₂ (λ c d. c || d) (ap₂ (λ (m n : ℕ). nat_lt m n) (same_weight t same) (same_weight s own))
      (ap₂ (λ c d. c && d) (ap₂ (λ (m n : ℕ). m == n) (same_weight s own) (same_weight t same)) rest))

  mutual
    same_greater : (s : Tree) → Agree Same s → (t : Tree) → Agree Same t → knuth_greater w r s t ≡ knuth_greater v q s t
    same_greater (var x) own t same = same_heavier (var x) (λ _. false) (λ _. false) own t same refl
    same_greater (app f ss) own t same =
        same_heavier (app f ss) (head_greater r f ss (knuth_greater_each w r ss)) (head_greater q f ss (knuth_greater_each v q ss)) own t same
        (same_head f ss (knuth_greater_each w r ss) (knuth_greater_each v q ss) (same_each ss (args_agree Same f ss own)) (root_agrees Same f ss own).1 t same)

    same_each : (ss : Trees) → AgreeAll Same ss → SameTests Same (knuth_greater_each w r ss) (knuth_greater_each v q ss)
    same_each nil own = tt
    same_each (cons s ss) own = (same_greater s (first_agrees Same s ss own), same_each ss (rest_agree Same s ss own))

  module _ (s t : Tree) (same : (f : ℕ) → occurs_in f s || occurs_in f t ≡ true → Same f) where
    left : Agree Same s
    left f i = same f (or_left (occurs_in f s) (occurs_in f t) i)

    right : Agree Same t
    right f i = same f (or_right (occurs_in f s) (occurs_in f t) i)

    same_fit : both_fit w s t ≡ both_fit v s t
    same_fit = ap₂ (λ (m n : ℕ). nat_lt m (2 ^ 63) && nat_lt n (2 ^ 63)) (same_weight s left) (same_weight t right)

    pub strict_same : knuth_strict w r s t ≡ knuth_strict v q s t
    strict_same = ap₂ (λ a b. a && b) same_fit (same_greater s left t right)

    pub weak_same : knuth_weak w r s t ≡ knuth_weak v q s t
    weak_same = ap₂ (λ a b. a && (same_tree s t || b)) same_fit (same_greater s left t right)

module _ (arity : ℕ → ℕ) (s t : Tree) (p q : Table) (same : (f part : ℕ) → occurs_in f s || occurs_in f t ≡ true → p f part ≡ q f part) where
  same_parts : (f : ℕ) → occurs_in f s || occurs_in f t ≡ true → (weight_by arity p f ≡ weight_by arity q f) × (rank_by p f ≡ rank_by q f)
  same_parts f i = (if_same (arity f == 0) _ _ _ _ (ap (λ (n : ℕ). n + 1) (same f 0 i)) (same f 0 i), same f 1 i)

pub kbo_depends : (arity : ℕ → ℕ) → DependsOnSymbols (kbo_family arity)
kbo_depends arity = record {
  weak = λ s t p q same. weak_same (weight_by arity p) (weight_by arity q) (rank_by p) (rank_by q) s t (same_parts arity s t p q same);
  strict = λ s t p q same. strict_same (weight_by arity p) (weight_by arity q) (rank_by p) (rank_by q) s t (same_parts arity s t p q same);
}
