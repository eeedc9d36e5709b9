-- The tests decide the Knuth-Bendix order.
use Rattle.std.specs.Prelude.{◌≡◌, ℕ, ◌≤◌, ◌<◌, ◌^◌, ◌⊎◌, Bool, true, false, ◌||◌, ◌&&◌, ◌==◌, if◌then◌else◌, nat_lt}
use Rattle.std.proofs.Common.{refl, sym, ap, subst, inl, inr, arith, ◌∙◌}
use Rattle.std.proofs.lemmas.Bool.Decides.{nat_tests}
use Rattle.trs_defs.specs.Tree.{Tree, Trees, var, app, nil, cons, count}
use Rattle.trs_defs.specs.Variable.{has_var, some_has_var, occurrences}
use Rattle.trs_defs.proofs.OccurrenceLaws.{no_occurrence}
use Rattle.order_theory.specs.KnuthBendix.{weigh, KeepsOccurrences, Tower, one_high, higher, KnuthGreater, KnuthWeak, by_weight, by_tower, by_head, by_args, KnuthLexGreater, heavier_here, heavier_later}
use Rattle.order_theory.specs.PathTest.{same_tree}
use Rattle.order_theory.proofs.PathDecides.{same_is, same_self}
use Rattle.kbo_order.specs.TooBig.{EitherIsBig}
use Rattle.kbo_order.proofs.Knuth.{seen_of, not_same}
use Rattle.kbo_order.proofs.Towers.{tower_case}
use Rattle.kbo_order.proofs.Viewers.{big_of, not_big}
use Rattle.assign_search.proofs.Refuting.{or_left, or_right, true_or_false}
use Rattle.order_search.proofs.Lawful.{both_true, and_true}
use Rattle.order_search.proofs.Tests.{either, same_number, le_is, is_le, lt_is, is_lt}
use Rattle.kbo_find.specs.KnuthTest.{keeps_each, keeps_all, is_tower, is_tower_below, is_variable, is_none, knuth_lex, head_greater, weight_greater, knuth_greater, knuth_greater_each, both_fit, knuth_strict, knuth_weak}

pub is_eq : (a b : ℕ) → a ≡ b → (a == b) ≡ true
is_eq a b e = grind (arith, nat_tests)

-- ---- occurrences

module _ (s t : Tree) where
  mutual
    has_enough : (v : ℕ) (u : Tree) → keeps_each s t u ≡ true → has_var v u ≡ true → occurrences v t ≤ occurrences v s
    has_enough v (var x) e here =
        let same : x ≡ v = same_number x v here in
        subst (λ (y : ℕ). occurrences y t ≤ occurrences y s) same (le_is (occurrences x t) (occurrences x s) e)
    has_enough v (app f us) e here = have_enough v us e here

    have_enough : (v : ℕ) (us : Trees) → keeps_all s t us ≡ true → some_has_var v us ≡ true → occurrences v t ≤ occurrences v s
    have_enough v nil e here = absurd cc
    have_enough v (cons u us) e here =
        let both = both_true (keeps_each s t u) (keeps_all s t us) e in
        elim (either (has_var v u) (some_has_var v us) here) [ inl first ↦ has_enough v u both.0 first | inr later ↦ have_enough v us both.1 later ]

  pub keeps_is : keeps_each s t t ≡ true → KeepsOccurrences s t
  keeps_is e v = elim (true_or_false (has_var v t)) [
    | inl here ↦ has_enough v t e here
    | inr missing ↦ let none = no_occurrence v t missing in omega (arith, none)
  ]

  module _ (keeps : KeepsOccurrences s t) where
    mutual
      each_kept : (u : Tree) → keeps_each s t u ≡ true
      each_kept (var x) = is_le (occurrences x t) (occurrences x s) (keeps x)
      each_kept (app f us) = all_kept us

      all_kept : (us : Trees) → keeps_all s t us ≡ true
      all_kept nil = refl
      all_kept (cons u us) = and_true (keeps_each s t u) (keeps_all s t us) (each_kept u) (all_kept us)

-- ---- towers

one_only : (ts : Trees) → is_none ts ≡ true → ts ≡ nil
one_only nil e = refl
one_only (cons t ts) e = absurd cc

variable_is : (x : ℕ) (t : Tree) → is_variable x t ≡ true → t ≡ var x
variable_is x (var y) e = ap var (same_number y x e)
variable_is x (app g ts) e = absurd cc

self_variable : (x : ℕ) → is_variable x (var x) ≡ true
self_variable x = is_eq x x refl

module _ (f x : ℕ) where
  over_variable : (g : ℕ) (t : Tree) (ts : Trees) → g ≡ f → t ≡ var x → ts ≡ nil → Tower f x (app g (cons t ts))
  over_variable g t ts e is none =
      let P : ℕ → Type 0 = λ h. Tower f x (app h (cons t ts)) in
      let Q : Tree → Type 0 = λ u. Tower f x (app f (cons u ts)) in
      let R : Trees → Type 0 = λ us. Tower f x (app f (cons (var x) us)) in
      subst P (sym e) (subst Q (sym is) (subst R (sym none) one_high))

  over_tower : (g : ℕ) (t : Tree) (ts : Trees) → g ≡ f → Tower f x t → ts ≡ nil → Tower f x (app g (cons t ts))
  over_tower g t ts e h none =
      let P : ℕ → Type 0 = λ k. Tower f x (app k (cons t ts)) in
      let R : Trees → Type 0 = λ us. Tower f x (app f (cons t us)) in
      subst P (sym e) (subst R (sym none) (higher h))

  mutual
    pub tower_is : (t : Tree) → is_tower f x t ≡ true → Tower f x t
    tower_is (var y) e = absurd cc
    tower_is (app g ts) e = let both = both_true (g == f) (is_tower_below f x ts) e in tower_below g ts (same_number g f both.0) both.1

    tower_below : (g : ℕ) (ts : Trees) → g ≡ f → is_tower_below f x ts ≡ true → Tower f x (app g ts)
    tower_below g nil same e = absurd cc
    tower_below g (cons t ts) same e =
        let both = both_true (is_variable x t || is_tower f x t) (is_none ts) e in
        elim (either (is_variable x t) (is_tower f x t) both.0) [
          | inl is ↦ over_variable g t ts same (variable_is x t is) (one_only ts both.1)
          | inr high ↦ over_tower g t ts same (tower_is t high) (one_only ts both.1)
        ]

  pub is_a_tower : {t : Tree} → Tower f x t → is_tower f x t ≡ true
  is_a_tower one_high =
      and_true (f == f) _ (is_eq f f refl)
      (and_true (is_variable x (var x) || false) true (or_left (is_variable x (var x)) false (self_variable x)) refl)
  is_a_tower (higher {t} h) =
      and_true (f == f) _ (is_eq f f refl)
      (and_true (is_variable x t || is_tower f x t) true (or_right (is_variable x t) (is_tower f x t) (is_a_tower h)) refl)

-- ---- greater terms

if_false : {A : Type 0} (b : Bool) (x y : A) → (b ≡ true → ⊥) → (if b then x else y) ≡ y
if_false true x y no_ = absurd (no_ refl)
if_false false x y no_ = refl

if_true : {A : Type 0} (b : Bool) (x y : A) → b ≡ true → (if b then x else y) ≡ x
if_true true x y e = refl
if_true false x y e = absurd cc

module _ (w r : ℕ → ℕ) where
  weight_is : (s t : Tree) (rest : Tree → Bool) → weight_greater w s rest t ≡ true
      → KeepsOccurrences s t × ((weigh w t < weigh w s) ⊎ ((weigh w s ≡ weigh w t) × (rest t ≡ true)))
  weight_is s t rest e =
      let both = both_true (keeps_each s t t) (nat_lt (weigh w t) (weigh w s) || (weigh w s == weigh w t && rest t)) e in (
        keeps_is s t both.0,
        elim (either (nat_lt (weigh w t) (weigh w s)) (weigh w s == weigh w t && rest t) both.1) [
          | inl less ↦ inl (lt_is (weigh w t) (weigh w s) less)
          | inr more ↦ let h = both_true (weigh w s == weigh w t) (rest t) more in inr (same_number (weigh w s) (weigh w t) h.0, h.1)
        ],
      )

  is_heavier : (s t : Tree) (rest : Tree → Bool) → KeepsOccurrences s t → weigh w t < weigh w s → weight_greater w s rest t ≡ true
  is_heavier s t rest keeps less =
      and_true (keeps_each s t t) _ (each_kept s t keeps t)
      (or_left (nat_lt (weigh w t) (weigh w s)) (weigh w s == weigh w t && rest t) (is_lt (weigh w t) (weigh w s) less))

  is_decided : (s t : Tree) (rest : Tree → Bool) → KeepsOccurrences s t → weigh w s ≡ weigh w t → rest t ≡ true → weight_greater w s rest t ≡ true
  is_decided s t rest keeps same e =
      and_true (keeps_each s t t) _ (each_kept s t keeps t)
      (or_right (nat_lt (weigh w t) (weigh w s)) (weigh w s == weigh w t && rest t)
      (and_true (weigh w s == weigh w t) (rest t) (is_eq (weigh w s) (weigh w t) same) e))

  same_root : (f g : ℕ) (ss ts : Trees) → KeepsOccurrences (app f ss) (app g ts) → weigh w (app f ss) ≡ weigh w (app g ts) → f ≡ g → KnuthLexGreater w r ss ts
      → KnuthGreater w r (app f ss) (app g ts)
  same_root f g ss ts k e same l =
      let P : ℕ → Type 0 = λ h. KeepsOccurrences (app f ss) (app h ts) → weigh w (app f ss) ≡ weigh w (app h ts) → KnuthGreater w r (app f ss) (app h ts) in
      (subst P same (λ k e. by_args k e l)) k e

  lex_next : (s t : Tree) (ss ts : Trees) (later here : Bool) → (if same_tree s t then later else here) ≡ true
      → (later ≡ true → KnuthLexGreater w r ss ts) → (here ≡ true → KnuthGreater w r s t × (count ss ≡ count ts)) → KnuthLexGreater w r (cons s ss) (cons t ts)
  lex_next s t ss ts later here e behind first = elim (true_or_false (same_tree s t)) [
    | inl same ↦ subst (λ z. KnuthLexGreater w r (cons s ss) (cons z ts)) (same_is s t same) (heavier_later (behind (sym (if_true (same_tree s t) later here same) ∙ e)))
    | inr differ ↦ let h = first (sym (if_false (same_tree s t) later here (λ same. cc)) ∙ e) in heavier_here h.0 h.1
  ]

  head_is : (f : ℕ) (ss : Trees) (t : Tree) → KeepsOccurrences (app f ss) t → weigh w (app f ss) ≡ weigh w t
      → ((ts : Trees) → knuth_lex ss (knuth_greater_each w r ss) ts ≡ true → KnuthLexGreater w r ss ts)
      → head_greater r f ss (knuth_greater_each w r ss) t ≡ true → KnuthGreater w r (app f ss) t
  head_is f ss (var x) keeps same args e = by_tower (tower_is f x (app f ss) e) same
  head_is f ss (app g ts) keeps same args e = elim (either (nat_lt (r g) (r f)) (f == g && knuth_lex ss (knuth_greater_each w r ss) ts) e) [
    | inl less ↦ by_head keeps same (lt_is (r g) (r f) less)
    | inr more ↦ let h = both_true (f == g) (knuth_lex ss (knuth_greater_each w r ss) ts) more in
        same_root f g ss ts keeps same (same_number f g h.0) (args ts h.1)
  ]

  mutual
    pub greater_is : (s t : Tree) → knuth_greater w r s t ≡ true → KnuthGreater w r s t
    greater_is (var x) t e = let h = weight_is (var x) t (λ _. false) e in elim h.1 [ inl less ↦ by_weight h.0 less | inr more ↦ absurd cc ]
    greater_is (app f ss) t e =
        let h = weight_is (app f ss) t (head_greater r f ss (knuth_greater_each w r ss)) e in
        elim h.1 [ inl less ↦ by_weight h.0 less | inr more ↦ head_is f ss t h.0 more.0 (λ ts lex. lex_is ss ts lex) more.1 ]

    lex_is : (ss ts : Trees) → knuth_lex ss (knuth_greater_each w r ss) ts ≡ true → KnuthLexGreater w r ss ts
    lex_is nil ts e = absurd cc
    lex_is (cons s ss) nil e = absurd cc
    lex_is (cons s ss) (cons t ts) e =
        lex_next s t ss ts (knuth_lex ss (knuth_greater_each w r ss) ts) (knuth_greater w r s t && count ss == count ts) e (λ later. lex_is ss ts later)
        (λ here. let h = both_true (knuth_greater w r s t) (count ss == count ts) here in (greater_is s t h.0, same_number (count ss) (count ts) h.1))

  heavier_true : (s t : Tree) → KeepsOccurrences s t → weigh w t < weigh w s → knuth_greater w r s t ≡ true
  heavier_true (var x) t keeps less = is_heavier (var x) t (λ _. false) keeps less
  heavier_true (app f ss) t keeps less = is_heavier (app f ss) t (head_greater r f ss (knuth_greater_each w r ss)) keeps less

  tower_keeps : {f y : ℕ} {s : Tree} → Tower f y s → KeepsOccurrences s (var y)
  tower_keeps one_high x = omega arith
  tower_keeps (higher t) x = omega (arith, tower_keeps t x)

  tower_true : (f x : ℕ) (s : Tree) → Tower f x s → weigh w s ≡ 1 → knuth_greater w r s (var x) ≡ true
  tower_true f x (var y) h e = elim h [ ]
  tower_true f x (app g ss) h e =
      let root : g ≡ f = tower_case h (λ same k. same) (λ t same k rest. same) in
      is_decided (app g ss) (var x) (head_greater r g ss (knuth_greater_each w r ss)) (tower_keeps h) e
      (subst (λ k. is_tower k x (app g ss) ≡ true) (sym root) (is_a_tower f x h))

  mutual
    pub is_greater : {s t : Tree} → KnuthGreater w r s t → knuth_greater w r s t ≡ true
    is_greater (by_weight {s} {t} keeps less) = heavier_true s t keeps less
    is_greater (by_tower {f} {x} {s} tower e) = tower_true f x s tower e
    is_greater (by_head {f} {g} {ss} {ts} keeps same less) =
        is_decided (app f ss) (app g ts) (head_greater r f ss (knuth_greater_each w r ss)) keeps same
        (or_left (nat_lt (r g) (r f)) (f == g && knuth_lex ss (knuth_greater_each w r ss) ts) (is_lt (r g) (r f) less))
    is_greater (by_args {f} {ss} {ts} keeps same lex) =
        is_decided (app f ss) (app f ts) (head_greater r f ss (knuth_greater_each w r ss)) keeps same
        (or_right (nat_lt (r f) (r f)) (f == f && knuth_lex ss (knuth_greater_each w r ss) ts)
        (and_true (f == f) (knuth_lex ss (knuth_greater_each w r ss) ts) (is_eq f f refl) (is_lex lex)))

    is_lex : {ss ts : Trees} → KnuthLexGreater w r ss ts → knuth_lex ss (knuth_greater_each w r ss) ts ≡ true
    is_lex (heavier_here {s} {t} {ss} {ts} greater e) =
        if_false (same_tree s t) _ _ (λ same. not_same w r 0 s t (same_is s t same) (seen_of w r 0 greater))
        ∙ and_true (knuth_greater w r s t) (count ss == count ts) (is_greater greater) (is_eq (count ss) (count ts) e)
    is_lex (heavier_later {s} {ss} {ts} lex) = if_true (same_tree s s) _ _ (same_self s) ∙ is_lex lex

  -- ---- both comparisons

  module _ (s t : Tree) where
    fit_is : both_fit w s t ≡ true → EitherIsBig w s t → ⊥
    fit_is e big =
        let both = both_true (nat_lt (weigh w s) (2 ^ 63)) (nat_lt (weigh w t) (2 ^ 63)) e in
        elim big [ inl left ↦ not_big w s (lt_is (weigh w s) (2 ^ 63) both.0) left | inr right ↦ not_big w t (lt_is (weigh w t) (2 ^ 63) both.1) right ]

    small : (u : Tree) → ((2 ^ 63 ≤ weigh w u) → ⊥) → nat_lt (weigh w u) (2 ^ 63) ≡ true
    small u no_ = elim (true_or_false (nat_lt (weigh w u) (2 ^ 63))) [
      | inl less ↦ less
      | inr not_less ↦ absurd (no_ (grind (arith, nat_tests)))
    ]

    is_fit : (EitherIsBig w s t → ⊥) → both_fit w s t ≡ true
    is_fit no_ =
        and_true (nat_lt (weigh w s) (2 ^ 63)) (nat_lt (weigh w t) (2 ^ 63)) (small s (λ le. no_ (inl (big_of w s le)))) (small t (λ le. no_ (inr (big_of w t le))))

    pub weak_fits : knuth_weak w r s t ≡ true → EitherIsBig w s t → ⊥
    weak_fits e = fit_is (both_true (both_fit w s t) (same_tree s t || knuth_greater w r s t) e).0

    pub weak_is : knuth_weak w r s t ≡ true → KnuthWeak w r s t
    weak_is e = elim (either (same_tree s t) (knuth_greater w r s t) (both_true (both_fit w s t) (same_tree s t || knuth_greater w r s t) e).1) [
      | inl same ↦ inl (same_is s t same)
      | inr more ↦ inr (greater_is s t more)
    ]

    pub strict_fits : knuth_strict w r s t ≡ true → EitherIsBig w s t → ⊥
    strict_fits e = fit_is (both_true (both_fit w s t) (knuth_greater w r s t) e).0

    pub strict_is : knuth_strict w r s t ≡ true → KnuthGreater w r s t
    strict_is e = greater_is s t (both_true (both_fit w s t) (knuth_greater w r s t) e).1

    same_side : KnuthWeak w r s t → (same_tree s t || knuth_greater w r s t) ≡ true
    same_side h = elim h [
      | inl same ↦ or_left (same_tree s t) (knuth_greater w r s t) (subst (λ u. same_tree s u ≡ true) same (same_self s))
      | inr more ↦ or_right (same_tree s t) (knuth_greater w r s t) (is_greater more)
    ]

    pub is_weak : (EitherIsBig w s t → ⊥) → KnuthWeak w r s t → knuth_weak w r s t ≡ true
    is_weak no_ h = and_true (both_fit w s t) (same_tree s t || knuth_greater w r s t) (is_fit no_) (same_side h)

    pub is_strict : (EitherIsBig w s t → ⊥) → KnuthGreater w r s t → knuth_strict w r s t ≡ true
    is_strict no_ h = and_true (both_fit w s t) (knuth_greater w r s t) (is_fit no_) (is_greater h)
