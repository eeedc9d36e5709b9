-- The test decides the order.
use Rattle.std.proofs.Common.{◌≡◌, inl, inr, ℕ, ◌<◌, refl, sym, ap, subst, arith, List, Bool, true, false, cond, ◌||◌, ◌&&◌, nat_eq, nat_lt, Decides, true≢false}
use Rattle.std.proofs.lemmas.Bool.{eqb-true, eq-eqb, and_parts, and_from, or_left, or_right, or_cases}
use Rattle.trs_defs.specs.Tree.{Tree, var, app, Trees, nil, cons, count}
use Rattle.pair_theory.specs.Accessible.{Acc, acc}
use Rattle.trs_defs.specs.Every.{Every, every_nil, every_cons}
use Rattle.order_theory.specs.PathOrder.{PathGreater, by_arg, by_rank, by_lex, SomeAtLeast, equal_here, greater_here, further, GreaterThanAll, all_nil, all_cons, LexGreater, lex_here, lex_later}
use Rattle.order_theory.specs.PathTest.{same_tree, same_trees, some_at_least, lex_greater, app_greater, app_greater_than_all, path_greater, path_greater_each}
use Rattle.trs_defs.proofs.EqualTerms.{join_app, join_cons}
use Rattle.order_theory.proofs.PathAccessible.{path_acc, all_head, all_tail, var_least}

or_case : {P : Type 0} (a b : Bool) → (a || b) ≡ true → (a ≡ true → P) → (b ≡ true → P) → P
or_case a b e f g = elim (or_cases a b e) [ inl h ↦ f h | inr h ↦ g h ]

nat_lt_is : (m n : ℕ) → nat_lt m n ≡ true → m < n
nat_lt_is m n e = grind arith

nat_lt_of : (m n : ℕ) → m < n → nat_lt m n ≡ true
nat_lt_of m n e = grind arith

mutual
  pub same_is : (s t : Tree) → same_tree s t ≡ true → s ≡ t
  same_is (var x) (var y) e = ap var (eqb-true x y e)
  same_is (var x) (app g ts) e = absurd (true≢false (sym e))
  same_is (app f ss) (var y) e = absurd (true≢false (sym e))
  same_is (app f ss) (app g ts) e = let h : (nat_eq f g ≡ true) × (same_trees ss ts ≡ true) = and_parts (nat_eq f g) (same_trees ss ts) e in join_app (eqb-true f g h.0) (sames_is ss ts h.1)

  sames_is : (ss ts : Trees) → same_trees ss ts ≡ true → ss ≡ ts
  sames_is nil nil e = refl
  sames_is nil (cons t ts) e = absurd (true≢false (sym e))
  sames_is (cons s ss) nil e = absurd (true≢false (sym e))
  sames_is (cons s ss) (cons t ts) e = let h : (same_tree s t ≡ true) × (same_trees ss ts ≡ true) = and_parts (same_tree s t) (same_trees ss ts) e in join_cons (same_is s t h.0) (sames_is ss ts h.1)

mutual
  pub same_self : (t : Tree) → same_tree t t ≡ true
  same_self (var x) = eq-eqb x x refl
  same_self (app f ts) = and_from (nat_eq f f) (same_trees ts ts) (eq-eqb f f refl) (sames_self ts)

  sames_self : (ts : Trees) → same_trees ts ts ≡ true
  sames_self nil = refl
  sames_self (cons t ts) = and_from (same_tree t t) (same_trees ts ts) (same_self t) (sames_self ts)

pub irreflexive : {A : Type 0} {r : A → A → Type 0} {x : A} → Acc r x → r x x → ⊥
irreflexive {x = x} (acc h) s = irreflexive (h x s) s

pub arg_case : {P : Type 0} {rank : ℕ → ℕ} {f y : ℕ} {ss : Trees} → PathGreater rank (app f ss) (var y) → (SomeAtLeast rank ss (var y) → P) → P
arg_case (by_arg p) k = k p

head_case : {P : Type 0} {rank : ℕ → ℕ} {f h : ℕ} {ss us : Trees} → PathGreater rank (app f ss) (app h us)
    → (SomeAtLeast rank ss (app h us) → P) → (rank h < rank f → GreaterThanAll rank (app f ss) us → P) → (f ≡ h → LexGreater rank ss us → GreaterThanAll rank (app f ss) us → P) → P
head_case (by_arg p) a b c = a p
head_case (by_rank r all) a b c = b r all
head_case (by_lex l all) a b c = c refl l all

module _ (rank : ℕ → ℕ) where
  abbrev Tested : Tree → Type 0
  Tested s = (t : Tree) → Decides (path_greater rank s t) (PathGreater rank s t)

  not_self : {t : Tree} → PathGreater rank t t → ⊥
  not_self {t} g = irreflexive (path_acc rank t) g

  some_is : (ss : Trees) (t : Tree) → Every Tested ss → some_at_least ss (path_greater_each rank ss) t ≡ true → SomeAtLeast rank ss t
  some_is nil t ks e = absurd (true≢false (sym e))
  some_is (cons s ss) t (every_cons k ks) e = or_case (same_tree s t) (path_greater rank s t || some_at_least ss (path_greater_each rank ss) t) e
      (λ h. subst (SomeAtLeast rank (cons s ss)) (same_is s t h) equal_here)
      (λ h. or_case (path_greater rank s t) (some_at_least ss (path_greater_each rank ss) t) h (λ h. greater_here ((k t).0 h)) (λ h. further (some_is ss t ks h)))

  is_some : {ss : Trees} {t : Tree} → Every Tested ss → SomeAtLeast rank ss t → some_at_least ss (path_greater_each rank ss) t ≡ true
  is_some every_nil p = elim p [ ]
  is_some {t = t} (every_cons {ts = ss} k ks) equal_here = or_left (same_tree t t) (path_greater rank t t || some_at_least ss (path_greater_each rank ss) t) (same_self t)
  is_some {t = t} (every_cons {t = s} {ts = ss} k ks) (greater_here g) = or_right (same_tree s t) (path_greater rank s t || some_at_least ss (path_greater_each rank ss) t) (or_left (path_greater rank s t) (some_at_least ss (path_greater_each rank ss) t) ((k t).1 g))
  is_some {t = t} (every_cons {t = s} {ts = ss} k ks) (further p) = or_right (same_tree s t) (path_greater rank s t || some_at_least ss (path_greater_each rank ss) t) (or_right (path_greater rank s t) (some_at_least ss (path_greater_each rank ss) t) (is_some ks p))

  cond_case : {P : Type 0} (b x y : Bool) → cond b x y ≡ true → (b ≡ true → x ≡ true → P) → (y ≡ true → P) → P
  cond_case true x y e f g = f refl e
  cond_case false x y e f g = g e

  cond_true : (b x y : Bool) → b ≡ true → x ≡ true → cond b x y ≡ true
  cond_true true x y e e' = e'
  cond_true false x y e e' = absurd (true≢false (sym e))

  cond_false : (b x y : Bool) → (b ≡ true → ⊥) → y ≡ true → cond b x y ≡ true
  cond_false true x y n e = absurd (n refl)
  cond_false false x y n e = e

  lex_is : (ss ts : Trees) → Every Tested ss → lex_greater ss (path_greater_each rank ss) ts ≡ true → LexGreater rank ss ts
  lex_is nil ts ks e = absurd (true≢false (sym e))
  lex_is (cons s ss) nil ks e = absurd (true≢false (sym e))
  lex_is (cons s ss) (cons t ts) (every_cons k ks) e = cond_case (same_tree s t) (lex_greater ss (path_greater_each rank ss) ts) (path_greater rank s t && nat_eq (count ss) (count ts)) e
      (λ h l. subst (λ z. LexGreater rank (cons s ss) (cons z ts)) (same_is s t h) (lex_later (lex_is ss ts ks l)))
      (λ h. let p : (path_greater rank s t ≡ true) × (nat_eq (count ss) (count ts) ≡ true) = and_parts (path_greater rank s t) (nat_eq (count ss) (count ts)) h in lex_here ((k t).0 p.0) (eqb-true (count ss) (count ts) p.1))

  is_lex : {ss ts : Trees} → Every Tested ss → LexGreater rank ss ts → lex_greater ss (path_greater_each rank ss) ts ≡ true
  is_lex every_nil l = elim l [ ]
  is_lex (every_cons {t = s} {ts = ss} k ks) (lex_here {t = t} {ts = ts} g e) =
      cond_false (same_tree s t) (lex_greater ss (path_greater_each rank ss) ts) (path_greater rank s t && nat_eq (count ss) (count ts)) (λ h. not_self (subst (λ z. PathGreater rank z t) (same_is s t h) g))
      (and_from (path_greater rank s t) (nat_eq (count ss) (count ts)) ((k t).1 g) (eq-eqb (count ss) (count ts) e))
  is_lex (every_cons {t = s} {ts = ss} k ks) (lex_later {ts = ts} l) =
      cond_true (same_tree s s) (lex_greater ss (path_greater_each rank ss) ts) (path_greater rank s s && nat_eq (count ss) (count ts)) (same_self s) (is_lex ks l)

  module _ (f : ℕ) (ss : Trees) (ks : Every Tested ss) where
    abbrev gs : List (Tree → Bool)
    gs = path_greater_each rank ss

    first_case : (g : ℕ) (ts : Trees) → app_greater rank f ss gs (app g ts) ≡ true → (app_greater_than_all rank f ss gs ts ≡ true → GreaterThanAll rank (app f ss) ts) → PathGreater rank (app f ss) (app g ts)
    first_case g ts e all = or_case (some_at_least ss gs (app g ts)) ((nat_lt (rank g) (rank f) || (nat_eq f g && lex_greater ss gs ts)) && app_greater_than_all rank f ss gs ts) e
        (λ h. by_arg (some_is ss (app g ts) ks h))
        (λ h. let p : ((nat_lt (rank g) (rank f) || (nat_eq f g && lex_greater ss gs ts)) ≡ true) × (app_greater_than_all rank f ss gs ts ≡ true) =
        and_parts (nat_lt (rank g) (rank f) || (nat_eq f g && lex_greater ss gs ts)) (app_greater_than_all rank f ss gs ts) h in
        or_case (nat_lt (rank g) (rank f)) (nat_eq f g && lex_greater ss gs ts) p.0
        (λ r. by_rank (nat_lt_is (rank g) (rank f) r) (all p.1))
        (λ q. let m : (nat_eq f g ≡ true) × (lex_greater ss gs ts ≡ true) = and_parts (nat_eq f g) (lex_greater ss gs ts) q in
        subst (λ k. PathGreater rank (app f ss) (app k ts)) (eqb-true f g m.0) (by_lex (lex_is ss ts ks m.1) (all p.1))))

    mutual
      above_is : (t : Tree) → app_greater rank f ss gs t ≡ true → PathGreater rank (app f ss) t
      above_is (var y) e = by_arg (some_is ss (var y) ks e)
      above_is (app g ts) e = first_case g ts e (above_all_is ts)

      above_all_is : (ts : Trees) → app_greater_than_all rank f ss gs ts ≡ true → GreaterThanAll rank (app f ss) ts
      above_all_is nil e = all_nil
      above_all_is (cons t ts) e = let h : (app_greater rank f ss gs t ≡ true) × (app_greater_than_all rank f ss gs ts ≡ true) = and_parts (app_greater rank f ss gs t) (app_greater_than_all rank f ss gs ts) e in
          all_cons (above_is t h.0) (above_all_is ts h.1)

    above_some : (t : Tree) → some_at_least ss gs t ≡ true → app_greater rank f ss gs t ≡ true
    above_some (var y) e = e
    above_some (app g ts) e = or_left (some_at_least ss gs (app g ts)) ((nat_lt (rank g) (rank f) || (nat_eq f g && lex_greater ss gs ts)) && app_greater_than_all rank f ss gs ts) e

    above_head : (g : ℕ) (ts : Trees) → (nat_lt (rank g) (rank f) || (nat_eq f g && lex_greater ss gs ts)) ≡ true → app_greater_than_all rank f ss gs ts ≡ true → app_greater rank f ss gs (app g ts) ≡ true
    above_head g ts e e' = or_right (some_at_least ss gs (app g ts)) ((nat_lt (rank g) (rank f) || (nat_eq f g && lex_greater ss gs ts)) && app_greater_than_all rank f ss gs ts)
        (and_from (nat_lt (rank g) (rank f) || (nat_eq f g && lex_greater ss gs ts)) (app_greater_than_all rank f ss gs ts) e e')

    to_var : {y : ℕ} → PathGreater rank (app f ss) (var y) → some_at_least ss gs (var y) ≡ true
    to_var g = arg_case g (λ p. is_some ks p)

    second_case : (h : ℕ) (us : Trees) → PathGreater rank (app f ss) (app h us) → (GreaterThanAll rank (app f ss) us → app_greater_than_all rank f ss gs us ≡ true) → app_greater rank f ss gs (app h us) ≡ true
    second_case h us g all = head_case g
        (λ p. above_some (app h us) (is_some ks p))
        (λ r gs'. above_head h us (or_left (nat_lt (rank h) (rank f)) (nat_eq f h && lex_greater ss gs us) (nat_lt_of (rank h) (rank f) r)) (all gs'))
        (λ e l gs'. above_head h us (or_right (nat_lt (rank h) (rank f)) (nat_eq f h && lex_greater ss gs us) (and_from (nat_eq f h) (lex_greater ss gs us) (eq-eqb f h e) (is_lex ks l))) (all gs'))

    mutual
      is_above : (t : Tree) → PathGreater rank (app f ss) t → app_greater rank f ss gs t ≡ true
      is_above (var y) g = above_some (var y) (to_var g)
      is_above (app h us) g = second_case h us g (is_above_all us)

      is_above_all : (ts : Trees) → GreaterThanAll rank (app f ss) ts → app_greater_than_all rank f ss gs ts ≡ true
      is_above_all nil all = refl
      is_above_all (cons t ts) all = and_from (app_greater rank f ss gs t) (app_greater_than_all rank f ss gs ts) (is_above t (all_head all)) (is_above_all ts (all_tail all))

  mutual
    pub path_decides : (s : Tree) → Tested s
    path_decides (var x) t = ((λ e. absurd (true≢false (sym e))), (λ g. absurd (var_least g)))
    path_decides (app f ss) t = let ks : Every Tested ss = each_decides ss in (above_is f ss ks t, is_above f ss ks t)

    each_decides : (ss : Trees) → Every Tested ss
    each_decides nil = every_nil
    each_decides (cons s ss) = every_cons (path_decides s) (each_decides ss)
