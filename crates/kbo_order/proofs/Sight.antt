-- What some variables see of two terms, argument by argument.
use Rattle.std.proofs.Common.{◌≡◌, ℕ, ℤ, pos, ◌≤ℤ◌, ◌+◌, ◌<◌, ◌≤◌, ◌↔◌, inl, inr, refl, sym, ap, subst, ◌∙◌, arith, Ok, true, false, Bool, IsTrue, nat_lt, nat_eq, not, List, length}
use Rattle.std.proofs.lemmas.Bool.{eqb-true, eq-eqb}
use Rattle.std.proofs.lemmas.Int.{ints}
use Rattle.trs_core.specs.declared.terms.Term.{Term}
use Rattle.trs_core.specs.View.{forest}
use Rattle.trs_core.proofs.Comparing.{count_forest}
use Rattle.std.proofs.lemmas.Bool.Decides.{nat_tests}
use Rattle.trs_defs.specs.Tree.{Tree, Trees, var, app, nil, cons, count}
use Rattle.trs_defs.specs.Variable.{occurrences}
use Rattle.trs_defs.proofs.EqualTerms.{app_args, cons_first, cons_rest}
use Rattle.order_theory.specs.KnuthBendix.{weigh}
use Rattle.kbo_order.specs.Balances.{difference_at, IsDifference, AreDifferences, AreEven}
use Rattle.kbo_order.specs.Seen.{Decides, DecideLater, SeenGreater, AllSeeGreater, IsWeight, IsAbove, SeesTerms, AreApart}
use Rattle.kbo_order.proofs.Knuth.{not_same}
use Rattle.kbo_order.proofs.Differences.{differences_even}

module _ (w rank : ℕ → ℕ) (size from : ℕ) where
  weight_of_one : (s t : Tree) → s ≡ t → AreApart s t → IsWeight w s (Ok 1)
  weight_of_one (var y) t e apart = (refl, omega arith)
  weight_of_one (app f ss) t e apart = absurd (subst (AreApart (app f ss)) (sym e) apart refl refl)

  abbrev pub Later : Trees → Trees → Type 0
  Later us vs = (i : ℕ) → i < size → DecideLater w rank (from + i) us vs

  abbrev pub AllDecide : Tree → Tree → Type 0
  AllDecide s t = (i : ℕ) → i < size → Decides w rank (from + i) s t

  -- what a walk over two argument lists has come to
  pub record Walked (ss ts us vs : Trees) (same greater : Bool) : Type 0 where
    pub as_many : count us ≡ count vs
    pub same_so_far : IsTrue same → (us ≡ vs ↔ ss ≡ ts) × (Later us vs ↔ Later ss ts) × (IsTrue greater → ⊥)
    pub differ : same ≡ false → (ss ≡ ts → ⊥) × (IsTrue greater ↔ Later ss ts)

  pub walked_none : (ss ts : Trees) → count ss ≡ count ts → Walked ss ts ss ts true false
  walked_none ss ts e = record {
    as_many = e;
    same_so_far = λ _. ((λ k. k, λ k. k), (λ l. l, λ l. l), λ yes. absurd cc);
    differ = λ no. absurd cc;
  }

module _ (w rank : ℕ → ℕ) (size from : ℕ) (some : 0 < size) where
  none_of_same : (s t : Tree) → s ≡ t → AllSeeGreater w rank size from s t → ⊥
  none_of_same s t e g = not_same w rank (from + 0) s t e (g 0 some)

  module _ (ss ts : Trees) (a b : Tree) (us vs : Trees) (same greater : Bool) (h : Walked w rank size from ss ts (cons a us) (cons b vs) same greater) where
    tails : count us ≡ count vs
    tails = omega (arith, h.as_many)

    later_of_rest : a ≡ b → Later w rank size from us vs ↔ Later w rank size from (cons a us) (cons b vs)
    later_of_rest e = (
      λ l i small. inl (e, l i small),
      λ l i small. elim (l i small) [ inl k ↦ k.1 | inr g ↦ absurd (not_same w rank (from + i) a b e g.0) ],
    )

    later_of_first : (a ≡ b → ⊥) → AllSeeGreater w rank size from a b ↔ Later w rank size from (cons a us) (cons b vs)
    later_of_first n = (λ g i small. inr (g i small, tails), λ l i small. elim (l i small) [ inl k ↦ absurd (n k.0) | inr g ↦ g.0 ])

    -- all before were the same
    pub walked_seen : IsTrue same → (next_same next_greater : Bool) → IsTrue next_same ↔ (a ≡ b) → IsTrue next_greater ↔ AllSeeGreater w rank size from a b
        → Walked w rank size from ss ts us vs next_same next_greater
    walked_seen is_same true next_greater e g =
        let equal : a ≡ b = e.0 refl in
        let before = h.same_so_far is_same in
        let rest = later_of_rest equal in
        record {
          as_many = tails;
          same_so_far = λ _. (
            (λ k. before.0.0 (ap (λ z. cons z us) equal ∙ ap (cons b) k), λ k. cons_rest (before.0.1 k)),
            (λ l. before.1.0 (rest.0 l), λ l. rest.1 (before.1.1 l)),
            λ yes. none_of_same a b equal (g.0 yes),
          );
          differ = λ no. absurd cc;
        }
    walked_seen is_same false next_greater e g =
        let other : a ≡ b → ⊥ = λ k. let yes : IsTrue false = e.1 k in absurd cc in
        let before = h.same_so_far is_same in
        let first = later_of_first other in
        record {
          as_many = tails;
          same_so_far = λ yes. absurd cc;
          differ = λ _. (λ k. other (cons_first (before.0.1 k)), (λ yes. before.1.0 (first.0 (g.0 yes)), λ l. g.1 (first.1 (before.1.1 l))));
        }

    -- some before differ
    pub walked_measured : same ≡ false → Walked w rank size from ss ts us vs false greater
    walked_measured unlike = record { as_many = tails; same_so_far = λ yes. absurd cc; differ = λ _. h.differ unlike }

  module _ (s t : Tree) (m n : ℕ) (b rest : Bool) (differences : List ℤ) (is_m : IsWeight w s (Ok m)) (is_n : IsWeight w t (Ok n))
      (differ : AreDifferences size from s t differences) where
    weights_decide : (x : ℕ) → weigh w s ≡ weigh w t → SeenGreater w rank x s t → Decides w rank x s t
    weights_decide x e (k, inl lt) = absurd (omega arith)
    weights_decide x e (k, inr (e', d)) = d

    -- no deficit of one variable
    as_often : (i : ℕ) → i < size → pos 0 ≤ℤ difference_at differences i → occurrences (from + i) t ≤ occurrences (from + i) s
    as_often i small le = let d : IsDifference (from + i) s t (difference_at differences i) = differ i small in omega (arith, ints)

    no_deficit : (i : ℕ) → i < size → occurrences (from + i) t ≤ occurrences (from + i) s → pos 0 ≤ℤ difference_at differences i
    no_deficit i small le = let d : IsDifference (from + i) s t (difference_at differences i) = differ i small in omega (arith, ints)

    pub all_see : IsTrue b ↔ IsAbove m n (IsTrue rest) size differences → IsTrue rest ↔ AllDecide w rank size from s t → IsTrue b ↔ AllSeeGreater w rank size from s t
    all_see test decides = (
      λ yes i small. let k = test.0 yes in (
        as_often i small (k.1 i small),
        elim k.0 [
          | inl lt ↦ inl (omega (arith, lt, is_m.0, is_n.0))
          | inr p ↦ inr (sym is_m.0 ∙ p.0 ∙ is_n.0, decides.0 p.1 i small)
        ],
      ),
      λ g. test.1 (
        elim (g 0 some).1 [
          | inl lt ↦ inl (omega (arith, lt, is_m.0, is_n.0))
          | inr p ↦ inr (is_m.0 ∙ p.0 ∙ sym is_n.0, decides.1 (λ i small. weights_decide (from + i) p.0 (g i small)))
        ],
        λ i small. no_deficit i small (g i small).0,
      ),
    )

  module _ (f g : ℕ) (ss ts : Trees) (same greater : Bool) (roots : f ≡ g) (h : Walked w rank size from ss ts nil nil same greater) where
    pub same_terms : IsTrue same ↔ (app f ss ≡ app g ts)
    same_terms = go same refl
      where
        go : (p : Bool) → same ≡ p → IsTrue same ↔ (app f ss ≡ app g ts)
        go true e = (λ yes. ap (app f) ((h.same_so_far e).0.0 refl) ∙ ap (λ k. app k ts) roots, λ k. e)
        go false e = (λ yes. absurd cc, λ k. absurd ((h.differ e).0 (app_args k)))

    pub all_decide : IsTrue greater ↔ AllDecide w rank size from (app f ss) (app g ts)
    all_decide = (
      λ yes i small. inr (roots, later.0 yes i small),
      λ d. later.1 (λ i small. elim (d i small) [ inl r ↦ (let k : rank f ≡ rank g = ap rank roots in absurd (omega arith)) | inr l ↦ l.1 ]),
    )
      where
        go : (p : Bool) → same ≡ p → IsTrue greater ↔ Later w rank size from ss ts
        go true e = let k = h.same_so_far e in (λ yes. absurd (k.2 yes), λ l. absurd (k.1.1 l 0 some))
        go false e = (h.differ e).1

        later : IsTrue greater ↔ Later w rank size from ss ts
        later = go same refl

    -- what is seen of two applications
    pub seen_terms : (m n : ℕ) (b : Bool) (differences : List ℤ) → IsWeight w (app f ss) (Ok m) → IsWeight w (app g ts) (Ok n)
        → AreDifferences size from (app f ss) (app g ts) differences → IsTrue b ↔ IsAbove m n (IsTrue greater) size differences
        → SeesTerms w rank size from (app f ss) (app g ts) differences (record { weights = record { left = m; right = n }; same = same; greater = b })
    seen_terms m n b differences is_m is_n differ test = record {
      weights = (is_m, is_n);
      same = same_terms;
      greater = all_see (app f ss) (app g ts) m n b greater differences is_m is_n differ test all_decide;
      differ = differ;
    }

  -- what is seen of one variable twice
  pub seen_twice : (s t : Tree) (differences : List ℤ) → s ≡ t → AreApart s t → AreEven size differences
      → SeesTerms w rank size from s t differences (record { weights = record { left = 1; right = 1 }; same = true; greater = false })
  seen_twice s t differences same apart even =
      let weight : IsWeight w s (Ok 1) = weight_of_one w rank size from s t same apart in
      record {
        weights = (weight, subst (λ u. IsWeight w u (Ok 1)) same weight);
        same = (λ _. same, λ _. refl);
        greater = (λ no. absurd cc, λ g. absurd (none_of_same s t same g));
        differ = differences_even size from s t differences same even;
      }

  -- what is seen of two terms that are apart and are not one variable
  pub seen_apart : (s t : Tree) (m n : ℕ) (b rest is_same : Bool) (differences : List ℤ) → IsTrue is_same ↔ (s ≡ t) → is_same ≡ false → IsWeight w s (Ok m) → IsWeight w t (Ok n)
      → AreDifferences size from s t differences → ((x : ℕ) → IsTrue rest ↔ Decides w rank x s t)
      → IsTrue b ↔ IsAbove m n (IsTrue rest) size differences → SeesTerms w rank size from s t differences (record { weights = record { left = m; right = n }; same = false; greater = b })
  seen_apart s t m n b rest is_same differences same unlike is_m is_n differ decides test = record {
    weights = (is_m, is_n);
    same = (λ yes. absurd cc, λ e. let yes : IsTrue is_same = same.1 e in absurd (cc (yes, unlike)));
    greater = all_see s t m n b rest differences is_m is_n differ test (λ yes i small. (decides (from + i)).0 yes, λ d. (decides (from + 0)).1 (d 0 some));
    differ = differ;
  }

pub apart_decides : (w rank : ℕ → ℕ) (f g : ℕ) (ss ts : Trees) (s t : Tree) (m n : ℕ) → s ≡ app f ss → t ≡ app g ts → AreApart s t → m ≡ rank g → n ≡ rank f
    → (x : ℕ) → IsTrue (nat_lt m n) ↔ Decides w rank x s t
apart_decides w rank f g ss ts s t m n is_s is_t apart is_m is_n x = rw (is_s, is_t) (
  λ h. inl (lt_of h),
  λ d. elim d [ inl r ↦ lt_test r | inr l ↦ absurd (parts l.0 (later_count ss ts l.1)) ],
)
  where
    parts : f ≡ g → count ss ≡ count ts → ⊥
    parts = let P : Tree → Type 0 = λ u. AreApart u (app g ts) in subst P is_s (subst (AreApart s) is_t apart)

    lt_of : IsTrue (nat_lt m n) → rank g < rank f
    lt_of h = let lt : m < n = grind (arith, nat_tests) in omega arith

    lt_test : rank g < rank f → IsTrue (nat_lt m n)
    lt_test lt = let k : m < n = omega arith in grind (arith, nat_tests)

    later_count : (us vs : Trees) → DecideLater w rank x us vs → count us ≡ count vs
    later_count nil vs l = absurd l
    later_count (cons u us) nil l = absurd l
    later_count (cons u us) (cons v vs) (inl (e, l)) = ap (λ k. 1 + k) (later_count us vs l)
    later_count (cons u us) (cons v vs) (inr (k, e)) = ap (λ k. 1 + k) e

pub apart_by_count : (f g : ℕ) (xs ys : List Term) (s t : Tree) → s ≡ app f (forest xs) → t ≡ app g (forest ys) → (length xs ≡ length ys → ⊥) → AreApart s t
apart_by_count f g xs ys s t is_s is_t n = rw (is_s, is_t) (λ e k. n (sym (count_forest xs) ∙ k ∙ count_forest ys))

pub as_many_terms : (xs ys : List Term) → length xs ≡ length ys → count (forest xs) ≡ count (forest ys)
as_many_terms xs ys e = count_forest xs ∙ e ∙ sym (count_forest ys)

pub apart_by_root : (f g : ℕ) (ss ts : Trees) (s t : Tree) → s ≡ app f ss → t ≡ app g ts → (f ≡ g → ⊥) → AreApart s t
apart_by_root f g ss ts s t is_s is_t n = rw (is_s, is_t) (λ e k. n e)

-- two applications of one symbol, to so many arguments
pub apart_test : (f g : ℕ) (xs ys : List Term) (s t : Tree) (m n : ℕ) → s ≡ app f (forest xs) → t ≡ app g (forest ys) → f ≡ g → m ≡ length xs → n ≡ length ys
    → IsTrue (not (nat_eq m n)) ↔ AreApart s t
apart_test f g xs ys s t m n is_s is_t roots is_m is_n = go (nat_eq m n) refl
  where
    parts : AreApart s t → f ≡ g → count (forest xs) ≡ count (forest ys) → ⊥
    parts apart = let P : Tree → Type 0 = λ u. AreApart u (app g (forest ys)) in subst P is_s (subst (AreApart s) is_t apart)

    go : (b : Bool) → nat_eq m n ≡ b → IsTrue (not b) ↔ AreApart s t
    go true e = let as_many : length xs ≡ length ys = sym is_m ∙ (eqb-true m n e ∙ is_n) in (λ yes. absurd cc, λ apart. absurd (parts apart roots (as_many_terms xs ys as_many)))
    go false e = (
      λ yes. apart_by_count f g xs ys s t is_s is_t (λ as_many. let same : IsTrue (nat_eq m n) = eq-eqb m n (is_m ∙ (as_many ∙ sym is_n)) in absurd (cc (same, e))),
      λ apart. refl,
    )
