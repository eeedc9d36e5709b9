-- What decides whether one term is greater than another in the path order.
use Rattle.std.proofs.Common.{◌≡◌, ℕ, ◌+◌, ◌≤◌, ◌<◌, ◌↔◌, ◌⊎◌, inl, inr, refl, sym, ap, subst, ◌∙◌, arith, Bool, true, false, IsTrue, ◌==◌, Option, Some, None, IfSome}
use Rattle.std.proofs.lemmas.Bool.{eqb-true, eq-eqb}
use Rattle.trs_defs.specs.Tree.{Tree, Trees, var, app, nil, cons, count}
use Rattle.trs_defs.proofs.EqualTerms.{app_root, app_args, cons_first, cons_rest}
use Rattle.order_theory.specs.PathOrder.{PathGreater, by_arg, by_rank, by_lex, SomeAtLeast, equal_here, greater_here, further, GreaterThanAll, all_nil, all_cons, LexGreater, lex_here, lex_later}
use Rattle.order_theory.proofs.PathAccessible.{path_acc, var_least, lex_count, all_head, all_tail}
use Rattle.order_theory.proofs.PathLaws.{Mem, mem_head, mem_tail, greater_trans}
use Rattle.order_theory.proofs.PathDecides.{irreflexive, arg_case}
use Rattle.path_lpo.specs.declared.comparison.Comparison.{Comparison}
use Rattle.path_lpo.specs.declared.comparison.Comparison.TheVariants.{Same, Greater, Neither}
use Rattle.path_lpo.specs.Walked.{Walked, IsAgain}
use Rattle.path_lpo.specs.Comparison.{IsComparison, same_if, greater_if, is_greater, is_at_least}

to_app : {P : Type 0} {rank : ℕ → ℕ} {f g : ℕ} {ss ts : Trees} → PathGreater rank (app f ss) (app g ts)
    → (SomeAtLeast rank ss (app g ts) → P) → (rank g < rank f → GreaterThanAll rank (app f ss) ts → P) → (f ≡ g → LexGreater rank ss ts → P) → P
to_app (by_arg p) a b c = a p
to_app (by_rank r all) a b c = b r all
to_app (by_lex l all) a b c = c refl l

lex_cases : {P : Type 0} {rank : ℕ → ℕ} {a b : Tree} {us vs : Trees} → LexGreater rank (cons a us) (cons b vs)
    → (PathGreater rank a b → P) → (a ≡ b → LexGreater rank us vs → P) → P
lex_cases (lex_here g e) h l = h g
lex_cases (lex_later k) h l = l refl k

some_cases : {P : Type 0} {rank : ℕ → ℕ} {a t : Tree} {us : Trees} → SomeAtLeast rank (cons a us) t → (a ≡ t → P) → (PathGreater rank a t → P) → (SomeAtLeast rank us t → P) → P
some_cases equal_here e g r = e refl
some_cases (greater_here h) e g r = g h
some_cases (further p) e g r = r p

no_lex : {rank : ℕ → ℕ} {ts : Trees} → LexGreater rank nil ts → ⊥
no_lex l = elim l [ ]

no_some : {rank : ℕ → ℕ} {t : Tree} → SomeAtLeast rank nil t → ⊥
no_some p = elim p [ ]

module _ (rank : ℕ → ℕ) where
  not_self : {t : Tree} → PathGreater rank t t → ⊥
  not_self {t} g = irreflexive (path_acc rank t) g

  some_of : {ss : Trees} {t : Tree} → Mem t ss → SomeAtLeast rank ss t
  some_of mem_head = equal_here
  some_of (mem_tail m) = further (some_of m)

  above_argument : {f : ℕ} {ss : Trees} {a : Tree} → Mem a ss → PathGreater rank (app f ss) a
  above_argument m = by_arg (some_of m)

  above_arguments : (s : Tree) (g : ℕ) (ts us : Trees) → PathGreater rank s (app g ts) → ((u : Tree) → Mem u us → Mem u ts) → GreaterThanAll rank s us
  above_arguments s g ts nil above in_ts = all_nil
  above_arguments s g ts (cons u us) above in_ts =
      all_cons (greater_trans rank above u (above_argument (in_ts u mem_head))) (above_arguments s g ts us above (λ v m. in_ts v (mem_tail m)))

  -- a comparison that is greater or neither
  module _ (s t : Tree) (b : Bool) (X : Type 0) (other : s ≡ t → ⊥) (test : IsTrue b ↔ X) (so : X → PathGreater rank s t) (only : PathGreater rank s t → X) where
    pub decided : (c : Comparison) → c ≡ greater_if b → IsComparison rank s t c
    decided c e = rw e (go b refl)
      where
        go : (d : Bool) → b ≡ d → IsComparison rank s t (greater_if d)
        go true h = so (test.0 h)
        go false h = (other, λ g. let yes : IsTrue b = test.1 (only g) in absurd cc)

  pub two_variables : (x y : ℕ) (s t : Tree) (c : Comparison) → var x ≡ s → var y ≡ t → c ≡ same_if (x == y) → IsComparison rank s t c
  two_variables x y s t c is_s is_t e = rw (e, ← is_s, ← is_t) (go (x == y) refl)
    where
      go : (d : Bool) → (x == y) ≡ d → IsComparison rank (var x) (var y) (same_if d)
      go true h = ap var (eqb-true x y h)
      go false h = (λ same. let e : x ≡ y = cc in let yes : (x == y) ≡ true = eq-eqb x y e in absurd cc, var_least)

  pub variable_first : (x g : ℕ) (ts : Trees) (s t : Tree) → var x ≡ s → app g ts ≡ t → IsComparison rank s t Neither
  variable_first x g ts s t is_s is_t = rw (← is_s, ← is_t) (λ same. absurd cc, var_least)

  module _ (f : ℕ) (ss : Trees) (s t : Tree) (is_s : app f ss ≡ s) (b : Bool) (c : Comparison) (e : c ≡ greater_if b) where
    pub variable_second : (y : ℕ) → var y ≡ t → IsTrue b ↔ SomeAtLeast rank ss t → IsComparison rank s t c
    variable_second y is_t test =
        decided s t b (SomeAtLeast rank ss t) (λ same. let k : app f ss ≡ var y = cc in absurd cc) test
        (λ p. subst (λ u. PathGreater rank u t) is_s (by_arg p))
        (λ g. subst (SomeAtLeast rank ss) is_t (arg_case (subst (PathGreater rank (app f ss)) (sym is_t) (subst (λ u. PathGreater rank u t) (sym is_s) g)) (λ p. p))) c e

    module _ (g : ℕ) (ts : Trees) (is_t : app g ts ≡ t) where
      above : PathGreater rank s t → PathGreater rank (app f ss) (app g ts)
      above h = subst (PathGreater rank (app f ss)) (sym is_t) (subst (λ u. PathGreater rank u t) (sym is_s) h)

      back : PathGreater rank (app f ss) (app g ts) → PathGreater rank s t
      back h = subst (λ u. PathGreater rank u t) is_s (subst (PathGreater rank (app f ss)) is_t h)

      to_t : SomeAtLeast rank ss (app g ts) → SomeAtLeast rank ss t
      to_t p = subst (SomeAtLeast rank ss) is_t p

      by_some : SomeAtLeast rank ss t → PathGreater rank s t
      by_some p = subst (λ u. PathGreater rank u t) is_s (by_arg p)

      same_root : s ≡ t → f ≡ g
      same_root same = app_root (is_s ∙ same ∙ sym is_t)

      same_args : s ≡ t → ss ≡ ts
      same_args same = app_args (is_s ∙ same ∙ sym is_t)

      pub greater_rank : rank g < rank f → IsTrue b ↔ GreaterThanAll rank s ts → IsComparison rank s t c
      greater_rank less test = decided s t b (GreaterThanAll rank s ts) (λ same. let k : rank f ≡ rank g = ap rank (same_root same) in absurd (omega arith)) test
          (λ all. back (by_rank less (subst (λ u. GreaterThanAll rank u ts) (sym is_s) all)))
          (λ h. above_arguments s g ts ts (subst (PathGreater rank s) (sym is_t) h) (λ u m. m)) c e

      pub other_root : rank f ≤ rank g → (f ≡ g → ⊥) → IsTrue b ↔ SomeAtLeast rank ss t → IsComparison rank s t c
      other_root le n test = decided s t b (SomeAtLeast rank ss t) (λ same. n (same_root same)) test by_some
          (λ h. to_app (above h) to_t (λ less all. absurd (omega arith)) (λ k l. absurd (n k))) c e

      pub other_count : rank f ≤ rank g → (count ss ≡ count ts → ⊥) → IsTrue b ↔ SomeAtLeast rank ss t → IsComparison rank s t c
      other_count le n test = decided s t b (SomeAtLeast rank ss t) (λ same. n (ap count (same_args same))) test by_some
          (λ h. to_app (above h) to_t (λ less all. absurd (omega arith)) (λ k l. absurd (n (lex_count l)))) c e

  -- what is left to compare of the arguments of s and t, terms of one symbol, decides between them
  pub record Left (s t : Tree) (us vs : Trees) : Type 0 where
    pub as_many : count us ≡ count vs
    pub same : us ≡ vs → s ≡ t
    pub same_back : s ≡ t → us ≡ vs
    pub lex : LexGreater rank us vs → GreaterThanAll rank s vs → PathGreater rank s t
    pub some : SomeAtLeast rank us t → PathGreater rank s t
    pub cases : PathGreater rank s t → SomeAtLeast rank us t ⊎ LexGreater rank us vs
    pub above_first : (u : Tree) → Mem u us → PathGreater rank s u
    pub above_second : (v : Tree) → Mem v vs → PathGreater rank t v

  pub left_all : (f g : ℕ) (ss ts : Trees) (s t : Tree) → app f ss ≡ s → app g ts ≡ t → f ≡ g → rank f ≤ rank g → count ss ≡ count ts → Left s t ss ts
  left_all f g ss ts s t is_s is_t is_f le n = record {
    as_many = n;
    same = λ k. sym is_s ∙ ap (app f) k ∙ ap (λ h. app h ts) is_f ∙ is_t;
    same_back = λ k. app_args (is_s ∙ k ∙ sym is_t);
    lex = λ l all. subst (λ u. PathGreater rank u t) is_s (subst (PathGreater rank (app f ss)) (ap (λ h. app h ts) is_f ∙ is_t)
        (by_lex l (subst (λ u. GreaterThanAll rank u ts) (sym is_s) all)));
    some = λ p. subst (λ u. PathGreater rank u t) is_s (by_arg p);
    cases = λ h. to_app (subst (PathGreater rank (app f ss)) (sym is_t) (subst (λ u. PathGreater rank u t) (sym is_s) h))
        (λ p. inl (subst (SomeAtLeast rank ss) is_t p)) (λ less all. absurd (omega arith)) (λ k l. inr l);
    above_first = λ u m. subst (λ z. PathGreater rank z u) is_s (above_argument m);
    above_second = λ v m. subst (λ z. PathGreater rank z v) is_t (above_argument m);
  }

  module _ (s t : Tree) where
    left_ends : (us vs : Trees) → Left s t us vs → us ≡ nil → s ≡ t
    left_ends us vs h e = h.same (e ∙ sym (none vs (sym h.as_many ∙ ap count e)))
      where
        none : (ws : Trees) → count ws ≡ 0 → ws ≡ nil
        none nil k = refl
        none (cons w ws) k = absurd (omega arith)

    pub all_same : (us vs : Trees) → Left s t us vs → us ≡ nil → IsComparison rank s t Same
    all_same us vs h e = left_ends us vs h e

    pub uneven : (us vs more : Trees) (a : Tree) → Left s t us vs → us ≡ cons a more → vs ≡ nil → ⊥
    uneven us vs more a h e k = let one : count us ≡ 1 + count more = ap count e in let none : count vs ≡ 0 = ap count k in omega (arith, h.as_many)

    module _ (a b : Tree) (us vs : Trees) (h : Left s t (cons a us) (cons b vs)) where
      tails : count us ≡ count vs
      tails = omega (arith, h.as_many)

      below_second : GreaterThanAll rank s vs → PathGreater rank s b → GreaterThanAll rank s (cons b vs)
      below_second all g = all_cons g all

      next : a ≡ b → Left s t us vs
      next e = record {
        as_many = tails;
        same = λ k. h.same (ap (λ z. cons z us) e ∙ ap (cons b) k);
        same_back = λ k. cons_rest (h.same_back k);
        lex = λ l all. h.lex (subst (λ z. LexGreater rank (cons a us) (cons z vs)) e (lex_later l)) (all_cons (subst (PathGreater rank s) e (h.above_first a mem_head)) all);
        some = λ p. h.some (further p);
        cases = λ g. elim (h.cases g) [
          | inl q ↦ some_cases q
              (λ k. absurd (not_self (subst (PathGreater rank t) (sym e ∙ k) (h.above_second b mem_head))))
              (λ k. absurd (not_self (greater_trans rank (h.above_second b mem_head) t (subst (λ z. PathGreater rank z t) e k)))) (λ p. inl p)
          | inr q ↦ lex_cases q (λ k. absurd (not_self (subst (PathGreater rank a) (sym e) k))) (λ k m. inr m)
        ];
        above_first = λ u m. h.above_first u (mem_tail m);
        above_second = λ v m. h.above_second v (mem_tail m);
      }

      other : (a ≡ b → ⊥) → s ≡ t → ⊥
      other n k = n (cons_first (h.same_back k))

      in_rest : (v : Tree) → Mem v vs → PathGreater rank t v
      in_rest v m = h.above_second v (mem_tail m)

      above_rest : (ws : Trees) → ((v : Tree) → Mem v ws → PathGreater rank t v) → PathGreater rank s t → GreaterThanAll rank s ws
      above_rest nil k g = all_nil
      above_rest (cons w ws) k g = all_cons (greater_trans rank g w (k w mem_head)) (above_rest ws (λ v m. k v (mem_tail m)) g)

      first_greater : PathGreater rank a b → (d : Bool) → IsTrue d ↔ GreaterThanAll rank s vs → (c : Comparison) → c ≡ greater_if d → IsComparison rank s t c
      first_greater g d test = decided s t d (GreaterThanAll rank s vs) (other (λ e. not_self (subst (PathGreater rank a) (sym e) g))) test
          (λ all. h.lex (lex_here g tails) (all_cons (greater_trans rank (h.above_first a mem_head) b g) all))
          (above_rest vs in_rest)

      first_neither : (a ≡ b → ⊥) → (PathGreater rank a b → ⊥) → (d : Bool) → IsTrue d ↔ SomeAtLeast rank us t → (c : Comparison) → c ≡ greater_if d → IsComparison rank s t c
      first_neither n m d test = decided s t d (SomeAtLeast rank us t) (other n) test (λ p. h.some (further p))
          (λ g. elim (h.cases g) [
            | inl q ↦ some_cases q
                (λ k. absurd (m (subst (λ z. PathGreater rank z b) (sym k) (h.above_second b mem_head))))
                (λ k. absurd (m (greater_trans rank k b (h.above_second b mem_head)))) (λ p. p)
            | inr q ↦ lex_cases q (λ k. absurd (m k)) (λ k l. absurd (n k))
          ])

    -- the same for lists that were split
    module _ (us vs more others : Trees) (a b : Tree) (h : Left s t us vs) (is_us : us ≡ cons a more) (is_vs : vs ≡ cons b others) where
      split : Left s t (cons a more) (cons b others)
      split = subst (λ z. Left s t z (cons b others)) is_us (subst (Left s t us) is_vs h)

      pub pair_same : (c : Comparison) → IsComparison rank a b c → c ≡ Same → Left s t more others
      pair_same c k e = next a b more others split (subst (IsComparison rank a b) e k)

      pub pair_greater : (c : Comparison) → IsComparison rank a b c → c ≡ Greater → (d : Bool) → IsTrue d ↔ GreaterThanAll rank s others
          → (r : Comparison) → r ≡ greater_if d → IsComparison rank s t r
      pair_greater c k e = first_greater a b more others split (subst (IsComparison rank a b) e k)

      pub pair_neither : (c : Comparison) → IsComparison rank a b c → c ≡ Neither → (d : Bool) → IsTrue d ↔ SomeAtLeast rank more t
          → (r : Comparison) → r ≡ greater_if d → IsComparison rank s t r
      pair_neither c k e = let p : (a ≡ b → ⊥) × (PathGreater rank a b → ⊥) = subst (IsComparison rank a b) e k in first_neither a b more others split p.0 p.1

  -- walks over the arguments
  pub greater_test : (s t : Tree) (c : Comparison) (b : Bool) → IsComparison rank s t c → b ≡ is_greater c → IsTrue b ↔ PathGreater rank s t
  greater_test s t Same b h e = (λ yes. absurd cc, λ g. absurd (not_self (subst (PathGreater rank s) (sym h) g)))
  greater_test s t Greater b h e = (λ yes. h, λ g. e)
  greater_test s t Neither b h e = (λ yes. absurd cc, λ g. absurd (h.1 g))

  pub at_least_test : (s t : Tree) (c : Comparison) (b : Bool) → IsComparison rank s t c → b ≡ is_at_least c → IsTrue b ↔ ((s ≡ t) ⊎ PathGreater rank s t)
  at_least_test s t Same b h e = (λ yes. inl h, λ g. e)
  at_least_test s t Greater b h e = (λ yes. inr h, λ g. e)
  at_least_test s t Neither b h e = (λ yes. absurd cc, λ g. elim g [ inl k ↦ absurd (h.0 k) | inr k ↦ absurd (h.1 k) ])

  module _ (s : Tree) (whole : Type 0) (us : Trees) (left : GreaterThanAll rank s us ↔ whole) where
    pub all_end : us ≡ nil → IsTrue true ↔ whole
    all_end e = (λ yes. left.0 (subst (GreaterThanAll rank s) (sym e) all_nil), λ w. refl)

    pub all_next : (a : Tree) (more : Trees) → us ≡ cons a more → PathGreater rank s a → GreaterThanAll rank s more ↔ whole
    all_next a more e g = (λ all. left.0 (subst (GreaterThanAll rank s) (sym e) (all_cons g all)), λ w. all_tail (subst (GreaterThanAll rank s) e (left.1 w)))

    pub all_stop : (a : Tree) (more : Trees) → us ≡ cons a more → (PathGreater rank s a → ⊥) → IsTrue false ↔ whole
    all_stop a more e n = (λ yes. absurd cc, λ w. absurd (n (all_head (subst (GreaterThanAll rank s) e (left.1 w)))))

  module _ (t : Tree) (whole : Type 0) (us : Trees) (left : SomeAtLeast rank us t ↔ whole) where
    pub some_end : us ≡ nil → IsTrue false ↔ whole
    some_end e = (λ yes. absurd cc, λ w. absurd (no_some (subst (λ z. SomeAtLeast rank z t) e (left.1 w))))

    pub some_stop : (a : Tree) (more : Trees) → us ≡ cons a more → (a ≡ t) ⊎ PathGreater rank a t → IsTrue true ↔ whole
    some_stop a more e w = (
      λ yes. left.0 (subst (λ z. SomeAtLeast rank z t) (sym e) (elim w [ inl k ↦ subst (SomeAtLeast rank (cons a more)) k equal_here | inr g ↦ greater_here g ])),
      λ w. refl,
    )

    pub some_next : (a : Tree) (more : Trees) → us ≡ cons a more → ((a ≡ t) ⊎ PathGreater rank a t → ⊥) → SomeAtLeast rank more t ↔ whole
    some_next a more e n = (
      λ p. left.0 (subst (λ z. SomeAtLeast rank z t) (sym e) (further p)),
      λ w. some_cases (subst (λ z. SomeAtLeast rank z t) e (left.1 w)) (λ k. absurd (n (inl k))) (λ g. absurd (n (inr g))) (λ p. p),
    )

  module _ (t : Tree) (whole : Type 0) (us : Trees) (left : SomeAtLeast rank us t ↔ whole) where
    pub some_found : (a : Tree) (more : Trees) → us ≡ cons a more → (c : Comparison) (b : Bool) → IsComparison rank a t c → b ≡ is_at_least c → b ≡ true → IsTrue true ↔ whole
    some_found a more e c b is test reaches = some_stop t whole us left a more e ((at_least_test a t c b is test).0 reaches)

    pub some_passed : (a : Tree) (more : Trees) → us ≡ cons a more → (c : Comparison) (b : Bool) → IsComparison rank a t c → b ≡ is_at_least c → b ≡ false → SomeAtLeast rank more t ↔ whole
    some_passed a more e c b is test fails = some_next t whole us left a more e (λ w. let reaches : b ≡ true = (at_least_test a t c b is test).1 w in absurd (cc (reaches, fails)))

  -- a term that is greater than the last one is greater than the same again
  pub again_greater : {N L : Type 0} (w : Walked N L) (s b : N) (last : Option N) → IfSome last (λ a. PathGreater rank (w.tree s) (w.tree a)) → IsAgain w last b → PathGreater rank (w.tree s) (w.tree b)
  again_greater w s b None h again = absurd again
  again_greater w s b (Some a) h again = subst (PathGreater rank (w.tree s)) again h

  -- a term that another one exceeds neither is that one nor exceeds it
  pub exceeded : (s t : Tree) → PathGreater rank t s → IsComparison rank s t Neither
  exceeded s t g = (λ same. not_self (subst (λ u. PathGreater rank u s) (sym same) g), λ h. not_self (greater_trans rank g t h))
