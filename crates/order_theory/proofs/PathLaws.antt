-- The path order is closed under substitutions and contexts, and transitive.
use Rattle.std.proofs.Common.{◌≡◌, ℕ, ◌<◌, refl, sym, subst, arith, ◌∙◌}
use Rattle.trs_defs.specs.Tree.{Tree, var, app, Trees, nil, cons, count}
use Rattle.trs_defs.specs.Substitution.{apply, apply_all}
use Rattle.trs_defs.specs.Step.{Inside, InsideOne, RootStep, StepBy, here, deep, first, later}
use Rattle.trs_defs.proofs.StepLaws.{inside_of_more}
use Rattle.pair_theory.specs.Terminates.{Terminates}
use Rattle.pair_theory.specs.Subterm.{Sub, under, Subs, in_head, in_tail}
use Rattle.trs_defs.specs.Every.{Every, every_nil, every_cons}
use Rattle.order_theory.specs.PathOrder.{PathGreater, by_arg, by_rank, by_lex, SomeAtLeast, equal_here, greater_here, further, GreaterThanAll, all_nil, all_cons, LexGreater, lex_here, lex_later}
use Rattle.trs_defs.proofs.ArgumentLists.{count_apply_all}
use Rattle.pair_theory.proofs.Subterms.{not_in_nil, below_root}
use Rattle.pair_theory.proofs.Accessibility.{acc_image}
use Rattle.order_theory.proofs.PathAccessible.{path_acc, lex_count}

pub data Mem : Tree → Trees → Type 0 where
  mem_head : {t : Tree} {ts : Trees} → Mem t (cons t ts)
  mem_tail : {s t : Tree} {ts : Trees} → Mem t ts → Mem t (cons s ts)

module _ (rank : ℕ → ℕ) where
  mutual
    pub greater_apply : (σ : ℕ → Tree) {s t : Tree} → PathGreater rank s t → PathGreater rank (apply σ s) (apply σ t)
    greater_apply σ (by_arg p) = by_arg (some_apply σ p)
    greater_apply σ (by_rank r all) = by_rank r (all_apply σ all)
    greater_apply σ (by_lex l all) = by_lex (lex_apply σ l) (all_apply σ all)

    some_apply : (σ : ℕ → Tree) {ss : Trees} {t : Tree} → SomeAtLeast rank ss t → SomeAtLeast rank (apply_all σ ss) (apply σ t)
    some_apply σ equal_here = equal_here
    some_apply σ (greater_here g) = greater_here (greater_apply σ g)
    some_apply σ (further p) = further (some_apply σ p)

    all_apply : (σ : ℕ → Tree) {s : Tree} {ts : Trees} → GreaterThanAll rank s ts → GreaterThanAll rank (apply σ s) (apply_all σ ts)
    all_apply σ all_nil = all_nil
    all_apply σ (all_cons g gs) = all_cons (greater_apply σ g) (all_apply σ gs)

    lex_apply : (σ : ℕ → Tree) {ss ts : Trees} → LexGreater rank ss ts → LexGreater rank (apply_all σ ss) (apply_all σ ts)
    lex_apply σ (lex_here {ss = ss} {ts = ts} g e) = lex_here (greater_apply σ g) (count_apply_all σ ss ∙ e ∙ sym (count_apply_all σ ts))
    lex_apply σ (lex_later l) = lex_later (lex_apply σ l)

  pub all_of : (f : ℕ) (us ts : Trees) → ((t : Tree) → Mem t ts → SomeAtLeast rank us t) → GreaterThanAll rank (app f us) ts
  all_of f us nil k = all_nil
  all_of f us (cons t ts) k = all_cons (by_arg (k t mem_head)) (all_of f us ts (λ x m. k x (mem_tail m)))

  some_mem : {ss : Trees} (t : Tree) → Mem t ss → SomeAtLeast rank ss t
  some_mem t mem_head = equal_here
  some_mem t (mem_tail m) = further (some_mem t m)

  some_first : {s t u : Tree} {ts : Trees} → PathGreater rank s t → Mem u (cons t ts) → SomeAtLeast rank (cons s ts) u
  some_first g mem_head = greater_here g
  some_first g (mem_tail m) = further (some_mem _ m)

  some_later : {s u : Tree} {ss ts : Trees} → ((t : Tree) → Mem t ts → SomeAtLeast rank ss t) → Mem u (cons s ts) → SomeAtLeast rank (cons s ss) u
  some_later k mem_head = equal_here
  some_later k (mem_tail m) = further (k _ m)

  -- closed under contexts
  mutual
    pub greater_context : {s t : Tree} → Inside (PathGreater rank) s t → PathGreater rank s t
    greater_context (here g) = g
    greater_context (deep {ss = ss} {ts = ts} d) = by_lex (context_lex d) (all_of _ ss ts (λ t m. context_some d t m))

    context_lex : {ss ts : Trees} → InsideOne (PathGreater rank) ss ts → LexGreater rank ss ts
    context_lex (first d) = lex_here (greater_context d) refl
    context_lex (later d) = lex_later (context_lex d)

    context_some : {ss ts : Trees} → InsideOne (PathGreater rank) ss ts → (t : Tree) → Mem t ts → SomeAtLeast rank ss t
    context_some (first d) t m = some_first (greater_context d) m
    context_some (later d) t m = some_later (context_some d) m

  -- a system whose rules go down goes down in every context
  module _ (rule : Tree → Tree → Type 0) (falls : (l r : Tree) → rule l r → PathGreater rank l r) where
    root_greater : (s t : Tree) → RootStep rule s t → PathGreater rank s t
    root_greater s t (l, r, σ, h, e, e') =
        subst (λ z. PathGreater rank z t) (sym e) (subst (PathGreater rank (apply σ l)) (sym e') (greater_apply σ (falls l r h)))

    step_greater : {s t : Tree} → StepBy rule s t → PathGreater rank s t
    step_greater d = greater_context (inside_of_more (RootStep rule) (PathGreater rank) root_greater d)

    pub falling_terminates : (t : Tree) → Terminates rule t
    falling_terminates t = acc_image (λ x. x) (StepBy rule) (PathGreater rank) (λ x y s. step_greater s) (path_acc rank t) t refl

  -- transitivity
  abbrev Onto : Tree → Tree → Type 0
  Onto s t = (u : Tree) → PathGreater rank t u → PathGreater rank s u

  some_onto : {f : ℕ} {ss ts : Trees} {u : Tree} → Every (Onto (app f ss)) ts → GreaterThanAll rank (app f ss) ts → SomeAtLeast rank ts u → PathGreater rank (app f ss) u
  some_onto ks (all_cons g gs) equal_here = g
  some_onto (every_cons k ks) gs (greater_here g) = k _ g
  some_onto (every_cons k ks) (all_cons g gs) (further p) = some_onto ks gs p

  mutual
    rank_onto : {f g : ℕ} {ss ts : Trees} {u : Tree} → rank g < rank f → GreaterThanAll rank (app f ss) ts → Every (Onto (app f ss)) ts → PathGreater rank (app g ts) u → PathGreater rank (app f ss) u
    rank_onto r all ks (by_arg p) = some_onto ks all p
    rank_onto r all ks (by_rank r' all') = by_rank (omega arith) (rank_onto_all r all ks all')
    rank_onto r all ks (by_lex l all') = by_rank r (rank_onto_all r all ks all')

    rank_onto_all : {f g : ℕ} {ss ts us : Trees} → rank g < rank f → GreaterThanAll rank (app f ss) ts → Every (Onto (app f ss)) ts → GreaterThanAll rank (app g ts) us → GreaterThanAll rank (app f ss) us
    rank_onto_all r all ks all_nil = all_nil
    rank_onto_all r all ks (all_cons g gs) = all_cons (rank_onto r all ks g) (rank_onto_all r all ks gs)

  mutual
    lex_onto : {f : ℕ} {ss ts : Trees} {u : Tree} → ((us : Trees) → LexGreater rank ts us → LexGreater rank ss us) → GreaterThanAll rank (app f ss) ts → Every (Onto (app f ss)) ts → PathGreater rank (app f ts) u → PathGreater rank (app f ss) u
    lex_onto l all ks (by_arg p) = some_onto ks all p
    lex_onto l all ks (by_rank r all') = by_rank r (lex_onto_all l all ks all')
    lex_onto l all ks (by_lex l' all') = by_lex (l _ l') (lex_onto_all l all ks all')

    lex_onto_all : {f : ℕ} {ss ts us : Trees} → ((us : Trees) → LexGreater rank ts us → LexGreater rank ss us) → GreaterThanAll rank (app f ss) ts → Every (Onto (app f ss)) ts → GreaterThanAll rank (app f ts) us → GreaterThanAll rank (app f ss) us
    lex_onto_all l all ks all_nil = all_nil
    lex_onto_all l all ks (all_cons g gs) = all_cons (lex_onto l all ks g) (lex_onto_all l all ks gs)

  lex_on : {s t : Tree} {ss ts us : Trees} → PathGreater rank s t → Onto s t → count ss ≡ count ts → LexGreater rank (cons t ts) us → LexGreater rank (cons s ss) us
  lex_on g k e (lex_here g' e') = lex_here (k _ g') (e ∙ e')
  lex_on g k e (lex_later l) = lex_here g (e ∙ lex_count l)

  lex_past : {s : Tree} {ss ts us : Trees} → LexGreater rank ss ts → ((us : Trees) → LexGreater rank ts us → LexGreater rank ss us) → LexGreater rank (cons s ts) us → LexGreater rank (cons s ss) us
  lex_past l k (lex_here g e) = lex_here g (lex_count l ∙ e)
  lex_past l k (lex_later l') = lex_later (k _ l')

  mutual
    pub greater_trans : {s t : Tree} → PathGreater rank s t → (u : Tree) → PathGreater rank t u → PathGreater rank s u
    greater_trans (by_arg p) u g = by_arg (some_trans p u g)
    greater_trans (by_rank r all) u g = rank_onto r all (all_trans all) g
    greater_trans (by_lex l all) u g = lex_onto (lex_trans l) all (all_trans all) g

    some_trans : {ss : Trees} {t : Tree} → SomeAtLeast rank ss t → (u : Tree) → PathGreater rank t u → SomeAtLeast rank ss u
    some_trans equal_here u g = greater_here g
    some_trans (greater_here g') u g = greater_here (greater_trans g' u g)
    some_trans (further p) u g = further (some_trans p u g)

    all_trans : {s : Tree} {ts : Trees} → GreaterThanAll rank s ts → Every (Onto s) ts
    all_trans all_nil = every_nil
    all_trans (all_cons g gs) = every_cons (greater_trans g) (all_trans gs)

    lex_trans : {ss ts : Trees} → LexGreater rank ss ts → (us : Trees) → LexGreater rank ts us → LexGreater rank ss us
    lex_trans (lex_here g e) us l = lex_on g (greater_trans g) e l
    lex_trans (lex_later l') us l = lex_past l' (lex_trans l') l

  -- what is smaller has no new variables
  mutual
    pub greater_vars : {s t : Tree} → PathGreater rank s t → (x : ℕ) → Sub (var x) t → Sub (var x) s
    greater_vars (by_arg p) x q = under (some_vars p x q)
    greater_vars (by_rank r all) x q = all_vars all x (below_root q)
    greater_vars (by_lex l all) x q = all_vars all x (below_root q)

    some_vars : {ss : Trees} {t : Tree} → SomeAtLeast rank ss t → (x : ℕ) → Sub (var x) t → Subs (var x) ss
    some_vars equal_here x q = in_head q
    some_vars (greater_here g) x q = in_head (greater_vars g x q)
    some_vars (further p) x q = in_tail (some_vars p x q)

    all_vars : {s : Tree} {ts : Trees} → GreaterThanAll rank s ts → (x : ℕ) → Subs (var x) ts → Sub (var x) s
    all_vars all_nil x q = absurd (not_in_nil q)
    all_vars (all_cons g gs) x (in_head q) = greater_vars g x q
    all_vars (all_cons g gs) x (in_tail q) = all_vars gs x q
