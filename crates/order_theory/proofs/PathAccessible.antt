-- The path order is well-founded: each term is accessible.
use Rattle.std.proofs.Common.{◌≡◌, ℕ, zero, suc, ◌+◌, ◌<◌, refl, sym, ap, subst, arith}
use Rattle.trs_defs.specs.Tree.{Tree, var, app, Trees, nil, cons, count}
use Rattle.pair_theory.specs.Accessible.{Acc, acc}
use Rattle.trs_defs.specs.Every.{Every, every_nil, every_cons}
use Rattle.order_theory.specs.PathOrder.{PathGreater, by_arg, by_rank, by_lex, SomeAtLeast, equal_here, greater_here, further, GreaterThanAll, all_cons, LexGreater, lex_here, lex_later}
use Rattle.trs_defs.proofs.EqualTerms.{app_root, app_args}
use Rattle.pair_theory.proofs.Accessibility.{down, acc_induction}
use Rattle.order_theory.proofs.ListAccessible.{LexTo, lex_acc}

greater_case : (P : Type 0) {rank : ℕ → ℕ} {f : ℕ} {ss : Trees} {t : Tree} → PathGreater rank (app f ss) t
    → (SomeAtLeast rank ss t → P)
    → ((g : ℕ) (ts : Trees) → t ≡ app g ts → rank g < rank f → GreaterThanAll rank (app f ss) ts → P)
    → ((ts : Trees) → t ≡ app f ts → LexGreater rank ss ts → GreaterThanAll rank (app f ss) ts → P) → P
greater_case P (by_arg p) a b c = a p
greater_case P (by_rank r all) a b c = b _ _ refl r all
greater_case P (by_lex l all) a b c = c _ refl l all

lex_case : {rank : ℕ → ℕ} (P : Trees → Type 0) (s : Tree) (ss us : Trees) → LexGreater rank (cons s ss) us
    → ((t : Tree) (ts : Trees) → PathGreater rank s t → count ss ≡ count ts → P (cons t ts))
    → ((ts : Trees) → LexGreater rank ss ts → P (cons s ts)) → P us
lex_case P s ss us (lex_here g e) a b = a _ _ g e
lex_case P s ss us (lex_later l) a b = b _ l

no_lex : {rank : ℕ → ℕ} (ts : Trees) → LexGreater rank nil ts → ⊥
no_lex ts l = elim l [ ]

pub var_least : {rank : ℕ → ℕ} {x : ℕ} {t : Tree} → PathGreater rank (var x) t → ⊥
var_least g = elim g [ ]

pub lex_count : {rank : ℕ → ℕ} {ss ts : Trees} → LexGreater rank ss ts → count ss ≡ count ts
lex_count (lex_here g e) = ap (λ n. 1 + n) e
lex_count (lex_later l) = ap (λ n. 1 + n) (lex_count l)

pub all_head : {rank : ℕ → ℕ} {s t : Tree} {ts : Trees} → GreaterThanAll rank s (cons t ts) → PathGreater rank s t
all_head (all_cons g gs) = g

pub all_tail : {rank : ℕ → ℕ} {s t : Tree} {ts : Trees} → GreaterThanAll rank s (cons t ts) → GreaterThanAll rank s ts
all_tail (all_cons g gs) = gs

module _ (rank : ℕ → ℕ) where
  -- lexicographically smaller, with accessible members
  abbrev Smaller : Trees → Trees → Type 0
  Smaller = LexTo (PathGreater rank) (LexGreater rank) no_lex lex_case (λ ss ts l. lex_count l)

  smaller_acc : (ss : Trees) → Every (Acc (PathGreater rank)) ss → Acc Smaller ss
  smaller_acc ss small = lex_acc (PathGreater rank) (LexGreater rank) no_lex lex_case (λ ss ts l. lex_count l) (count ss) ss refl small

  some_acc : {ss : Trees} {t : Tree} → SomeAtLeast rank ss t → Every (Acc (PathGreater rank)) ss → Acc (PathGreater rank) t
  some_acc equal_here (every_cons h hs) = h
  some_acc (greater_here g) (every_cons h hs) = down h g
  some_acc (further p) (every_cons h hs) = some_acc p hs

  module _ (n : ℕ) (lower : (g : ℕ) → rank g < n → (ts : Trees) → Every (Acc (PathGreater rank)) ts → Acc (PathGreater rank) (app g ts))
      (f : ℕ) (is : rank f ≡ n) (ss : Trees) (small : Every (Acc (PathGreater rank)) ss)
      (rec : (ts : Trees) → Smaller ss ts → Acc (PathGreater rank) (app f ts)) where
    go : (h : ℕ) (us : Trees) → PathGreater rank (app f ss) (app h us) → (GreaterThanAll rank (app f ss) us → Every (Acc (PathGreater rank)) us) → Acc (PathGreater rank) (app h us)
    go h us g each = greater_case (Acc (PathGreater rank) (app h us)) g (λ p. some_acc p small)
        (λ g' ts e r all. lower h (subst (λ k. rank k < n) (sym (app_root e)) (subst (λ k. rank g' < k) is r)) us
        (each (subst (GreaterThanAll rank (app f ss)) (sym (app_args e)) all)))
        (λ ts e l all. subst (Acc (PathGreater rank)) (sym e)
        (rec ts (l, subst (Every (Acc (PathGreater rank))) (app_args e) (each (subst (GreaterThanAll rank (app f ss)) (sym (app_args e)) all)))))

    mutual
      smaller : (t : Tree) → PathGreater rank (app f ss) t → Acc (PathGreater rank) t
      smaller (var x) g = greater_case (Acc (PathGreater rank) (var x)) g (λ p. some_acc p small) (λ h ts e r all. cc) (λ ts e l all. cc)
      smaller (app h us) g = go h us g (smallers us)

      smallers : (ts : Trees) → GreaterThanAll rank (app f ss) ts → Every (Acc (PathGreater rank)) ts
      smallers nil all = every_nil
      smallers (cons t ts) all = every_cons (smaller t (all_head all)) (smallers ts (all_tail all))

  app_acc' : (n : ℕ) (f : ℕ) → rank f ≡ n → ((g : ℕ) → rank g < n → (ts : Trees) → Every (Acc (PathGreater rank)) ts → Acc (PathGreater rank) (app g ts))
      → (ss : Trees) → Every (Acc (PathGreater rank)) ss → Acc (PathGreater rank) (app f ss)
  app_acc' n f is lower ss small =
      acc_induction {P = λ ss. Every (Acc (PathGreater rank)) ss → Acc (PathGreater rank) (app f ss)}
      (λ ss below rec small. acc (λ t g. smaller n lower f is ss small (λ ts l. rec ts l l.1) t g))
      (smaller_acc ss small) small

  app_acc : (n : ℕ) (f : ℕ) → rank f < n → (ss : Trees) → Every (Acc (PathGreater rank)) ss → Acc (PathGreater rank) (app f ss)
  app_acc zero f lt ss small = absurd (omega arith)
  app_acc (suc n) f lt ss small = app_acc' (rank f) f refl (λ g r. app_acc n g (omega arith)) ss small

  mutual
    pub path_acc : (t : Tree) → Acc (PathGreater rank) t
    path_acc (var x) = acc (λ u g. absurd (var_least g))
    path_acc (app f ts) = app_acc (suc (rank f)) f (omega arith) ts (paths_acc ts)

    pub paths_acc : (ts : Trees) → Every (Acc (PathGreater rank)) ts
    paths_acc nil = every_nil
    paths_acc (cons t ts) = every_cons (path_acc t) (paths_acc ts)
