-- The laws of the path order on filtered terms.
use Rattle.std.proofs.Common.{◌≡◌, ℕ, zero, suc, ◌+◌, ◌-◌, refl, sym, ap, subst, ◌∙◌, ◌⊎◌, inl, inr, List, [], ◌∷◌}
use Rattle.trs_defs.specs.Tree.{Tree, app, Trees, nil, cons, count}
use Rattle.trs_defs.specs.Substitution.{apply}
use Rattle.order_theory.specs.PathOrder.{PathGreater, by_lex, SomeAtLeast, equal_here, greater_here, further, LexGreater, lex_here, lex_later}
use Rattle.order_theory.specs.ArgumentFilter.{ArgumentFilter, To, Keep, keep_one, select, by_filter, filtered, filtered_all, PathStrict, PathWeak}
use Rattle.pair_theory.specs.ItemOr.{item_or}
use Rattle.trs_defs.specs.Step.{Inside, InsideOne, here, deep, first, later}
use Rattle.trs_defs.specs.Every.{Every, every_nil, every_cons}
use Rattle.pair_theory.specs.ReductionPair.{ReductionPair, AllTerms}
use Rattle.order_theory.proofs.Filters.{path_well_founded, after, filtered_apply}
use Rattle.order_theory.proofs.PathLaws.{greater_apply, greater_trans, Mem, mem_head, mem_tail, all_of}

module _ (rank : ℕ → ℕ) where
  abbrev AtLeast : Tree → Tree → Type 0
  AtLeast s t = (s ≡ t) ⊎ PathGreater rank s t

  -- place by place, equal or greater
  data AtLeastEach : Trees → Trees → Type 0 where
    at_least_nil : AtLeastEach nil nil
    at_least_cons : {s t : Tree} {ss ts : Trees} → AtLeast s t → AtLeastEach ss ts → AtLeastEach (cons s ss) (cons t ts)

  at_least_same : (ts : Trees) → AtLeastEach ts ts
  at_least_same nil = at_least_nil
  at_least_same (cons t ts) = at_least_cons (inl refl) (at_least_same ts)

  at_least_at : (i : ℕ) {ss ts : Trees} (d : Tree) → AtLeastEach ss ts → AtLeast (item_or i ss d) (item_or i ts d)
  at_least_at i d at_least_nil = inl refl
  at_least_at zero d (at_least_cons p ps) = p
  at_least_at (suc i) d (at_least_cons p ps) = at_least_at i d ps

  at_least_keep : (i : ℕ) {ss ts us vs : Trees} → AtLeastEach ss ts → AtLeastEach us vs → AtLeastEach (keep_one i ss us) (keep_one i ts vs)
  at_least_keep i at_least_nil q = q
  at_least_keep zero (at_least_cons p ps) q = at_least_cons p q
  at_least_keep (suc i) (at_least_cons p ps) q = at_least_keep i ps q

  at_least_select : (is : List ℕ) {ss ts : Trees} → AtLeastEach ss ts → AtLeastEach (select is ss) (select is ts)
  at_least_select [] p = at_least_nil
  at_least_select (i ∷ is) p = at_least_keep (i - 1) p (at_least_select is p)

  at_least_count : {ss ts : Trees} → AtLeastEach ss ts → count ss ≡ count ts
  at_least_count at_least_nil = refl
  at_least_count (at_least_cons p ps) = ap (λ n. 1 + n) (at_least_count ps)

  at_least_lex : {ss ts : Trees} → AtLeastEach ss ts → (ss ≡ ts) ⊎ LexGreater rank ss ts
  at_least_lex at_least_nil = inl refl
  at_least_lex (at_least_cons {s = s} {ss = ss} {ts = ts} (inl e) ps) = elim (at_least_lex ps)
      [ inl e' ↦ inl cc | inr l ↦ inr (subst (λ t. LexGreater rank (cons s ss) (cons t ts)) e (lex_later l)) ]
  at_least_lex (at_least_cons (inr g) ps) = inr (lex_here g (at_least_count ps))

  at_least_mem : {ss ts : Trees} → AtLeastEach ss ts → (t : Tree) → Mem t ts → SomeAtLeast rank ss t
  at_least_mem at_least_nil t m = elim m [ ]
  at_least_mem (at_least_cons {s = s} {ss = ss} (inl e) ps) t mem_head = subst (SomeAtLeast rank (cons s ss)) e equal_here
  at_least_mem (at_least_cons (inr g) ps) t mem_head = greater_here g
  at_least_mem (at_least_cons p ps) t (mem_tail m) = further (at_least_mem ps t m)

  at_least_app : (f : ℕ) {ss ts : Trees} → AtLeastEach ss ts → AtLeast (app f ss) (app f ts)
  at_least_app f {ss} {ts} p = elim (at_least_lex p) [ inl e ↦ inl (ap (app f) e) | inr l ↦ inr (by_lex l (all_of rank f ss ts (at_least_mem p))) ]

  at_least_filter : (f : ℕ) (φ : ArgumentFilter) {ss ts : Trees} → AtLeastEach ss ts → AtLeast (by_filter f φ ss) (by_filter f φ ts)
  at_least_filter f (To i) p = at_least_at (i - 1) (app f nil) p
  at_least_filter f (Keep is) p = at_least_app f (at_least_select is p)

  module _ (π : ℕ → ArgumentFilter) where
    mutual
      pub weak_context : {s t : Tree} → Inside (PathWeak rank π) s t → PathWeak rank π s t
      weak_context (here w) = w
      weak_context (deep {f = f} p) = at_least_filter f (π f) (weak_contexts p)

      weak_contexts : {ss ts : Trees} → InsideOne (PathWeak rank π) ss ts → AtLeastEach (filtered_all π ss) (filtered_all π ts)
      weak_contexts (first {ts = ts} p) = at_least_cons (weak_context p) (at_least_same (filtered_all π ts))
      weak_contexts (later p) = at_least_cons (inl refl) (weak_contexts p)

    pub strict_apply : (σ : ℕ → Tree) (s t : Tree) → PathStrict rank π s t → PathStrict rank π (apply σ s) (apply σ t)
    strict_apply σ s t g = rw (filtered_apply π σ s, filtered_apply π σ t) (greater_apply rank (after π σ) g)

    pub weak_apply : (σ : ℕ → Tree) (s t : Tree) → PathWeak rank π s t → PathWeak rank π (apply σ s) (apply σ t)
    weak_apply σ s t (inl e) = inl (filtered_apply π σ s ∙ ap (apply (after π σ)) e ∙ sym (filtered_apply π σ t))
    weak_apply σ s t (inr g) = inr (strict_apply σ s t g)

    pub weak_strict : (s t u : Tree) → PathWeak rank π s t → PathStrict rank π t u → PathStrict rank π s u
    weak_strict s t u (inl e) g = subst (λ z. PathGreater rank z (filtered π u)) (sym e) g
    weak_strict s t u (inr g') g = greater_trans rank g' (filtered π u) g

    pub weak_trans : (s t u : Tree) → PathWeak rank π s t → PathWeak rank π t u → PathWeak rank π s u
    weak_trans s t u w (inl e) = subst (λ z. (filtered π s ≡ z) ⊎ PathGreater rank (filtered π s) z) e w
    weak_trans s t u w (inr g) = inr (weak_strict s t u w g)

pub each_term : (ts : Trees) → Every AllTerms ts
each_term nil = every_nil
each_term (cons t ts) = every_cons tt (each_term ts)

-- the path order with ranks and filters
pub path_pair : (rank : ℕ → ℕ) (filter : ℕ → ArgumentFilter) → ReductionPair (PathWeak rank filter) (PathStrict rank filter) AllTerms
path_pair rank filter = record {
  spoken_var = λ v. tt;
  spoken_args = λ f ts w. each_term ts;
  spoken_apply = λ σ t k w. tt;
  weak_refl = λ t. inl refl;
  weak_trans = λ s t u k l m. weak_trans rank filter s t u;
  weak_context = λ s t k l. weak_context rank filter;
  weak_apply = λ σ s t k l m. weak_apply rank filter σ s t;
  strict_apply = λ σ s t k l m. strict_apply rank filter σ s t;
  weak_strict = λ s t u k l m. weak_strict rank filter s t u;
  well_founded = path_well_founded rank filter;
}
