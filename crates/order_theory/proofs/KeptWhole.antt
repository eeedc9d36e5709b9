-- A filter that keeps all places of a table's symbols changes no well-formed term.
use Rattle.std.proofs.Common.{◌≡◌, ℕ, zero, suc, ◌-◌, refl, sym, ap, subst, arith, ◌∙◌, List}
use Rattle.trs_defs.specs.Tree.{Tree, var, app, Trees, nil, cons, count}
use Rattle.trs_defs.specs.WellFormed.{IsWellFormed, AreWellFormed}
use Rattle.trs_defs.proofs.EqualTerms.{join_cons}
use Rattle.order_theory.specs.ArgumentFilter.{ArgumentFilter, keep_one, select, by_filter, filtered, filtered_all, PathStrict}
use Rattle.order_theory.specs.PathOrder.{PathGreater}
use Rattle.order_theory.specs.Keeping.{places_from, KeepsAllPlaces}

-- what stands behind the first items
abbrev behind : ℕ → Trees → Trees
behind zero ts = ts
behind (suc k) nil = nil
behind (suc k) (cons t ts) = behind k ts

keeps_next : (k : ℕ) (ts : Trees) (t : Tree) (us rest : Trees) → behind k ts ≡ cons t us → keep_one k ts rest ≡ cons t rest
keeps_next zero nil t us rest e = absurd cc
keeps_next (suc k) nil t us rest e = absurd cc
keeps_next zero (cons s ts) t us rest e = let same : s ≡ t = cc e in ap (λ x. cons x rest) same
keeps_next (suc k) (cons s ts) t us rest e = keeps_next k ts t us rest e

next_behind : (k : ℕ) (ts : Trees) (t : Tree) (us : Trees) → behind k ts ≡ cons t us → behind (suc k) ts ≡ us
next_behind zero nil t us e = absurd cc
next_behind (suc k) nil t us e = absurd cc
next_behind zero (cons s ts) t us e = cc e
next_behind (suc k) (cons s ts) t us e = next_behind k ts t us e

selects_rest : (n k : ℕ) (ts us : Trees) → behind k ts ≡ us → count us ≡ n → select (places_from (suc k) n) ts ≡ us
selects_rest zero k ts nil e c = refl
selects_rest zero k ts (cons u us) e c = absurd (omega (arith, c))
selects_rest (suc n) k ts nil e c = absurd (omega (arith, c))
selects_rest (suc n) k ts (cons u us) e c =
    let index : suc k - 1 ≡ k = omega arith in
    let fewer : count us ≡ n = omega (arith, c) in
    let rest : select (places_from (suc (suc k)) n) ts ≡ us = selects_rest n (suc k) ts us (next_behind k ts u us e) fewer in
    ap (λ i. keep_one i ts (select (places_from (suc (suc k)) n) ts)) index
    ∙ (ap (keep_one k ts) rest ∙ keeps_next k ts u us us e)

selects_all : (ts : Trees) → select (places_from 1 (count ts)) ts ≡ ts
selects_all ts = selects_rest (count ts) 0 ts ts refl refl

module _ (arities : List ℕ) (filter : ℕ → ArgumentFilter) (keeps : KeepsAllPlaces arities filter) where
  mutual
    pub filtered_whole : (t : Tree) → IsWellFormed arities t → filtered filter t ≡ t
    filtered_whole (var x) well = refl
    filtered_whole (app f ts) well =
        ap (by_filter f (filter f)) (all_filtered_whole ts well.1)
        ∙ (ap (λ φ. by_filter f φ ts) (keeps f (count ts) well.0) ∙ ap (app f) (selects_all ts))

    pub all_filtered_whole : (ts : Trees) → AreWellFormed arities ts → filtered_all filter ts ≡ ts
    all_filtered_whole nil well = refl
    all_filtered_whole (cons t ts) well = join_cons (filtered_whole t well.0) (all_filtered_whole ts well.1)

  -- so the order is the path order of the terms themselves
  module _ (rank : ℕ → ℕ) (s t : Tree) (well_s : IsWellFormed arities s) (well_t : IsWellFormed arities t) where
    pub greater_of_strict : PathStrict rank filter s t → PathGreater rank s t
    greater_of_strict g =
        let P : Tree → Tree → Type 0 = λ x y. PathGreater rank x y in
        subst (λ x. P x t) (filtered_whole s well_s) (subst (P (filtered filter s)) (filtered_whole t well_t) g)

    pub strict_of_greater : PathGreater rank s t → PathStrict rank filter s t
    strict_of_greater g =
        let P : Tree → Tree → Type 0 = λ x y. PathGreater rank x y in
        subst (λ x. P x (filtered filter t)) (sym (filtered_whole s well_s)) (subst (P s) (sym (filtered_whole t well_t)) g)
