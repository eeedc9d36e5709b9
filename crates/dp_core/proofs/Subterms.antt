-- Whether a term stands in another one.
use Rattle.std.specs.Prelude.{◌≡◌, ◌≤◌, ◌<◌, ℕ, ◌+◌, ◌-◌, ◌^◌, min, List, [], ◌∷◌, length, drop, get_or}
use Rattle.std.proofs.Common.{zero, suc, refl, sym, ap, subst, arith, ◌∙◌}
use Rattle.std.proofs.lemmas.List.{drop_all}
use Rattle.trs_defs.specs.Tree.{Tree, Trees, var, app, nil, cons}
use Rattle.trs_defs.specs.Size.{size_of, size_of_all}
use Rattle.trs_defs.proofs.ArgumentLists.{cell}
use Rattle.trs_core.specs.declared.terms.Term.{Term}
use Rattle.trs_core.specs.View.{tree, forest}
use Rattle.pair_theory.specs.Subterm.{Sub, itself, under, Subs, in_head, in_tail, ProperSubterm, proper}

-- a subterm is no larger, and a proper one smaller
mutual
  pub sub_size : {t s : Tree} → Sub t s → size_of t ≤ size_of s
  sub_size itself = omega arith
  sub_size (under p) = let h = subs_size p in omega (arith, h)

  pub subs_size : {t : Tree} {ts : Trees} → Subs t ts → size_of t ≤ size_of_all ts
  subs_size (in_head p) = let h = sub_size p in omega (arith, h)
  subs_size (in_tail p) = let h = subs_size p in omega (arith, h)

proper_size : {s t : Tree} → ProperSubterm s t → size_of t < size_of s
proper_size (proper p) = let h = subs_size p in omega (arith, h)

pub not_proper : (s t : Tree) → s ≡ t → ProperSubterm s t → ⊥
not_proper s t e p = let h = proper_size p in let same : size_of s ≡ size_of t = ap size_of e in omega (arith, h, same)

pub proper_of : (s t : Tree) → (s ≡ t → ⊥) → Sub t s → ProperSubterm s t
proper_of s _ ne itself = absurd (ne refl)
proper_of _ t ne (under p) = proper p

pub sub_of_proper : (s t : Tree) → ProperSubterm s t → Sub t s
sub_of_proper _ t (proper p) = under p

head_or_tail : {P : Type 0} {t u : Tree} {ts : Trees} → Subs t (cons u ts) → (Sub t u → P) → (Subs t ts → P) → P
head_or_tail (in_head p) a b = a p
head_or_tail (in_tail p) a b = b p

pub not_in_first : (t : Tree) (ts : List Term) (i : ℕ) (u : Term) → i < length ts → u ≡ get_or ts i u → (Sub t (tree u) → ⊥) → Subs t (forest (drop i ts)) → Subs t (forest (drop (i + 1) ts))
not_in_first t ts i u h e none p =
    let q : Subs t (cons (tree u) (forest (drop (i + 1) ts))) = subst (λ us. Subs t (forest us)) (cell ts i u h e) p in
    head_or_tail q (λ s. absurd (none s)) (λ s. s)

pub in_one : (t : Tree) (ts : List Term) (i : ℕ) (u : Term) → i < length ts → u ≡ get_or ts i u → Sub t (tree u) → Subs t (forest ts)
in_one t ts i u h e s = go ts i h e
  where
    go : (us : List Term) (j : ℕ) → j < length us → u ≡ get_or us j u → Subs t (forest us)
    go [] j k d = absurd (omega arith)
    go (v ∷ us) zero k d = in_head (subst (λ w. Sub t (tree w)) d s)
    go (v ∷ us) (suc j) k d = in_tail (go us j (omega arith) d)

pub none_in : (t : Tree) (ts : List Term) (i : ℕ) → length ts ≤ i → Subs t (forest (drop i ts)) → ⊥
none_in t ts i h p = let q : Subs t nil = subst (λ us. Subs t (forest us)) (drop_all i ts h) p in elim q [ ]

-- a term with these arguments
pub sub_under : (t s : Tree) (f : ℕ) (ts : Trees) → s ≡ app f ts → Subs t ts → Sub t s
sub_under t s f ts is p = subst (λ u. Sub t u) (sym is) (under p)

itself_or_under : {P : Type 0} {t : Tree} {f : ℕ} {ts : Trees} → Sub t (app f ts) → (t ≡ app f ts → P) → (Subs t ts → P) → P
itself_or_under itself a b = a refl
itself_or_under (under p) a b = b p

pub sub_cases : (P : Type 0) (t s : Tree) (f : ℕ) (ts : Trees) → s ≡ app f ts → Sub t s → (t ≡ s → P) → (Subs t ts → P) → P
sub_cases P t s f ts is p a b = itself_or_under (subst (λ u. Sub t u) is p) (λ e. a (e ∙ sym is)) b

at_variable : {x : ℕ} {t : Tree} → Sub t (var x) → t ≡ var x
at_variable itself = refl

pub sub_of_variable : (t s : Tree) (x : ℕ) → s ≡ var x → Sub t s → s ≡ t
sub_of_variable t s x is p = is ∙ sym (at_variable (subst (λ u. Sub t u) is p))

pub sub_same : (t s : Tree) → s ≡ t → Sub t s
sub_same t s e = subst (λ u. Sub u s) e itself

pub size_left : (ts : List Term) (i : ℕ) (u : Term) → i < length ts → u ≡ get_or ts i u → size_of_all (forest (drop i ts)) ≡ size_of (tree u) + size_of_all (forest (drop (i + 1) ts))
size_left ts i u h e = ap (λ us. size_of_all (forest us)) (cell ts i u h e)

pub sum_kept : (total part sum size left rest whole : ℕ) → total < 2 ^ 64 → sum ≡ min (total + part) (2 ^ 64 - 1) → part ≡ min size (2 ^ 64 - 1) → left ≡ size + rest
    → min (total + left) (2 ^ 64 - 1) ≡ min whole (2 ^ 64 - 1) → (sum < 2 ^ 64) × (min (sum + rest) (2 ^ 64 - 1) ≡ min whole (2 ^ 64 - 1))
sum_kept total part sum size left rest whole lt is_sum is_part is_left same = (omega (arith, is_sum), omega (arith, lt, is_sum, is_part, is_left, same))
