-- Terms with another one at a place, argument by argument.
use Rattle.std.specs.Option.{option_and_then, option_map}
use Rattle.std.specs.Prelude.{◌==◌, if◌then◌else◌, slice_set}
use Rattle.std.proofs.Common.{◌≡◌, ℕ, ◌+◌, ◌-◌, ◌<◌, ◌≤◌, Bool, true, false, List, [], ◌∷◌, ◌++◌, length, drop, get_or, Option, Some, None, refl, ap, sym, ◌∙◌, zero, suc, arith, slice_get}
use Rattle.std.proofs.lemmas.Bool.{eqb-true, eq-eqb}
use Rattle.std.proofs.lemmas.Option.{same_Some}
use Rattle.std.proofs.lemmas.List.{drop_all}
use Rattle.trs_defs.specs.Tree.{Tree, Trees, var, app, nil, cons, trees, items, trees_items, count}
use Rattle.trs_defs.specs.Substitution.{apply, apply_all}
use Rattle.trs_defs.specs.Position.{with_argument, replaced_at}
use Rattle.trs_defs.proofs.ArgumentLists.{cell, count_apply_all}
use Rattle.trs_core.specs.declared.terms.Term.{Term}
use Rattle.trs_core.specs.View.{tree, forest}
use Rattle.loop_find.specs.Flat.{tokens_of, tokens_of_all}
use Rattle.loop_find.specs.Written.{put_in, put_into, put_way, way_into}

-- ---- what is put in place is what is replaced

no_tree : (u : Tree) → ◌≡◌ {A = Option Tree} None (Some u) → ⊥
no_tree u e = cc

-- the argument of number i with its part replaced
record IsInside (f : ℕ) (ts : Trees) (i : ℕ) (p : List ℕ) (by u : Tree) : Type 0 where
  arg : Tree
  changed : Tree
  at : slice_get (items ts) i ≡ Some arg
  below : replaced_at p arg by ≡ Some changed
  is : u ≡ app f (trees (slice_set (items ts) i changed))

inside : (f : ℕ) (ts : Trees) (i : ℕ) (p : List ℕ) (by u : Tree) → replaced_at (suc i ∷ p) (app f ts) by ≡ Some u → IsInside f ts i p by u
inside f ts i p by u e = go (slice_get (items ts) i) refl e
  where
    last : (arg : Tree) (o : Option Tree) → slice_get (items ts) i ≡ Some arg → replaced_at p arg by ≡ o → option_map (with_argument (app f ts) (suc i)) o ≡ Some u → IsInside f ts i p by u
    last arg None at k h = absurd (no_tree u h)
    last arg (Some changed) at k h = record { arg = arg; changed = changed; at = at; below = k; is = sym (same_Some (app f (trees (slice_set (items ts) i changed))) u h) }

    go : (o : Option Tree) → slice_get (items ts) i ≡ o → option_and_then (λ a. option_map (with_argument (app f ts) (suc i)) (replaced_at p a by)) o ≡ Some u → IsInside f ts i p by u
    go None k h = absurd (no_tree u h)
    go (Some arg) k h = last arg (replaced_at p arg by) k refl h

mutual
  put_is : (t : Tree) (p : List ℕ) (by u : Tree) → replaced_at p t by ≡ Some u → put_in t p by ≡ u
  put_is (var v) [] by u e = same_Some by u e
  put_is (var v) (n ∷ p) by u e = absurd (no_tree u e)
  put_is (app f ts) [] by u e = same_Some by u e
  put_is (app f ts) (zero ∷ p) by u e = absurd (no_tree u e)
  put_is (app f ts) (suc i ∷ p) by u e =
      let h = inside f ts i p by u e in
      ap (app f) (put_into_is ts i p by h.arg h.changed h.at h.below) ∙ sym h.is

  put_into_is : (ts : Trees) (i : ℕ) (p : List ℕ) (by arg changed : Tree) → slice_get (items ts) i ≡ Some arg → replaced_at p arg by ≡ Some changed
      → put_into ts (suc i) p by ≡ trees (slice_set (items ts) i changed)
  put_into_is nil i p by arg changed at below = absurd (no_tree arg at)
  put_into_is (cons t ts) zero p by arg changed at below =
      let same : t ≡ arg = same_Some t arg at in
      let a : put_in t p by ≡ changed = put_is t p by changed (ap (λ z. replaced_at p z by) same ∙ below) in
      ap (λ z. cons z ts) a ∙ ap (cons changed) (sym (trees_items ts))
  put_into_is (cons t ts) (suc i) p by arg changed at below = ap (cons t) (put_into_is ts i p by arg changed at below)

pub put_replaced : (p : List ℕ) (t by u : Tree) → replaced_at p t by ≡ Some u → put_in t p by ≡ u
put_replaced p t by u e = put_is t p by u e

-- ---- argument by argument

pub count_put : (ts : Trees) (p : ℕ) (way : List ℕ) (by : Tree) → count (put_into ts p way by) ≡ count ts
count_put nil p way by = refl
count_put (cons t ts) zero way by = refl
count_put (cons t ts) (suc zero) way by = refl
count_put (cons t ts) (suc (suc p)) way by = ap (λ n. 1 + n) (count_put ts (suc p) way by)

unchanged : (ts : Trees) (way : List ℕ) (by : Tree) → put_into ts zero way by ≡ ts
unchanged nil way by = refl
unchanged (cons t ts) way by = refl

-- the way leads into no other argument
no_way_into : (p i : ℕ) (way : List ℕ) → (p ≡ i + 1 → ⊥) → way_into p way i ≡ None
no_way_into p i way other = go (p == i + 1) refl
  where
    go : (c : Bool) → (p == i + 1) ≡ c → (if c then Some way else None) ≡ None
    go true k = absurd (other (eqb-true p (i + 1) k))
    go false k = refl

next_put : (t : Tree) (ts : Trees) (p i m n : ℕ) (way : List ℕ) (by : Tree) → m ≡ p - i → n ≡ p - (i + 1) → put_into (cons t ts) m way by ≡ cons (put_way (way_into p way i) t by) (put_into ts n way by)
next_put t ts p i zero n way by a b =
    let c : n ≡ zero = omega (arith, a, b) in
    let d : way_into p way i ≡ None = no_way_into p i way (λ e. omega (arith, e, a)) in
    ap (cons t) (sym (unchanged ts way by)) ∙ (ap (λ z. cons t (put_into ts z way by)) (sym c) ∙ ap (λ z. cons (put_way z t by) (put_into ts n way by)) (sym d))
next_put t ts p i (suc zero) n way by a b =
    let c : n ≡ zero = omega (arith, a, b) in
    let e : p ≡ i + 1 = omega (arith, a) in
    let d : way_into p way i ≡ Some way = ap (λ z. if z then Some way else None) (eq-eqb p (i + 1) e) in
    ap (cons (put_in t way by)) (sym (unchanged ts way by)) ∙ (ap (λ z. cons (put_in t way by) (put_into ts z way by)) (sym c) ∙ ap (λ z. cons (put_way z t by) (put_into ts n way by)) (sym d))
next_put t ts p i (suc (suc m)) n way by a b =
    let c : n ≡ suc m = omega (arith, a, b) in
    let d : way_into p way i ≡ None = no_way_into p i way (λ e. omega (arith, e, a)) in
    ap (λ z. cons t (put_into ts z way by)) (sym c) ∙ ap (λ z. cons (put_way z t by) (put_into ts n way by)) (sym d)

-- the tokens of the arguments that are left, each with its way
pub next_put_tokens : (σ : ℕ → Tree) (ts : List Term) (i : ℕ) (t : Term) (p : ℕ) (way : List ℕ) (by : Tree) → i < length ts → t ≡ get_or ts i t
    → tokens_of_all (apply_all σ (put_into (forest (drop i ts)) (p - i) way by))
    ≡ tokens_of (apply σ (put_way (way_into p way i) (tree t) by)) ++ tokens_of_all (apply_all σ (put_into (forest (drop (i + 1) ts)) (p - (i + 1)) way by))
next_put_tokens σ ts i t p way by h e =
    ap (λ us. tokens_of_all (apply_all σ (put_into (forest us) (p - i) way by))) (cell ts i t h e)
    ∙ ap (λ us. tokens_of_all (apply_all σ us)) (next_put (tree t) (forest (drop (i + 1) ts)) p i (p - i) (p - (i + 1)) way by refl refl)

pub none_put_left : (σ : ℕ → Tree) (ts : List Term) (i m : ℕ) (way : List ℕ) (by : Tree) → length ts ≤ i → tokens_of_all (apply_all σ (put_into (forest (drop i ts)) m way by)) ≡ []
none_put_left σ ts i m way by h = ap (λ us. tokens_of_all (apply_all σ (put_into (forest us) m way by))) (drop_all i ts h)

-- the instance of a symbol with the term put into an argument
pub put_symbol : (σ : ℕ → Tree) (o : Option (List ℕ)) (place : List ℕ) (p : ℕ) (way : List ℕ) (t : Tree) (f : ℕ) (ts : Trees) (by : Tree) → o ≡ Some place → place ≡ p ∷ way → t ≡ app f ts
    → apply σ (put_way o t by) ≡ app f (apply_all σ (put_into ts p way by))
put_symbol σ o place p way t f ts by is_o is_place is_t =
    ap (λ z. apply σ (put_way z t by)) is_o ∙ (ap (λ z. apply σ (put_in t z by)) is_place ∙ ap (λ z. apply σ (put_in z (p ∷ way) by)) is_t)

pub count_put_symbol : (σ : ℕ → Tree) (ts : Trees) (p : ℕ) (way : List ℕ) (by : Tree) → count (apply_all σ (put_into ts p way by)) ≡ count ts
count_put_symbol σ ts p way by = count_apply_all σ (put_into ts p way by) ∙ count_put ts p way by

pub first_and_rest : (xs : List ℕ) → 0 < length xs → xs ≡ get_or xs 0 0 ∷ drop 1 xs
first_and_rest [] h = absurd (omega (arith, h))
first_and_rest (x ∷ xs) h = refl
