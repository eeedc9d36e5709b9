-- A cap whose holes are numbered: what fits it is its instance, and it is the cap of the term.
use Rattle.std.proofs.Common.{◌≡◌, ℕ, ◌+◌, ◌<◌, ◌≤◌, ◌⊎◌, inl, inr, Bool, true, false, IsTrue, List, cond, refl, ap, sym, ◌∙◌, subst, zero, suc, arith}
use Rattle.std.specs.Prelude.{nat_lt}
use native.Mathlib.Decide.{ℕ_discrete}
use Rattle.trs_defs.specs.Tree.{Tree, Trees, var, app, nil, cons}
use Rattle.trs_defs.specs.Variable.{has_var, some_has_var}
use Rattle.trs_defs.specs.Substitution.{apply, apply_all}
use Rattle.trs_defs.specs.System.{RewriteRule}
use Rattle.trs_defs.proofs.VariableLaws.{has_var_same, has_var_self, has_var_cons, has_var_first, has_var_rest}
use Rattle.trs_defs.proofs.Substitutions.{same_instance, same_instances}
use Rattle.trs_caps.specs.Caps.{Leaves, Meets, IsNext, IsCapFrom, AreCapsFrom, own_variable, fresh_variable, kept, opened, no_caps, cap_and_caps}
use Rattle.trs_caps.specs.HoledTree.{HoledTree, HoledTrees, hole, own, symbol, none, more, Fits, EachFits, fits_hole, fits_own, fits_symbol, fits_none, fits_more}
use Rattle.trs_caps.specs.HoledCap.{MeetsLeft, IsHoledCap, AreHoledCaps, fixed_variable, free_variable, symbol_kept, symbol_opened, no_holed, one_holed}
use Rattle.trs_caps.specs.Numbered.{IsNumbered, AreNumbered, number_hole, leave_own, number_symbol, number_none, number_more}

true_or_false : ◌≡◌ {A = Bool} true false → ⊥
true_or_false e = cc

-- one substitution below a number, and another from it on
abbrev both : ℕ → (ℕ → Tree) → (ℕ → Tree) → ℕ → Tree
both m σ τ v = cond (nat_lt v m) (σ v) (τ v)

both_below : (m v : ℕ) (σ τ : ℕ → Tree) → v < m → both m σ τ v ≡ σ v
both_below m v σ τ h = let is : nat_lt v m ≡ true = grind arith in rw is refl

both_above : (m v : ℕ) (σ τ : ℕ → Tree) → m ≤ v → both m σ τ v ≡ τ v
both_above m v σ τ h = let is : nat_lt v m ≡ false = grind arith in rw is refl

both_same : (m v : ℕ) (σ τ : ℕ → Tree) (t : Tree) → σ v ≡ t → τ v ≡ t → both m σ τ v ≡ t
both_same m v σ τ t e e' = go (nat_lt v m)
  where
    go : (b : Bool) → cond b (σ v) (τ v) ≡ t
    go true = e
    go false = e'

module _ (is_own : ℕ → Bool) where
  -- the own variables of a cap are own ones
  abbrev mutual
    pub AreOwn : HoledTree → Type 0
    AreOwn hole = Unit {0}
    AreOwn (own v) = IsTrue (is_own v)
    AreOwn (symbol f cs) = AllAreOwn cs

    pub AllAreOwn : HoledTrees → Type 0
    AllAreOwn none = Unit {0}
    AllAreOwn (more c cs) = AreOwn c × AllAreOwn cs

  -- the variables that are not own have numbers from n on, below m
  record HasRange (n m : ℕ) (c : Tree) : Type 0 where
    pub up : n ≤ m
    pub above : (v : ℕ) → IsTrue (has_var v c) → IsTrue (is_own v) ⊎ (n ≤ v)
    pub below : (v : ℕ) → IsTrue (has_var v c) → IsTrue (is_own v) ⊎ (v < m)

  record HaveRange (n m : ℕ) (cs : Trees) : Type 0 where
    pub up : n ≤ m
    pub above : (v : ℕ) → IsTrue (some_has_var v cs) → IsTrue (is_own v) ⊎ (n ≤ v)
    pub below : (v : ℕ) → IsTrue (some_has_var v cs) → IsTrue (is_own v) ⊎ (v < m)

  mutual
    range : {n m : ℕ} {k : HoledTree} {c : Tree} → IsNumbered is_own n k c m → AreOwn k → HasRange n m c
    range (number_hole {n = n} {w = w} next) o = record {
      up = omega (arith, next.from);
      above = λ v h. inr (omega (arith, next.from, has_var_same v w h));
      below = λ v h. inr (omega (arith, has_var_same v w h));
    }
    range (leave_own {n = n} {v = w}) o = record {
      up = omega arith;
      above = λ v h. inl (subst (λ z. IsTrue (is_own z)) (has_var_same v w h) o);
      below = λ v h. inl (subst (λ z. IsTrue (is_own z)) (has_var_same v w h) o);
    }
    range (number_symbol each) o = let h = ranges each o in record { up = h.up; above = h.above; below = h.below }

    ranges : {n m : ℕ} {ks : HoledTrees} {cs : Trees} → AreNumbered is_own n ks cs m → AllAreOwn ks → HaveRange n m cs
    ranges (number_none {n = n}) o = record { up = omega arith; above = λ v h. absurd cc; below = λ v h. absurd cc }
    ranges (number_more {n = n} {m = m} {k = k} {t = c} {ts = cs} one each) o =
        let a = range one o.0 in
        let b = ranges each o.1 in
        record {
          up = omega (arith, a.up, b.up);
          above = λ v h. elim (has_var_cons v c cs h) as (λ _. IsTrue (is_own v) ⊎ (n ≤ v)) [
            | inl g ↦ a.above v g
            | inr g ↦ elim (b.above v g) as (λ _. IsTrue (is_own v) ⊎ (n ≤ v)) [
              | inl p ↦ inl p
              | inr q ↦ inr (omega (arith, a.up, q))
            ]
          ];
          below = λ v h. elim (has_var_cons v c cs h) as (λ _. IsTrue (is_own v) ⊎ (v < k)) [
            | inl g ↦ elim (a.below v g) as (λ _. IsTrue (is_own v) ⊎ (v < k)) [
              | inl p ↦ inl p
              | inr q ↦ inr (omega (arith, b.up, q))
            ]
            | inr g ↦ b.below v g
          ];
        }

  -- an instance that leaves own variables
  abbrev pub IsFixedInstance : Tree → Tree → Type 0
  IsFixedInstance c u = (σ : ℕ → Tree) × Leaves is_own σ × (apply σ c ≡ u)

  -- each variable that is not own stands for one term
  abbrev elsewhere : Tree → ℕ → Tree
  elsewhere u v = cond (is_own v) (var v) u

  elsewhere_leaves : (u : Tree) → Leaves is_own (elsewhere u)
  elsewhere_leaves u v o = rw o refl

  elsewhere_else : (u : Tree) (v : ℕ) → is_own v ≡ false → elsewhere u v ≡ u
  elsewhere_else u v e = rw e refl

  mutual
    -- what fits a cap is an instance of it, since each fresh variable occurs once
    pub fits_instance : {n m : ℕ} {k : HoledTree} {c : Tree} → IsNumbered is_own n k c m → AreOwn k → (u : Tree) → Fits k u → IsFixedInstance c u
    fits_instance (number_hole {w = w} next) o u f = (elsewhere u, elsewhere_leaves u, elsewhere_else u w next.fresh)
    fits_instance leave_own o _ fits_own = (var, λ v h. refl, refl)
    fits_instance (number_symbol {f = f} each) o _ (fits_symbol {ts = us} fits) = let h = each_instance each o us fits in (h.0, h.1, ap (app f) h.2)

    each_instance : {n m : ℕ} {ks : HoledTrees} {cs : Trees} → AreNumbered is_own n ks cs m → AllAreOwn ks → (us : Trees) → EachFits ks us
        → (σ : ℕ → Tree) × Leaves is_own σ × (apply_all σ cs ≡ us)
    each_instance number_none o _ fits_none = (var, λ v h. refl, refl)
    each_instance (number_more {m = m} {t = c} {ts = cs} one each) o _ (fits_more {t = u} {ts = us} fit fits) =
        let h = fits_instance one o.0 u fit in
        let k = each_instance each o.1 us fits in
        let leaves : Leaves is_own (both m h.0 k.0) = λ v p. both_same m v h.0 k.0 (var v) (h.1 v p) (k.1 v p) in
        let in_first : apply (both m h.0 k.0) c ≡ u =
        same_instance (both m h.0 k.0) h.0 c (λ v g. elim ((range one o.0).below v g) as (λ _. both m h.0 k.0 v ≡ h.0 v) [
          | inl p ↦ leaves v p ∙ sym (h.1 v p)
          | inr q ↦ both_below m v h.0 k.0 q
        ]) ∙ h.2 in
        let in_rest : apply_all (both m h.0 k.0) cs ≡ us =
        same_instances (both m h.0 k.0) k.0 cs (λ v g. elim ((ranges each o.1).above v g) as (λ _. both m h.0 k.0 v ≡ k.0 v) [
          | inl p ↦ leaves v p ∙ sym (k.1 v p)
          | inr q ↦ both_above m v h.0 k.0 q
        ]) ∙ k.2 in
        (both m h.0 k.0, leaves, cc (in_first, in_rest))

  mutual
    -- and an instance of it that leaves own variables fits it
    pub instance_fits : {n m : ℕ} {k : HoledTree} {c : Tree} → IsNumbered is_own n k c m → AreOwn k → (σ : ℕ → Tree) → Leaves is_own σ → Fits k (apply σ c)
    instance_fits (number_hole next) o σ leaves = fits_hole
    instance_fits (leave_own {v = v}) o σ leaves = subst (λ z. Fits (own v) z) (sym (leaves v o)) fits_own
    instance_fits (number_symbol each) o σ leaves = fits_symbol (instances_fit each o σ leaves)

    instances_fit : {n m : ℕ} {ks : HoledTrees} {cs : Trees} → AreNumbered is_own n ks cs m → AllAreOwn ks → (σ : ℕ → Tree) → Leaves is_own σ → EachFits ks (apply_all σ cs)
    instances_fit number_none o σ leaves = fits_none
    instances_fit (number_more one each) o σ leaves = fits_more (instance_fits one o.0 σ leaves) (instances_fit each o.1 σ leaves)

  -- it meets a left side exactly where an instance of that fits
  fits_meets : {n m : ℕ} {k : HoledTree} {c : Tree} → IsNumbered is_own n k c m → AreOwn k → (l : Tree) → MeetsLeft k l → Meets is_own c l
  fits_meets numbered o l (τ, fits) = let h = fits_instance numbered o (apply τ l) fits in (h.0, τ, h.1, h.2)

  meets_fits : {n m : ℕ} {k : HoledTree} {c : Tree} → IsNumbered is_own n k c m → AreOwn k → (l : Tree) → Meets is_own c l → MeetsLeft k l
  meets_fits {k = k} numbered o l (σ, τ, leaves, e) = (τ, subst (λ z. Fits k z) e (instance_fits numbered o σ leaves))

  here_next : (n : ℕ) → is_own n ≡ false → (w : ℕ) × IsNext is_own n w
  here_next n e = (n, record { from = omega arith; fresh = e; least = λ v a b. absurd (omega arith) })

  later_next : (n : ℕ) → IsTrue (is_own n) → (w : ℕ) × IsNext is_own (suc n) w → (w : ℕ) × IsNext is_own n w
  later_next n e (w, h) =
      let lo : suc n ≤ w = h.from in (
        w,
        record {
          from = omega (arith, lo);
          fresh = h.fresh;
          least = λ v a b. elim (ℕ_discrete n v) [
            | yes same ↦ subst (λ z. IsTrue (is_own z)) same e
            | no other ↦ h.least v (omega (arith, other)) b
          ];
        },
      )

  pick_next : (n : ℕ) (b : Bool) → is_own n ≡ b → (w : ℕ) × IsNext is_own (suc n) w → (w : ℕ) × IsNext is_own n w
  pick_next n true e rest = later_next n e rest
  pick_next n false e rest = here_next n e

  module _ (bound : ℕ) (low : (v : ℕ) → IsTrue (is_own v) → v < bound) where
    not_own : (n : ℕ) (b : Bool) → bound ≤ n → is_own n ≡ b → is_own n ≡ false
    not_own n true h e = absurd (omega (arith, h, low n e))
    not_own n false h e = e

    -- where the own variables are below a bound, there is a next variable
    next_from : (fuel n : ℕ) → bound ≤ n + fuel → (w : ℕ) × IsNext is_own n w
    next_from zero n h = here_next n (not_own n (is_own n) (omega (arith, h)) refl)
    next_from (suc f) n h = pick_next n (is_own n) refl (next_from f (suc n) (omega (arith, h)))

    -- and the holes may be numbered
    mutual
      pub numbering : (k : HoledTree) (n : ℕ) → (c : Tree) × (m : ℕ) × IsNumbered is_own n k c m
      numbering hole n = let next = next_from bound n (omega arith) in (var next.0, suc next.0, number_hole next.1)
      numbering (own v) n = (var v, n, leave_own)
      numbering (symbol f ks) n = let (cs, m, each) = numberings ks n in (app f cs, m, number_symbol each)

      numberings : (ks : HoledTrees) (n : ℕ) → (cs : Trees) × (m : ℕ) × AreNumbered is_own n ks cs m
      numberings none n = (nil, n, number_none)
      numberings (more k ks) n =
          let (c, m, one) = numbering k n in
          let (cs, last, each) = numberings ks m in
          (cons c cs, last, number_more one each)

  -- the own variables among those of a term are all of them, or none
  abbrev pub Agrees : Bool → Tree → Type 0
  Agrees fixed t = (v : ℕ) → IsTrue (has_var v t) → is_own v ≡ fixed

  abbrev AllAgree : Bool → Trees → Type 0
  AllAgree fixed ts = (v : ℕ) → IsTrue (some_has_var v ts) → is_own v ≡ fixed

  first_agrees : (fixed : Bool) (t : Tree) (ts : Trees) → AllAgree fixed (cons t ts) → Agrees fixed t
  first_agrees fixed t ts h v o = h v (has_var_first v t ts o)

  rest_agree : (fixed : Bool) (t : Tree) (ts : Trees) → AllAgree fixed (cons t ts) → AllAgree fixed ts
  rest_agree fixed t ts h v o = h v (has_var_rest v t ts o)

  module _ (rules : List RewriteRule) (fixed : Bool) where
    mutual
      pub are_own : {t : Tree} {k : HoledTree} → IsHoledCap rules fixed t k → Agrees fixed t → AreOwn k
      are_own (fixed_variable {v = v} e) h = h v (has_var_self v) ∙ e
      are_own (free_variable e) h = tt
      are_own (symbol_kept caps free) h = all_are_own caps h
      are_own (symbol_opened caps rule meets) h = tt

      all_are_own : {ts : Trees} {ks : HoledTrees} → AreHoledCaps rules fixed ts ks → AllAgree fixed ts → AllAreOwn ks
      all_are_own no_holed h = tt
      all_are_own (one_holed {t = t} {ts = ts} cap caps) h = (are_own cap (first_agrees fixed t ts h), all_are_own caps (rest_agree fixed t ts h))

    module _ (bound : ℕ) (low : (v : ℕ) → IsTrue (is_own v) → v < bound) where
      mutual
        -- a cap with holes, numbered, is the cap
        pub numbered_cap : {t : Tree} {k : HoledTree} → IsHoledCap rules fixed t k → Agrees fixed t → {n m : ℕ} {c : Tree} → IsNumbered is_own n k c m → IsCapFrom rules is_own n t c m
        numbered_cap (fixed_variable {v = v} e) h leave_own = own_variable (h v (has_var_self v) ∙ e)
        numbered_cap (free_variable {v = v} e) h (number_hole next) = fresh_variable (h v (has_var_self v) ∙ e) next
        numbered_cap (symbol_kept {f = f} {ts = ts} {cs = ks} caps free) h (number_symbol {n = n} {m = m} {ts = cs} each) =
            kept (numbered_caps caps h each) (λ l r a meets. free l r a (meets_fits (number_symbol {n = n} {m = m} {f = f} {cs = ks} {ts = cs} each) (all_are_own caps h) l meets))
        numbered_cap (symbol_opened {f = f} {ts = ts} {cs = ks} {l = l} {r = r} caps rule meets) h (number_hole {n = n} next) =
            let (cs, m, each) = numberings bound low ks n in
            opened (numbered_caps caps h each) rule (fits_meets (number_symbol {n = n} {m = m} {f = f} {cs = ks} {ts = cs} each) (all_are_own caps h) l meets) next

        numbered_caps : {ts : Trees} {ks : HoledTrees} → AreHoledCaps rules fixed ts ks → AllAgree fixed ts → {n m : ℕ} {cs : Trees} → AreNumbered is_own n ks cs m → AreCapsFrom rules is_own n ts cs m
        numbered_caps no_holed h number_none = no_caps
        numbered_caps (one_holed {t = t} {ts = ts} cap caps) h (number_more one each) =
            cap_and_caps (numbered_cap cap (first_agrees fixed t ts h) one) (numbered_caps caps (rest_agree fixed t ts h) each)

    -- a cap is one with holes, numbered
    mutual
      pub holed_cap : {n m : ℕ} {t c : Tree} → IsCapFrom rules is_own n t c m → Agrees fixed t → (k : HoledTree) × IsHoledCap rules fixed t k × IsNumbered is_own n k c m
      holed_cap (own_variable {v = v} o) h = (own v, fixed_variable (sym (h v (has_var_self v)) ∙ o), leave_own)
      holed_cap (fresh_variable {v = v} e next) h = (hole, free_variable (sym (h v (has_var_self v)) ∙ e), number_hole next)
      holed_cap (kept {n = n} {m = m} {f = f} {ts = ts} {cs = cs} caps free) h =
          let (ks, are, each) = holed_caps caps h in
          let numbered : IsNumbered is_own n (symbol f ks) (app f cs) m = number_symbol each in
          (symbol f ks, symbol_kept are (λ l r a meets. free l r a (fits_meets numbered (all_are_own are h) l meets)), numbered)
      holed_cap (opened {n = n} {m = m} {f = f} {ts = ts} {cs = cs} {l = l} caps rule meets next) h =
          let (ks, are, each) = holed_caps caps h in
          let numbered : IsNumbered is_own n (symbol f ks) (app f cs) m = number_symbol each in
          (hole, symbol_opened are rule (meets_fits numbered (all_are_own are h) l meets), number_hole next)

      holed_caps : {n m : ℕ} {ts cs : Trees} → AreCapsFrom rules is_own n ts cs m → AllAgree fixed ts → (ks : HoledTrees) × AreHoledCaps rules fixed ts ks × AreNumbered is_own n ks cs m
      holed_caps no_caps h = (none, no_holed, number_none)
      holed_caps (cap_and_caps {t = t} {ts = ts} cap caps) h =
          let (k, is, one) = holed_cap cap (first_agrees fixed t ts h) in
          let (ks, are, each) = holed_caps caps (rest_agree fixed t ts h) in
          (more k ks, one_holed is are, number_more one each)
