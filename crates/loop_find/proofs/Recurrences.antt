-- The first instance of a pattern in a term.
use Rattle.std.specs.Option.{option_and_then, option_map}
use Rattle.std.proofs.Common.{◌≡◌, ℕ, ◌+◌, ◌<◌, ◌≤◌, inl, inr, Bool, true, false, List, [], ◌∷◌, ◌++◌, length, get_or, Option, None, Some, refl, ap, sym, ◌∙◌, subst, zero, suc, arith, slice_get, append-nil, append_assoc}
use native.Mathlib.Decide.{dec_lt}
use Rattle.std.proofs.lemmas.Option.{same_Some, slice_get_read}
use Rattle.trs_defs.specs.Tree.{Tree, var, app, items, count}
use Rattle.trs_defs.specs.Substitution.{apply, apply_all, IsInstance}
use Rattle.trs_defs.specs.Position.{argument_at, subterm_at}
use Rattle.trs_defs.proofs.ArgumentLists.{count_apply_all}
use Rattle.trs_core.specs.declared.terms.Term.{Term}
use Rattle.trs_core.specs.View.{tree, forest}
use Rattle.trs_core.proofs.Lookups.{items_forest, slice_get_map}
use Rattle.trs_core.proofs.Comparing.{count_forest}
use Rattle.term_pool.specs.Redexes.{IsEarlier}
use Rattle.loop_find.specs.LoopRow.{Recurs, RecursFirst}
use Rattle.loop_find.specs.Instances.{Leads}

-- ---- terms that differ in their symbols

abbrev pub Differ : Tree → Tree → Type 0
Differ t u = (σ τ : ℕ → Tree) → apply σ t ≡ apply τ u → ⊥

pub other_root : (f g : ℕ) (fs gs : List Term) (t u : Tree) → t ≡ app f (forest fs) → u ≡ app g (forest gs) → (f ≡ g → length fs ≡ length gs → ⊥) → Differ t u
other_root f g fs gs t u is_t is_u ne σ τ e =
    let whole : app f (apply_all σ (forest fs)) ≡ app g (apply_all τ (forest gs)) = sym (ap (apply σ) is_t) ∙ (e ∙ ap (apply τ) is_u) in
    let args : apply_all σ (forest fs) ≡ apply_all τ (forest gs) = cc (whole) in
    let same : f ≡ g = cc (whole) in
    ne same (omega (arith, ap count args, count_apply_all σ (forest fs), count_apply_all τ (forest gs), count_forest fs, count_forest gs))

item_image : (σ : ℕ → Tree) (ts : List Term) (i : ℕ) (x : Term) → slice_get ts i ≡ Some x → slice_get (items (apply_all σ (forest ts))) i ≡ Some (apply σ (tree x))
item_image σ [] i x e = absurd cc
item_image σ (t ∷ ts) zero x e = ap (λ z. Some (apply σ (tree z))) (same_Some t x e)
item_image σ (t ∷ ts) (suc i) x e = item_image σ ts i x e

pub other_argument : (f g : ℕ) (fs gs : List Term) (i : ℕ) (x y : Term) (t u : Tree) → t ≡ app f (forest fs) → u ≡ app g (forest gs) → slice_get fs i ≡ Some x → slice_get gs i ≡ Some y
    → Differ (tree x) (tree y) → Differ t u
other_argument f g fs gs i x y t u is_t is_u a b differ σ τ e =
    let whole : app f (apply_all σ (forest fs)) ≡ app g (apply_all τ (forest gs)) = sym (ap (apply σ) is_t) ∙ (e ∙ ap (apply τ) is_u) in
    let args : apply_all σ (forest fs) ≡ apply_all τ (forest gs) = cc (whole) in
    differ σ τ (same_Some (apply σ (tree x)) (apply τ (tree y)) (sym (item_image σ fs i x a) ∙ (ap (λ z. slice_get (items z) i) args ∙ item_image τ gs i y b)))

-- ---- places

pub recurs_root : (pattern t : Tree) → Recurs pattern t [] → IsInstance pattern t
recurs_root pattern t (part, there, instance) = subst (IsInstance pattern) (sym (same_Some t part there)) instance

root_first : (pattern t : Tree) → IsInstance pattern t → RecursFirst pattern t []
root_first pattern t h = record { recurs = (t, refl, h); first = λ q e k. none_before q e }
  where
    none_before : (q : List ℕ) → IsEarlier q [] → ⊥
    none_before [] e = e
    none_before (n ∷ q) e = e

pub leads_root : (pattern t : Tree) (old new : List ℕ) → new ≡ old → IsInstance pattern t → Leads pattern t old new true
leads_root pattern t old new same h = record { below = []; longer = same ∙ sym (append-nil old); first = root_first pattern t h }

pub nowhere_in_variable : (pattern t : Tree) (v : ℕ) (old new : List ℕ) → new ≡ old → t ≡ var v → (IsInstance pattern t → ⊥) → Leads pattern t old new false
nowhere_in_variable pattern t v old new same is none = record { same = same; none = λ q h. at q (subst (λ z. Recurs pattern z q) is h) }
  where
    at : (q : List ℕ) → Recurs pattern (var v) q → ⊥
    at [] h = none (recurs_root pattern t (subst (λ z. Recurs pattern z []) (sym is) h))
    at (n ∷ q) (part, there, instance) = absurd cc

argument_is : (f : ℕ) (ts : List Term) (i : ℕ) (t : Term) → i < length ts → t ≡ get_or ts i t → argument_at (app f (forest ts)) (suc i) ≡ Some (tree t)
argument_is f ts i t h e = ap (λ us. slice_get us i) (items_forest ts) ∙ (slice_get_map ts i ∙ ap (option_map tree) (slice_get_read ts (length ts) i t refl h e))

no_argument : (f : ℕ) (ts : List Term) (i : ℕ) → length ts ≤ i → (a : Tree) → argument_at (app f (forest ts)) (suc i) ≡ Some a → ⊥
no_argument f ts i h a e = past ts i h (sym (slice_get_map ts i) ∙ (ap (λ us. slice_get us i) (sym (items_forest ts)) ∙ e))
  where
    past : (ts : List Term) (i : ℕ) → length ts ≤ i → option_map tree (slice_get ts i) ≡ Some a → ⊥
    past [] i h e = absurd cc
    past (t ∷ ts) zero h e = absurd (omega arith)
    past (t ∷ ts) (suc i) h e = past ts i (omega (arith, h)) e

step_down : (q : List ℕ) (o : Option Tree) (part : Tree) → option_and_then (subterm_at q) o ≡ Some part → (a : Tree) × (o ≡ Some a) × (subterm_at q a ≡ Some part)
step_down q None part h = absurd cc
step_down q (Some a) part h = (a, refl, h)

-- no instance stands in the arguments before number i, counted from 0, nor is the term one
pub record NoneYet (pattern t : Tree) (i : ℕ) : Type 0 where
  pub root : IsInstance pattern t → ⊥
  pub before : (n : ℕ) (q : List ℕ) → n ≤ i → Recurs pattern t (n ∷ q) → ⊥

module _ (pattern t : Tree) (f : ℕ) (ts : List Term) (is : t ≡ app f (forest ts)) where
  at_zero : (q : List ℕ) → Recurs pattern t (zero ∷ q) → ⊥
  at_zero q (part, there, instance) =
      let there2 : subterm_at (zero ∷ q) (app f (forest ts)) ≡ Some part = subst (λ z. subterm_at (zero ∷ q) z ≡ Some part) is there in
      absurd cc

  pub none_yet : (IsInstance pattern t → ⊥) → NoneYet pattern t 0
  none_yet none = record { root = none; before = λ n q h k. let e : n ≡ zero = omega (arith, h) in at_zero q (subst (λ z. Recurs pattern t (z ∷ q)) e k) }

  module _ (i : ℕ) (arg : Term) (h : i < length ts) (e : arg ≡ get_or ts i arg) where
    arg_there : argument_at t (suc i) ≡ Some (tree arg)
    arg_there = ap (λ z. argument_at z (suc i)) is ∙ argument_is f ts i arg h e

    into_argument : (q : List ℕ) → Recurs pattern t (suc i ∷ q) → Recurs pattern (tree arg) q
    into_argument q (part, there, instance) =
        let (a, at, below) = step_down q (argument_at t (suc i)) part there in
        let same : a ≡ tree arg = same_Some a (tree arg) (sym at ∙ arg_there) in
        (part, subst (λ z. subterm_at q z ≡ Some part) same below, instance)

    of_argument : (q : List ℕ) → Recurs pattern (tree arg) q → Recurs pattern t (suc i ∷ q)
    of_argument q (part, there, instance) = (part, ap (option_and_then (subterm_at q)) arg_there ∙ there, instance)

    first_below : NoneYet pattern t i → (q : List ℕ) → RecursFirst pattern (tree arg) q → RecursFirst pattern t (suc i ∷ q)
    first_below none q found = record { recurs = of_argument q found.recurs; first = earlier }
      where
        earlier : (p : List ℕ) → IsEarlier p (suc i ∷ q) → Recurs pattern t p → ⊥
        earlier [] l k = none.root (recurs_root pattern t k)
        earlier (n ∷ p) (inl l) k = none.before n p (omega (arith, l)) k
        earlier (n ∷ p) (inr (same, l)) k = found.first p l (into_argument p (subst (λ z. Recurs pattern t (z ∷ p)) same k))

    pub leads_below : NoneYet pattern t i → (old pushed new : List ℕ) → pushed ≡ old ++ (i + 1) ∷ [] → Leads pattern (tree arg) pushed new true → Leads pattern t old new true
    leads_below none old pushed new longer found =
        let number : i + 1 ≡ suc i = omega arith in
        record {
          below = suc i ∷ found.below;
          longer = found.longer ∙ (ap (λ p. p ++ found.below) longer ∙ (append_assoc old ((i + 1) ∷ []) found.below ∙ ap (λ n. old ++ n ∷ found.below) number));
          first = first_below none found.below found.first;
        }

    pub none_further : NoneYet pattern t i → ((q : List ℕ) → Recurs pattern (tree arg) q → ⊥) → NoneYet pattern t (i + 1)
    none_further none absent = record {
      root = none.root;
      before = λ n q l k. elim (dec_lt n (suc i)) as (λ _. ⊥) [
        | yes low ↦ none.before n q (omega (arith, low)) k
        | no high ↦ let same : n ≡ suc i = omega (arith, l, high) in absent q (into_argument q (subst (λ z. Recurs pattern t (z ∷ q)) same k))
      ];
    }

  pub nowhere : (i : ℕ) → length ts ≤ i → NoneYet pattern t i → (old new : List ℕ) → new ≡ old → Leads pattern t old new false
  nowhere i long none old new same = record { same = same; none = at }
    where
      at : (q : List ℕ) → Recurs pattern t q → ⊥
      at [] k = none.root (recurs_root pattern t k)
      at (zero ∷ q) k = at_zero q k
      at (suc n ∷ q) k = elim (dec_lt n i) as (λ _. ⊥) [
        | yes low ↦ none.before (suc n) q (omega (arith, low)) k
        | no high ↦
            let (part, there, instance) = k in
            let (a, arg, below) = step_down q (argument_at t (suc n)) part there in
            no_argument f ts n (omega (arith, high, long)) a (subst (λ z. argument_at z (suc n) ≡ Some a) is arg)
      ]

pub leads_true : (pattern t : Tree) (old new : List ℕ) (b : Bool) → b ≡ true → Leads pattern t old new b → Leads pattern t old new true
leads_true pattern t old new b e h = subst (λ z. Leads pattern t old new z) e h

pub leads_false : (pattern t : Tree) (old new : List ℕ) (b : Bool) → b ≡ false → Leads pattern t old new b → Leads pattern t old new false
leads_false pattern t old new b e h = subst (λ z. Leads pattern t old new z) e h
