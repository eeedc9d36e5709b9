-- Steps by narrow rules lead from narrow terms to narrow terms.
use Rattle.std.specs.Prelude.{◌≡◌, ◌<◌, ℕ, ◌+◌, Bool, true, false, ◌||◌, ◌==◌, List, [], ◌∷◌, Some, IsTrue, slice_get, refl}
use Rattle.std.proofs.Common.{ap, subst, sym, arith, inl, inr, ◌⊎◌}
use Rattle.std.proofs.lemmas.Bool.Decides.{nat_tests}
use Rattle.trs_defs.specs.Tree.{Tree, Trees, var, app, nil, cons, count}
use Rattle.trs_defs.specs.Variable.{has_var, some_has_var}
use Rattle.trs_defs.specs.WellFormed.{IsWellFormed, AreWellFormed}
use Rattle.trs_defs.specs.Substitution.{apply, apply_all}
use Rattle.trs_defs.specs.System.{System, IsSystem, Among}
use Rattle.trs_defs.specs.Step.{Inside, InsideOne, here, deep, first, later, RootStep}
use Rattle.trs_defs.specs.Path.{PlacedRule, StepsAt, Follows}
use Rattle.trs_defs.proofs.Contexts.{inside_at}
use Rattle.trs_defs.proofs.Members.{in_of_get, get_of_in}
use Rattle.term_pool.specs.Redexes.{IsNarrow, AreNarrow}

-- Well-formed terms over small arities are narrow.
module _ (arities : List ℕ) (small : (f n : ℕ) → slice_get arities f ≡ Some n → n < 256) where
  mutual
    pub narrow_of_well_formed : (t : Tree) → IsWellFormed arities t → IsNarrow t
    narrow_of_well_formed (var n) h = tt
    narrow_of_well_formed (app f ts) h = let k = small f (count ts) h.0 in (omega (arith, k), narrow_of_well_formed_all ts h.1)

    pub narrow_of_well_formed_all : (ts : Trees) → AreWellFormed arities ts → AreNarrow ts
    narrow_of_well_formed_all nil h = tt
    narrow_of_well_formed_all (cons t ts) h = (narrow_of_well_formed t h.0, narrow_of_well_formed_all ts h.1)

count_apply : (σ : ℕ → Tree) (ts : Trees) → count (apply_all σ ts) ≡ count ts
count_apply σ nil = refl
count_apply σ (cons t ts) = ap (λ n. 1 + n) (count_apply σ ts)

module _ (R : Tree → Tree → Type 0) (keeps : (s t : Tree) → R s t → IsNarrow s → IsNarrow t) where
  mutual
    pub narrow_inside : {s t : Tree} → Inside R s t → IsNarrow s → IsNarrow t
    narrow_inside (here {s = s} {t = t} step) narrow = keeps s t step narrow
    narrow_inside (deep one) narrow =
        let (same, rest) = narrow_inside_one one narrow.1 in
        let few = narrow.0 in
        (omega (arith, same, few), rest)

    pub narrow_inside_one : {ss ts : Trees} → InsideOne R ss ts → AreNarrow ss → (count ts ≡ count ss) × AreNarrow ts
    narrow_inside_one (first step) narrow = (refl, (narrow_inside step narrow.0, narrow.1))
    narrow_inside_one (later {t = t} one) narrow =
        let (same, rest) = narrow_inside_one one narrow.1 in
        (ap (λ n. 1 + n) same, (narrow.0, rest))

same_variable : (n v : ℕ) → IsTrue (n == v) → n ≡ v
same_variable n v h = grind (arith, nat_tests)

or_either : (a b : Bool) → IsTrue (a || b) → IsTrue a ⊎ IsTrue b
or_either true b h = inl refl
or_either false b h = inr h

or_first : (a b : Bool) → IsTrue a → IsTrue (a || b)
or_first true b h = refl
or_first false b h = absurd cc

or_second : (a b : Bool) → IsTrue b → IsTrue (a || b)
or_second true b h = refl
or_second false b h = h

mutual
  narrow_image : (σ : ℕ → Tree) (v : ℕ) (t : Tree) → IsTrue (has_var v t) → IsNarrow (apply σ t) → IsNarrow (σ v)
  narrow_image σ v (var n) occurs narrow = subst (λ (x : ℕ). IsNarrow (σ x)) (same_variable n v occurs) narrow
  narrow_image σ v (app f ts) occurs narrow = narrow_image_of_all σ v ts occurs narrow.1

  narrow_image_of_all : (σ : ℕ → Tree) (v : ℕ) (ts : Trees) → IsTrue (some_has_var v ts) → AreNarrow (apply_all σ ts) → IsNarrow (σ v)
  narrow_image_of_all σ v nil occurs narrow = absurd cc
  narrow_image_of_all σ v (cons t ts) occurs narrow = elim (or_either (has_var v t) (some_has_var v ts) occurs) [
    | inl here_it_is ↦ narrow_image σ v t here_it_is narrow.0
    | inr there ↦ narrow_image_of_all σ v ts there narrow.1
  ]

itself : (n : ℕ) → IsTrue (n == n)
itself n = grind (arith, nat_tests)

mutual
  narrow_instance : (σ : ℕ → Tree) (t : Tree) → IsNarrow t → ((v : ℕ) → IsTrue (has_var v t) → IsNarrow (σ v)) → IsNarrow (apply σ t)
  narrow_instance σ (var n) narrow images = images n (itself n)
  narrow_instance σ (app f ts) narrow images =
      let same = count_apply σ ts in
      let few = narrow.0 in
      (omega (arith, same, few), narrow_instances σ ts narrow.1 images)

  narrow_instances : (σ : ℕ → Tree) (ts : Trees) → AreNarrow ts → ((v : ℕ) → IsTrue (some_has_var v ts) → IsNarrow (σ v)) → AreNarrow (apply_all σ ts)
  narrow_instances σ nil narrow images = tt
  narrow_instances σ (cons t ts) narrow images = (
    narrow_instance σ t narrow.0 (λ v h. images v (or_first (has_var v t) (some_has_var v ts) h)),
    narrow_instances σ ts narrow.1 (λ v h. images v (or_second (has_var v t) (some_has_var v ts) h)),
  )

module _ (system : System) (is : IsSystem system) (small : (f n : ℕ) → slice_get system.arities f ≡ Some n → n < 256) where
  root_keeps : (s t : Tree) → RootStep (Among system.rules) s t → IsNarrow s → IsNarrow t
  root_keeps s t (l, r, σ, among, from, to) narrow =
      let (k, numbered) = get_of_in among in
      let rule = is.each k (record { left = l; right = r }) numbered in
      let inner : IsNarrow (apply σ l) = subst IsNarrow from narrow in
      subst IsNarrow (sym to) (narrow_instance σ r (narrow_of_well_formed system.arities small r rule.right_well_formed)
      (λ v h. narrow_image σ v l (rule.variables v h) inner))

  pub narrow_step : (s : PlacedRule) (t u : Tree) → StepsAt system.rules s.place s.rule t u → IsNarrow t → IsNarrow u
  narrow_step s t u step narrow =
      let σ = step.substitution in
      let l = step.rule.left in
      let r = step.rule.right in
      narrow_inside (RootStep (Among system.rules)) root_keeps
      (inside_at (RootStep (Among system.rules)) s.place t (apply σ l) (apply σ r) u step.from step.to
      (here (l, r, σ, in_of_get system.rules s.rule step.rule step.numbered, refl, refl))) narrow

  pub narrow_path : (path : List PlacedRule) (t u : Tree) → Follows system.rules path t u → IsNarrow t → IsNarrow u
  narrow_path [] t u e narrow = subst IsNarrow e narrow
  narrow_path (s ∷ path) t u (v, step, within, rest) narrow = narrow_path path v u rest (narrow_step s t v step narrow)
