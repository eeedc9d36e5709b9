-- Terms over an arity function: instances, steps, a wider function; well-formed terms are those over the arity table.
use Rattle.std.proofs.Common.{◌≡◌, ℕ, ◌+◌, refl, sym, ap, subst, ◌∙◌, List, Option, Some, slice_get}
use Rattle.trs_defs.specs.Tree.{Tree, var, app, Trees, nil, cons, count}
use Rattle.trs_defs.specs.Substitution.{apply, apply_all}
use Rattle.trs_defs.specs.WellFormed.{IsWellFormed, AreWellFormed}
use Rattle.trs_defs.specs.Step.{StepBy, here, deep, first, later}
use Rattle.trs_defs.specs.Every.{Every, every_nil, every_cons}
use Rattle.pair_theory.specs.Terminates.{ArgumentStep}
use Rattle.pair_theory.specs.Subterm.{Sub, itself, under, Subs, in_head, in_tail}
use Rattle.pair_theory.specs.Over.{IsOver, AreOver}
use Rattle.trs_defs.proofs.ArgumentLists.{count_apply_all}

module _ (arity : ℕ → Option ℕ) where
  mutual
    pub over_apply : (σ : ℕ → Tree) (t : Tree) → IsOver arity t → ((x : ℕ) → Sub (var x) t → IsOver arity (σ x)) → IsOver arity (apply σ t)
    over_apply σ (var x) w k = k x itself
    over_apply σ (app f ts) w k = (w.0 ∙ ap Some (sym (count_apply_all σ ts)), over_apply_all σ ts w.1 (λ x p. k x (under p)))

    pub over_apply_all : (σ : ℕ → Tree) (ts : Trees) → AreOver arity ts → ((x : ℕ) → Subs (var x) ts → IsOver arity (σ x)) → AreOver arity (apply_all σ ts)
    over_apply_all σ nil w k = tt
    over_apply_all σ (cons t ts) w k = (over_apply σ t w.0 (λ x p. k x (in_head p)), over_apply_all σ ts w.1 (λ x p. k x (in_tail p)))

  mutual
    pub over_var : (σ : ℕ → Tree) {x : ℕ} {t : Tree} → Sub (var x) t → IsOver arity (apply σ t) → IsOver arity (σ x)
    over_var σ itself w = w
    over_var σ (under p) w = over_var_all σ p w.1

    pub over_var_all : (σ : ℕ → Tree) {x : ℕ} {ts : Trees} → Subs (var x) ts → AreOver arity (apply_all σ ts) → IsOver arity (σ x)
    over_var_all σ (in_head p) w = over_var σ p w.0
    over_var_all σ (in_tail p) w = over_var_all σ p w.1

  pub each_over : (ts : Trees) → AreOver arity ts → Every (IsOver arity) ts
  each_over nil w = every_nil
  each_over (cons t ts) w = every_cons w.0 (each_over ts w.1)

  module _ (rule : Tree → Tree → Type 0) (right : (l r : Tree) → rule l r → IsOver arity r)
      (vars : (l r : Tree) → rule l r → (x : ℕ) → Sub (var x) r → Sub (var x) l) where
    steps_count : {ss ts : Trees} → ArgumentStep rule ss ts → count ts ≡ count ss
    steps_count (first s) = refl
    steps_count (later s) = ap (λ n. 1 + n) (steps_count s)

    mutual
      pub step_over : {s t : Tree} → StepBy rule s t → IsOver arity s → IsOver arity t
      step_over (here (l, r, σ, h, e, e')) w =
          subst (IsOver arity) (sym e') (over_apply σ r (right l r h) (λ x p. over_var σ (vars l r h x p) (subst (IsOver arity) e w)))
      step_over (deep s) w = (w.0 ∙ ap Some (sym (steps_count s)), steps_over s w.1)

      pub steps_over : {ss ts : Trees} → ArgumentStep rule ss ts → AreOver arity ss → AreOver arity ts
      steps_over (first s) w = (step_over s w.0, w.1)
      steps_over (later s) w = (w.0, steps_over s w.1)

module _ (arity wider : ℕ → Option ℕ) (agrees : (f n : ℕ) → arity f ≡ Some n → wider f ≡ Some n) where
  mutual
    pub over_wider : (t : Tree) → IsOver arity t → IsOver wider t
    over_wider (var x) w = tt
    over_wider (app f ts) w = (agrees f (count ts) w.0, over_wider_all ts w.1)

    pub over_wider_all : (ts : Trees) → AreOver arity ts → AreOver wider ts
    over_wider_all nil w = tt
    over_wider_all (cons t ts) w = (over_wider t w.0, over_wider_all ts w.1)

module _ (arities : List ℕ) where
  -- the arity function of the table
  abbrev pub declared : ℕ → Option ℕ
  declared f = slice_get arities f

  mutual
    pub over_of_well_formed : (t : Tree) → IsWellFormed arities t → IsOver declared t
    over_of_well_formed (var x) w = tt
    over_of_well_formed (app f ts) w = (w.0, over_of_well_formed_all ts w.1)

    pub over_of_well_formed_all : (ts : Trees) → AreWellFormed arities ts → AreOver declared ts
    over_of_well_formed_all nil w = tt
    over_of_well_formed_all (cons t ts) w = (over_of_well_formed t w.0, over_of_well_formed_all ts w.1)

  mutual
    pub well_formed_of_over : (t : Tree) → IsOver declared t → IsWellFormed arities t
    well_formed_of_over (var x) w = tt
    well_formed_of_over (app f ts) w = (w.0, well_formed_of_over_all ts w.1)

    pub well_formed_of_over_all : (ts : Trees) → AreOver declared ts → AreWellFormed arities ts
    well_formed_of_over_all nil w = tt
    well_formed_of_over_all (cons t ts) w = (well_formed_of_over t w.0, well_formed_of_over_all ts w.1)
