-- Accessibility, and what a term's steps say of its arguments.
use Rattle.std.proofs.Common.{◌≡◌, ℕ, zero, suc, refl, sym, subst}
use Rattle.trs_defs.specs.Tree.{Tree, app, Trees, nil, cons}
use Rattle.pair_theory.specs.Accessible.{Acc, acc}
use Rattle.trs_defs.specs.Step.{StepBy, deep, first, later}
use Rattle.pair_theory.specs.Terminates.{ArgumentStep, Terminates}
use Rattle.trs_defs.specs.Bounded.{IsBoundedBy}
use Rattle.trs_defs.specs.Every.{Every, every_nil, every_cons}

pub down : {A : Type 0} {r : A → A → Type 0} {x y : A} → Acc r x → r x y → Acc r y
down {y = y} (acc h) s = h y s

-- induction along an accessible element
pub acc_induction : {A : Type 0} {r : A → A → Type 0} {P : A → Type 0}
    → ((x : A) → ((y : A) → r x y → Acc r y) → ((y : A) → r x y → P y) → P x) → {x : A} → Acc r x → P x
acc_induction m {x} (acc h) = m x h (λ y s. acc_induction m (h y s))

-- a map that keeps steps brings accessibility back
pub acc_image : {A B : Type 0} (f : A → B) (r : A → A → Type 0) (s : B → B → Type 0)
    → ((x y : A) → r x y → s (f x) (f y)) → {b : B} → Acc s b → (x : A) → b ≡ f x → Acc r x
acc_image f r s hom (acc h) x e = acc (λ y p. acc_image f r s hom (h (f y) (subst (λ z. s z (f y)) (sym e) (hom x y p))) y refl)

-- where derivations have a bound, all that the term goes to is accessible
pub bounded_accessible : {T : Type 0} (R : T → T → Type 0) (n : ℕ) (s : T) → IsBoundedBy R n s → Acc R s
bounded_accessible R zero s h = acc (λ t r. absurd (h t r))
bounded_accessible R (suc n) s h = acc (λ t r. bounded_accessible R n t (h t r))

steps_case : (P : Trees → Type 0) {rule : Tree → Tree → Type 0} {t : Tree} {ts us : Trees} → ArgumentStep rule (cons t ts) us
    → ((t' : Tree) → StepBy rule t t' → P (cons t' ts)) → ((ts' : Trees) → ArgumentStep rule ts ts' → P (cons t ts')) → P us
steps_case P (first s) a b = a _ s
steps_case P (later s) a b = b _ s

no_steps : {rule : Tree → Tree → Type 0} {us : Trees} → ArgumentStep rule nil us → ⊥
no_steps s = elim s [ ]

module _ (rule : Tree → Tree → Type 0) where
  pub terminating_args : (f : ℕ) (ts : Trees) → Terminates rule (app f ts) → Acc (ArgumentStep rule) ts
  terminating_args f ts h = acc_image (app f) (ArgumentStep rule) (StepBy rule) (λ x y s. deep s) h ts refl

  pub each_terminates : (ts : Trees) → Acc (ArgumentStep rule) ts → Every (Terminates rule) ts
  each_terminates nil h = every_nil
  each_terminates (cons t ts) h =
      every_cons (acc_image (λ x. cons x ts) (StepBy rule) (ArgumentStep rule) (λ x y s. first s) h t refl)
      (each_terminates ts (acc_image (cons t) (ArgumentStep rule) (ArgumentStep rule) (λ x y s. later s) h ts refl))

  cons_terminates : {t : Tree} {ts : Trees} → Terminates rule t → Acc (ArgumentStep rule) ts → Acc (ArgumentStep rule) (cons t ts)
  cons_terminates h k =
      acc_induction {P = λ t. (ts : Trees) → Acc (ArgumentStep rule) ts → Acc (ArgumentStep rule) (cons t ts)}
      (λ t below rec ts a. acc_induction {P = λ ts. Acc (ArgumentStep rule) (cons t ts)}
      (λ ts' below' rec'. acc (λ us s. steps_case (Acc (ArgumentStep rule)) s (λ t' p. rec t' p ts' (acc below')) rec')) a)
      h _ k

  pub args_terminate : {ts : Trees} → Every (Terminates rule) ts → Acc (ArgumentStep rule) ts
  args_terminate every_nil = acc (λ us s. absurd (no_steps s))
  args_terminate (every_cons h hs) = cons_terminates h (args_terminate hs)
