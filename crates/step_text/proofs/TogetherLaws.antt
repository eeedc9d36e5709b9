-- Members that are read together: what is read, and what is read again.
use Rattle.std.proofs.Common.{◌≡◌, ℕ, ◌≤◌, Ok, refl, sym, ap, subst, ◌∙◌, List, [], ◌∷◌, arith}
use Rattle.sexp_core.specs.Items.{Items}
use Rattle.sexp_core.specs.Printed.{placeless}
use Rattle.text_reading.specs.Reading.{Read, ◌<*>◌, Form, form}
use Rattle.text_reading.proofs.Made.{MakesForm, ok_same, applied}
use Rattle.text_reading.proofs.Again.{SpellsAll, SpellsParts}
use Rattle.step_text.specs.Together.{together}

pub made_together : {A B : Type 0} (read : Items → Read A) (make : A → B) (P : A → Type 0) (Q : B → Type 0) → ((xs : Items) (a : A) → read xs ≡ Ok a → P a) → ((a : A) → P a → Q (make a))
    → MakesForm (form (together read) make) Q
made_together {A} {B} read make P Q makes gives at xs v e =
    let a = applied (Ok make) (read xs) v e in
    let same : make a.value ≡ v = ap (λ (f : A → B). f a.value) (ok_same make a.make a.is_make) ∙ a.made in
    subst Q same (gives a.value (makes xs a.value a.is_value))

pub spells_together : {A B : Type 0} (read : Items → Read A) {n : ℕ} (depth : ℕ) {xs : Items} {value : A} (make : A → B) → SpellsAll read n xs value → n ≤ depth
    → SpellsParts (together read) depth xs make (make value)
spells_together {A} {B} read depth {xs} {value} make s le = record { again = go; words = s.words; deep = omega (arith, s.deep, le) }
  where
    go : (at : ℕ) (ys : Items) → placeless ys ≡ placeless xs → together read at (Ok make) ys ≡ Ok (make value)
    go at ys e = ap (λ (r : Read A). Ok make <*> r) (s.again ys e)
