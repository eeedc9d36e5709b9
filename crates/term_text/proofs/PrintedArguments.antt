-- Steps of printing terms.
use Rattle.std.proofs.Common.{◌≡◌, ◌≢◌, ℕ, ◌≤◌, List, [], ◌∷◌, ◌++◌, length, drop, refl, ap, sym, ◌∙◌, append_assoc}
use Rattle.std.proofs.lemmas.List.{append-nil, drop_all}
use Rattle.sexp_core.specs.Items.{Item, Items, item}
use Rattle.sexp_core.specs.Printed.{text_of, spaced}
use Rattle.trs_core.specs.declared.terms.Term.{Term}
use Rattle.trs_core.specs.View.{forest}
use Rattle.term_text.specs.PrintedTerm.{term_items, applied_item}

-- one more argument is printed
pub spaced_step : (out o1 o2 all : List ℕ) (x : Item) (xs : Items) → o1 ≡ out ++ 32 ∷ [] → o2 ≡ o1 ++ text_of x → out ++ spaced (item x xs) ≡ all → o2 ++ spaced xs ≡ all
spaced_step out o1 o2 all x xs e f g = rw (f, e) (simp append_assoc g)

enclosed : (o name s : List ℕ) → (((o ++ 40 ∷ []) ++ name) ++ s) ++ 41 ∷ [] ≡ o ++ (40 ∷ ((name ++ s) ++ 41 ∷ []))
enclosed o name s = simp append_assoc

arguments_text : (k : ℕ) (names : List (List ℕ)) (name : List ℕ) (ts : List Term) → length ts ≢ 0
    → text_of (applied_item name (term_items k names (forest ts))) ≡ 40 ∷ ((name ++ spaced (term_items k names (forest ts))) ++ 41 ∷ [])
arguments_text k names name [] ne = absurd (ne refl)
arguments_text k names name (t ∷ ts) ne = refl

-- a symbol with arguments is printed
pub application_text : (k : ℕ) (names : List (List ℕ)) (name : List ℕ) (ts : List Term) (i : ℕ) (o o1 o2 o3 o4 : List ℕ)
    → length ts ≢ 0 → length ts ≤ i → o1 ≡ o ++ 40 ∷ [] → o2 ≡ o1 ++ name
    → o3 ++ spaced (term_items k names (forest (drop i ts))) ≡ o2 ++ spaced (term_items k names (forest ts)) → o4 ≡ o3 ++ 41 ∷ []
    → o4 ≡ o ++ text_of (applied_item name (term_items k names (forest ts)))
application_text k names name ts i o o1 o2 o3 o4 ne le e f g h =
    let last : o3 ≡ o2 ++ spaced (term_items k names (forest ts)) = sym (append-nil o3) ∙ rw (drop_all i ts le) at g in
    h ∙ rw (last, f, e) (enclosed o name (spaced (term_items k names (forest ts))))
    ∙ ap (λ (t : List ℕ). o ++ t) (sym (arguments_text k names name ts ne))
