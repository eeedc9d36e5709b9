-- Rows of words: added and read.
use Rattle.std.specs.Prelude.{◌≡◌, ◌↔◌, ℕ, ◌++◌, Bool, List, [], ◌∷◌, length, Some, None, IsTrue, Result, Ok, Err, IfOk, OnOk, Vec, slice_get, ◌==◌, refl}
use Rattle.std.specs.declared.alloc.Global.{Global}
use Rattle.std.proofs.Common.{sym, ap, subst, arith, ◌∙◌}
use Rattle.std.proofs.lemmas.Bool.Decides.{Decides-eqb}
use Rattle.std.proofs.lemmas.Option.{same_Some}
use Rattle.trs_defs.proofs.ListItems.{last_item}
use Rattle.dp_graph.specs.WordRows.{HasWords, KeepWords, AddsRow}
use Rattle.dp_graph.proofs.ListPlaces.{still_there}

pub words_stay : (rows new : List (Vec ℕ Global)) (row : Vec ℕ Global) (n : ℕ) → AddsRow row n rows new → KeepWords rows new
words_stay rows new row n adds m words (r, at, is) = (r, subst (λ z. slice_get z m ≡ Some r) (sym adds.rows) (still_there rows (row ∷ []) m r at), is)

pub words_there : (rows new : List (Vec ℕ Global)) (row : Vec ℕ Global) (n : ℕ) → AddsRow row n rows new → HasWords new n row.items
words_there rows new row n adds =
    (row, subst (λ z. slice_get z n ≡ Some row) (sym adds.rows) (subst (λ z. slice_get (rows ++ row ∷ []) z ≡ Some row) (sym adds.last) (last_item rows row [])), refl)

-- the same of a call that may fail
pub row_there : {E : Type 0} (rows new : List (Vec ℕ Global)) (row : Vec ℕ Global) (result : Result ℕ E) → IfOk result (λ n. AddsRow row n rows new) → IfOk result (λ n. HasWords new n row.items)
row_there rows new row (Ok n) adds = words_there rows new row n adds
row_there rows new row (Err e) adds = adds

pub rows_stay : {E : Type 0} (rows new : List (Vec ℕ Global)) (row : Vec ℕ Global) (result : Result ℕ E) → IfOk result (λ n. AddsRow row n rows new) → OnOk result (KeepWords rows new)
rows_stay rows new row (Ok n) adds = words_stay rows new row n adds
rows_stay rows new row (Err e) adds = adds

-- a row has one list of words
pub one_row : (rows : List (Vec ℕ Global)) (n : ℕ) (words others : List ℕ) → HasWords rows n words → HasWords rows n others → words ≡ others
one_row rows n words others (r, at, is) (q, there, also) = sym is ∙ (ap (λ (z : Vec ℕ Global). z.items) (same_Some r q (sym at ∙ there)) ∙ also)

pub no_row : (rows : List (Vec ℕ Global)) (n : ℕ) (words : List ℕ) → slice_get rows n ≡ None → HasWords rows n words → ⊥
no_row rows n words none (row, at, is) = let d : None ≡ Some row = sym none ∙ at in cc

-- whether a list is empty
pub empty_if : (b : Bool) (xs : List ℕ) → b ≡ (length xs == 0) → IsTrue b ↔ (xs ≡ [])
empty_if b [] e = (λ h. refl, λ h. e)
empty_if b (x ∷ xs) e = (λ h. absurd (let none : length (x ∷ xs) ≡ 0 = (Decides-eqb (length (x ∷ xs)) 0).0 (sym e ∙ h) in omega (arith, none)), λ h. absurd cc)

-- whether a row has no words
pub emptiness : (rows : List (Vec ℕ Global)) (n : ℕ) (row : Vec ℕ Global) (words : List ℕ) (b : Bool) → slice_get rows n ≡ Some row → HasWords rows n words → b ≡ (length row.items == 0) → IsTrue b ↔ (words ≡ [])
emptiness rows n row words b at has says =
    let same : row.items ≡ words = one_row rows n row.items words (row, at, refl) has in
    let whole : b ≡ (length words == 0) = says ∙ ap (λ z. length z == 0) same in
    empty_if b words whole
