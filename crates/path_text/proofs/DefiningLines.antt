-- The lines of definitions, one after another.
use Rattle.std.proofs.Common.{◌≡◌, ℕ, ◌+◌, suc, List, [], ◌∷◌, ◌++◌, drop, slice_get, Some, sym, ap, ◌∙◌, append_assoc, add-one}
use Rattle.sexp_core.specs.Items.{items_of}
use Rattle.sexp_core.specs.Printed.{text_of, lines}
use Rattle.trs_defs.specs.Path.{PlacedRule}
use Rattle.trs_defs.proofs.ListItems.{next_item}
use Rattle.path_text.specs.Defining.{define_item, define_items}

pub line_more : (names : List (List PlacedRule)) (k : ℕ) (p : List PlacedRule) (out new total : List ℕ) → slice_get names k ≡ Some p
    → new ≡ out ++ (text_of (define_item k p) ++ 10 ∷ []) → out ++ lines (items_of (define_items k (drop k names))) ≡ total
    → new ++ lines (items_of (define_items (k + 1) (drop (k + 1) names))) ≡ total
line_more names k p out new total found is before =
    let rest = lines (items_of (define_items (suc k) (drop (k + 1) names))) in
    let t = text_of (define_item k p) in
    let split : out ++ (t ++ 10 ∷ rest) ≡ total = ap (λ (l : List (List PlacedRule)). out ++ lines (items_of (define_items k l))) (sym (next_item names k p found)) ∙ before in
    ap (λ (n : ℕ). new ++ lines (items_of (define_items n (drop (k + 1) names)))) (add-one k)
    ∙ ap (λ (l : List ℕ). l ++ rest) is
    ∙ append_assoc out (t ++ 10 ∷ []) rest
    ∙ ap (λ (l : List ℕ). out ++ l) (append_assoc t (10 ∷ []) rest)
    ∙ split
