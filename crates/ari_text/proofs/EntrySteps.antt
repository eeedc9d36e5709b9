-- What the members of an item say.
use Rattle.std.proofs.Common.{◌≡◌, ℕ, List, ◌∷◌, ap, ◌∙◌}
use Rattle.sexp_core.specs.declared.sexp.Sexp.{Sexp, Word as word_of}
use Rattle.sexp_core.specs.declared.sexp.Word.{Word}
use Rattle.sexp_core.proofs.Viewing.{view_word}
use Rattle.sexp_core.specs.Items.{a_word, item, view, views}
use Rattle.ari_text.specs.Entries.{three, ended, list_entry}

-- of three members, the first of them a word, and further ones
pub entry_of_three : (xs ys zs more : List Sexp) (h x y : Sexp) (head : Word) (p : ℕ) → xs ≡ h ∷ ys → h ≡ word_of p head → ys ≡ x ∷ zs → zs ≡ y ∷ more
    → list_entry (views xs) ≡ ended (three head.bytes.now (view x) (view y)) (views more)
entry_of_three xs ys zs more h x y head p e is f g =
    ap (λ us. list_entry (views us)) e ∙ ap (λ i. list_entry (item i (views ys))) (ap view is ∙ view_word p head)
    ∙ ap (λ us. list_entry (item (a_word head.bytes.now p) (views us))) f ∙ ap (λ us. list_entry (item (a_word head.bytes.now p) (item (view x) (views us)))) g
