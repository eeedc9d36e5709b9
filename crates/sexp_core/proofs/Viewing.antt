-- What crates above cite: how items are seen, and that a text is read as one list of items alone.
use Rattle.std.proofs.Common.{◌≡◌, ℕ, List, Bor, sym, ◌∙◌, rules}
use Rattle.sexp_core.specs.Items.{a_word, a_list, Items, view, views}
use Rattle.sexp_core.specs.Reads.{Reads}
use Rattle.sexp_core.specs.declared.sexp.Sexp.{Sexp, List as list_of, Word as word_of, the_lemmas}
use Rattle.sexp_core.specs.declared.sexp.Word.{Word}
use Rattle.sexp_core.proofs.Once.{one_reading}

pub view_list : (place : ℕ) (xs : Bor (List Sexp)) → view (list_of place xs) ≡ a_list (views xs.now) place
view_list place xs = search (rules, the_lemmas)

pub view_word : (place : ℕ) (w : Word) → view (word_of place w) ≡ a_word w.bytes.now place
view_word place w = search (rules, the_lemmas)

pub text_read_once : (text : List ℕ) (xs ys : Items) → Reads text xs → Reads text ys → xs ≡ ys
text_read_once text xs ys e f = one_reading xs ys (sym e ∙ f)
