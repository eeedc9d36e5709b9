-- The least fault of several items.
use Rattle.std.proofs.Common.{◌≡◌, sym, ap, ◌∙◌, ℕ, zero, suc, List, [], ◌∷◌, ◌++◌, Bor, Option, Some, None, refl}
use Rattle.sexp_core.specs.declared.sexp.Sexp.{Sexp, List as list_of, Word as word_of}
use Rattle.sexp_core.specs.declared.sexp.Word.{Word}
use Rattle.sexp_core.proofs.Viewing.{view_list, view_word}
use Rattle.sexp_core.specs.Items.{a_list, view, views}
use Rattle.names_text.specs.Symbols.{Declared}
use Rattle.ari_text.specs.declared.fault.AriFault.{AriFault}
use Rattle.ari_text.specs.Entries.{Saying}
use Rattle.ari_text.specs.EntryView.{with_attribute}
use Rattle.ari_text.specs.Faults.{side_faults, deep_faults, all_deep_faults}
use Rattle.ari_text.specs.Least.{noted}
use Rattle.ari_text.proofs.Leasts.{noted_append}

-- the faults of an item in two parts, and those behind it
pub noted_next : (least l1 l2 : Option AriFault) (cs ds rest : List AriFault) → l1 ≡ noted least cs → l2 ≡ noted l1 ds → noted l2 rest ≡ noted least ((cs ++ ds) ++ rest)
noted_next least l1 l2 cs ds rest e f = rw (f, e) (sym (noted_append least (cs ++ ds) rest ∙ ap (λ l. noted l rest) (noted_append least cs ds)))

-- an attribute does not change the faults of the sides
pub side_faults_aside : (symbols : List Declared) (s : Saying) (attribute : Option ℕ) → side_faults symbols (with_attribute s attribute) ≡ side_faults symbols s
side_faults_aside symbols s None = refl
side_faults_aside symbols s (Some at) = refl

-- nothing stands deeper in a word
pub word_is_shallow : (n at : ℕ) (w : Word) → (n ≡ 0 → ⊥) → deep_faults n (view (word_of at w)) ≡ []
word_is_shallow zero at w h = absurd (h refl)
word_is_shallow (suc n) at w h = ap (deep_faults (suc n)) (view_word at w)

-- what stands deeper in a list
pub deep_list : (n below at : ℕ) (v : Bor (List Sexp)) (x : Sexp) (args : List Sexp) → n ≡ suc below → v.now ≡ x ∷ args
    → deep_faults n (view (list_of at v)) ≡ all_deep_faults below (views args)
deep_list n below at v x args e f =
    ap (λ m. deep_faults m (view (list_of at v))) e ∙ ap (deep_faults (suc below)) (view_list at v ∙ ap (λ xs. a_list xs at) (ap views f))
