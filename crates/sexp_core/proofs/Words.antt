-- Every word of the items that a text is read as is one or more letters.
use Rattle.std.proofs.Common.{◌≡◌, ℕ, ◌+◌, Bool, true, false, List, [], ◌∷◌, ◌++◌, map, refl, subst, ap}
use Rattle.std.specs.List.{AllByRecursion, list_all}
use Rattle.std.proofs.lemmas.Bool.{and_from}
use Rattle.sexp_core.specs.Tokens.{Token, opens, closes, word, control, tokens, with_byte, with_letter, lengthened, seen_as, comment_after, begins_word, class_of, is_letter}
use Rattle.sexp_core.specs.Items.{Item, a_word, a_list, Items, no_items, item, spelled, spelled_all}
use Rattle.sexp_core.specs.Reads.{Reads, shape}
use Rattle.sexp_core.specs.Printed.{IsWord, HasWords, AreWords}
use Rattle.sexp_core.specs.declared.scan.Class.{Class}
use Rattle.sexp_core.specs.declared.scan.Class.TheVariants.{Blank, Semicolon, Opening, Closing, Control, Letter}

-- each word among the tokens is one or more letters
abbrev SpellWords : List Token → Type 0
SpellWords [] = Unit {0}
SpellWords (word w p ∷ ts) = IsWord w × SpellWords ts
SpellWords (opens p ∷ ts) = SpellWords ts
SpellWords (closes p ∷ ts) = SpellWords ts
SpellWords (control p ∷ ts) = SpellWords ts

longer_word : (b : ℕ) (w : List ℕ) → is_letter (class_of b) ≡ true → IsWord w → IsWord (b ∷ w)
longer_word b [] e h = absurd h
longer_word b (c ∷ w) e h = (e, h)

words_lengthened : (b at : ℕ) (ts : List Token) → is_letter (class_of b) ≡ true → SpellWords ts → SpellWords (lengthened b at ts)
words_lengthened b at [] e h = tt
words_lengthened b at (word w p ∷ ts) e h = (longer_word b w e h.0, h.1)
words_lengthened b at (opens p ∷ ts) e h = h
words_lengthened b at (closes p ∷ ts) e h = h
words_lengthened b at (control p ∷ ts) e h = h

words_with_letter : (joins : Bool) (b at : ℕ) (ts : List Token) → is_letter (class_of b) ≡ true → SpellWords ts → SpellWords (with_letter joins b at ts)
words_with_letter true b at ts e h = words_lengthened b at ts e h
words_with_letter false b at ts e h = ((e, tt), h)

words_with_byte : (k : Class) (joins : Bool) (b at : ℕ) (ts : List Token) → (k ≡ Letter → is_letter (class_of b) ≡ true) → SpellWords ts → SpellWords (with_byte k joins b at ts)
words_with_byte Blank joins b at ts e h = h
words_with_byte Semicolon joins b at ts e h = h
words_with_byte Opening joins b at ts e h = h
words_with_byte Closing joins b at ts e h = h
words_with_byte Control joins b at ts e h = h
words_with_byte Letter joins b at ts e h = words_with_letter joins b at ts (e refl) h

seen_letter : (comment : Bool) (b : ℕ) → seen_as comment b ≡ Letter → is_letter (class_of b) ≡ true
seen_letter true b e = absurd cc
seen_letter false b e = ap is_letter e

words_of_tokens : (comment : Bool) (at : ℕ) (bs : List ℕ) → SpellWords (tokens comment at bs)
unfolding tokens
words_of_tokens comment at [] = tt
words_of_tokens comment at (b ∷ bs) =
    words_with_byte (seen_as comment b) (begins_word bs) b at (tokens (comment_after comment b) (at + 1) bs) (seen_letter comment b)
    (words_of_tokens (comment_after comment b) (at + 1) bs)

words_of_shapes : (ts : List Token) → SpellWords ts → SpellWords (map shape ts)
words_of_shapes [] h = tt
words_of_shapes (word w p ∷ ts) h = (h.0, words_of_shapes ts h.1)
words_of_shapes (opens p ∷ ts) h = words_of_shapes ts h
words_of_shapes (closes p ∷ ts) h = words_of_shapes ts h
words_of_shapes (control p ∷ ts) h = words_of_shapes ts h

words_append : (ts us : List Token) → SpellWords (ts ++ us) → SpellWords ts × SpellWords us
words_append [] us h = (tt, h)
words_append (word w p ∷ ts) us h = let k = words_append ts us h.1 in ((h.0, k.0), k.1)
words_append (opens p ∷ ts) us h = words_append ts us h
words_append (closes p ∷ ts) us h = words_append ts us h
words_append (control p ∷ ts) us h = words_append ts us h

mutual
  words_of_item : (x : Item) → SpellWords (spelled x) → HasWords x
  words_of_item (a_word w p) h = h.0
  words_of_item (a_list xs p) h = words_of_items xs (words_append (spelled_all xs) (closes 0 ∷ []) h).0

  words_of_items : (xs : Items) → SpellWords (spelled_all xs) → AreWords xs
  words_of_items no_items h = tt
  words_of_items (item x xs) h =
      let k = words_append (spelled x) (spelled_all xs) h in
      (words_of_item x k.0, words_of_items xs k.1)

pub words_of_reading : (text : List ℕ) (items : Items) → Reads text items → AreWords items
words_of_reading text items reads = words_of_items items (subst SpellWords reads (words_of_shapes (tokens false 0 text) (words_of_tokens false 0 text)))

-- each of a word's bytes is a letter
pub all_letters : (bs : List ℕ) → AllByRecursion (λ x. is_letter (class_of x) ≡ true) bs → list_all (λ x. is_letter (class_of x)) bs ≡ true
all_letters [] h = refl
all_letters (b ∷ bs) h = and_from (is_letter (class_of b)) (list_all (λ x. is_letter (class_of x)) bs) h.0 (all_letters bs h.1)
