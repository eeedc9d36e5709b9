-- The names of sample systems are words, and distinct.
use Rattle.std.proofs.Common.{◌≡◌, ℕ, zero, suc, ◌+◌, ◌^◌, ◌<◌, ◌≤◌, Bool, true, false, cond, ◌&&◌, List, [], ◌∷◌, ◌++◌, length, Option, Some, None, option_map, is_none, codes, decimal, refl, ap, append_assoc, arith}
use Rattle.std.specs.List.{list_all}
use Rattle.std.specs.Str.{bytes_eq}
use Rattle.std.proofs.lemmas.Bool.{false_from_ne_true}
use Rattle.std.proofs.lemmas.Fmt.{decimal_injective}
use Rattle.std.proofs.lemmas.List.{append-nil, append_cancel_left, length-append}
use Rattle.std.proofs.lemmas.Slice.Eq.{bytes_eq-Decides}
use Rattle.sexp_core.specs.Tokens.{class_of, is_letter}
use Rattle.sexp_core.specs.Printed.{IsWord}
use Rattle.sexp_core.proofs.Words.{all_letters}
use Rattle.names_text.specs.Names.{number_among}
use Rattle.names_text.specs.Named.{is_word}
use Rattle.names_text.specs.NamesFault.{first_bad_name}
use Rattle.text_reading.proofs.Words.{decimal_word}
use Rattle.sampling.specs.Family.{function_name, names_to}

-- ---- words

word_letters : (bs : List ℕ) → IsWord bs → list_all (λ x. is_letter (class_of x)) bs ≡ true
word_letters [] h = absurd h
word_letters (b ∷ bs) h = all_letters (b ∷ bs) h

f_is_letter : is_letter (class_of 102) ≡ true
unfolding class_of
f_is_letter = refl

function_word : (i : ℕ) → i < 2 ^ 64 → is_word (function_name i) ≡ true
function_word i lt = rw (f_is_letter, word_letters (decimal i) (decimal_word i lt)) refl

-- ---- distinct names

absent_behind : (b : Bool) (o p : Option ℕ) → cond b (Some 0) (option_map suc o) ≡ None → (o ≡ None → p ≡ None)
    → cond b (Some 0) (option_map suc p) ≡ None
absent_behind true o p e h = absurd cc
absent_behind false None p e h = ap (λ (o : Option ℕ). option_map suc o) (h refl)
absent_behind false (Some i) p e h = absurd cc

absent_push : (names : List (List ℕ)) (last name : List ℕ) → number_among names name ≡ None → bytes_eq name last ≡ false
    → number_among (names ++ last ∷ []) name ≡ None
absent_push [] last name e differ = rw differ refl
absent_push (n ∷ names) last name e differ =
    absent_behind (bytes_eq name n) (number_among names name) (number_among (names ++ last ∷ []) name) e
    (λ rest. absent_push names last name rest differ)

other_name : (i m : ℕ) → m < i → i < 2 ^ 64 → bytes_eq (function_name i) (function_name m) ≡ false
other_name i m below lt =
    false_from_ne_true _ (λ e.
    let equal : function_name i ≡ function_name m = (bytes_eq-Decides (function_name i) (function_name m)).0 e in
    let same : i ≡ m = decimal_injective i m lt (omega arith) (append_cancel_left (codes "f") (decimal i) (decimal m) equal) in
    absurd (omega arith))

-- a function has none of the names of those before it
later_name : (m i : ℕ) → m ≤ i → i < 2 ^ 64 → number_among (names_to m) (function_name i) ≡ None
later_name zero i le lt = refl
later_name (suc m) i le lt =
    absent_push (names_to m) (function_name m) (function_name i) (later_name m i (omega arith) lt) (other_name i m (omega arith) lt)

-- ---- no bad name

good_behind : (b : Bool) (o p : Option ℕ) (k : ℕ) → cond b o (Some k) ≡ None → (o ≡ None → p ≡ None) → cond b p (Some k) ≡ None
good_behind true o p k e h = h e
good_behind false o p k e h = absurd cc

good_push : (before names : List (List ℕ)) (last : List ℕ) → first_bad_name before names ≡ None → is_word last ≡ true
    → number_among (before ++ names) last ≡ None → first_bad_name before (names ++ last ∷ []) ≡ None
good_push before [] last e word absent =
    let here : number_among before last ≡ None = rw append-nil at absent in
    rw (word, here) refl
good_push before (n ∷ names) last e word absent =
    good_behind (is_word n && is_none (number_among before n)) (first_bad_name (before ++ n ∷ []) names)
    (first_bad_name (before ++ n ∷ []) (names ++ last ∷ [])) (length before) e
    (λ rest. good_push (before ++ n ∷ []) names last rest word (rw append_assoc absent))

first_names_good : first_bad_name [] (names_to zero) ≡ None
unfolding class_of
first_names_good = refl

pub good_names : (n : ℕ) → n ≤ 2 ^ 64 → first_bad_name [] (names_to n) ≡ None
good_names zero le = first_names_good
good_names (suc n) le =
    good_push [] (names_to n) (function_name n) (good_names n (omega arith)) (function_word n (omega arith)) (later_name n n (omega arith) (omega arith))

pub length-names_to : (n : ℕ) → length (names_to n) ≡ n + 2
length-names_to zero = refl
length-names_to (suc n) = omega (arith, length-append (names_to n) (function_name n ∷ []), length-names_to n)
