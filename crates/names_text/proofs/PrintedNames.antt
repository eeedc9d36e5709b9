-- The names of symbols and of variables in a printed problem.
use Rattle.std.proofs.Common.{◌≡◌, ℕ, zero, suc, ◌^◌, ◌<◌, ◌≤◌, true, false, not, List, [], ◌∷◌, ◌++◌, length, get_or, replicate, Some, None, decimal, refl, ap, ◌∙◌, ⊎_elim, arith}
use Rattle.std.specs.List.{list_any, AllByRecursion}
use Rattle.std.specs.Str.{bytes_eq}
use Rattle.std.proofs.lemmas.Bool.{and_parts, false_from_ne_true, not-true, cases_lt}
use Rattle.std.proofs.lemmas.Cmp.{nat_list_eq_equiv}
use Rattle.std.proofs.lemmas.Fmt.{decimal_nonempty, decimal_injective}
use Rattle.std.proofs.lemmas.List.{append_cancel_left, length-append}
use Rattle.std.proofs.lemmas.Slice.Eq.{bytes_eq-Decides}
use Rattle.sexp_core.specs.Tokens.{class_of, is_letter}
use Rattle.sexp_core.specs.Printed.{IsWord}
use Rattle.names_text.specs.Names.{number_among, are_distinct}
use Rattle.names_text.specs.Named.{is_word}
use Rattle.names_text.specs.VariableNames.{leading_underscores, underscores, variable_name}
use Rattle.names_text.proofs.NameLists.{any_other, number_behind}
use Rattle.text_reading.proofs.Words.{decimal_word, letters}

-- ---- words

underscore_letter : is_letter (class_of 95) ≡ true
unfolding class_of
underscore_letter = refl

abbrev AreLetters : List ℕ → Type 0
AreLetters bs = AllByRecursion (λ x. is_letter (class_of x) ≡ true) bs

word_letters : (bs : List ℕ) → IsWord bs → AreLetters bs
word_letters [] h = absurd h
word_letters (b ∷ bs) h = h

letters_word : (bs : List ℕ) → 0 < length bs → AreLetters bs → IsWord bs
letters_word [] lt h = absurd (omega arith)
letters_word (b ∷ bs) lt h = h

run_letters : (k : ℕ) (bs : List ℕ) → AreLetters bs → AreLetters (replicate k 95 ++ bs)
run_letters zero bs h = h
run_letters (suc k) bs h = (underscore_letter, run_letters k bs h)

pub variable_word : (k v : ℕ) → v < 2 ^ 64 → IsWord (variable_name k v)
variable_word k v lt =
    letters_word (variable_name k v) (omega (arith, length-append (replicate k 95) (decimal v), decimal_nonempty v lt))
    (run_letters k (decimal v) (word_letters (decimal v) (decimal_word v lt)))

pub symbol_word : (bs : List ℕ) → is_word bs ≡ true → IsWord bs
symbol_word [] e = absurd cc
symbol_word (b ∷ bs) e = letters b bs e

-- ---- names

equal_names : (m n : List ℕ) → bytes_eq m n ≡ true → m ≡ n
equal_names m n e = (bytes_eq-Decides m n).0 e

leading : (k : ℕ) (bs : List ℕ) → k ≤ leading_underscores (replicate k 95 ++ bs)
leading zero bs = omega arith
leading (suc k) bs = omega (arith, leading k bs)

-- a variable has the name of no symbol
pub no_symbol : (names : List (List ℕ)) (k v : ℕ) → underscores names ≤ k → number_among names (variable_name k v) ≡ None
no_symbol [] k v le = refl
no_symbol (n ∷ ns) k v le =
    let differ : bytes_eq (variable_name k v) n ≡ false =
    false_from_ne_true _ (λ e. absurd (omega (arith, ap leading_underscores (equal_names (variable_name k v) n e), leading k (decimal v)))) in
    rw (differ, no_symbol ns k v (omega arith)) refl

-- a symbol is found by its name
pub symbol_number : (names : List (List ℕ)) (f : ℕ) → are_distinct names ≡ true → f < length names → number_among names (get_or names f []) ≡ Some f
symbol_number [] f d lt = absurd (omega arith)
symbol_number (n ∷ ns) zero d lt = rw (nat_list_eq_equiv.refl n) refl
symbol_number (n ∷ ns) (suc f) d lt =
    let parts = and_parts (not (list_any (bytes_eq n) ns)) (are_distinct ns) d in
    let differ : bytes_eq (get_or ns f []) n ≡ false =
    nat_list_eq_equiv.symm (get_or ns f []) n ∙ any_other ns n f (not-true _ parts.0) (omega arith) in
    rw (differ, symbol_number ns f parts.1 (omega arith)) refl

-- ---- variables

-- the names of the variables below a number
abbrev pub variables_to : ℕ → ℕ → List (List ℕ)
variables_to k zero = []
variables_to k (suc m) = variables_to k m ++ variable_name k m ∷ []

pub length_variables : (k m : ℕ) → length (variables_to k m) ≡ m
length_variables k zero = refl
length_variables k (suc m) = omega (arith, length-append (variables_to k m) (variable_name k m ∷ []), length_variables k m)

other_name : (k v w : ℕ) → v < 2 ^ 64 → w < v → bytes_eq (variable_name k v) (variable_name k w) ≡ false
other_name k v w lt below =
    false_from_ne_true _ (λ e.
    let same : v ≡ w = decimal_injective v w lt (omega arith) (append_cancel_left (replicate k 95) (decimal v) (decimal w) (equal_names _ _ e)) in
    absurd (omega arith))

-- a variable is none of those with lesser numbers
pub later_variable : (k m v : ℕ) → m ≤ v → v < 2 ^ 64 → number_among (variables_to k m) (variable_name k v) ≡ None
later_variable k zero v le lt = refl
later_variable k (suc m) v le lt =
    number_behind (variables_to k m) (variable_name k m) (variable_name k v)
    ∙ rw (later_variable k m v (omega arith) lt, other_name k v m lt (omega arith)) refl

last_variable : (k m v : ℕ) → v ≡ m → v < 2 ^ 64 → number_among (variables_to k (suc m)) (variable_name k v) ≡ Some v
last_variable k m v e lt =
    number_behind (variables_to k m) (variable_name k m) (variable_name k v)
    ∙ rw (later_variable k m v (omega arith) lt, (bytes_eq-Decides (variable_name k v) (variable_name k m)).1 (ap (variable_name k) e), length_variables k m, e) refl

-- a variable is found by its name
pub variable_number : (k m v : ℕ) → v < m → v < 2 ^ 64 → number_among (variables_to k m) (variable_name k v) ≡ Some v
variable_number k zero v below lt = absurd (omega arith)
variable_number k (suc m) v below lt =
    ⊎_elim (λ (less : v < m).
    number_behind (variables_to k m) (variable_name k m) (variable_name k v) ∙ rw (variable_number k m v less lt) refl)
    (λ (le : m ≤ v). last_variable k m v (omega arith) lt)
    (cases_lt v m)
