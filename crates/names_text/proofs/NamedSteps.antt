-- Steps of the checks of names.
use Rattle.std.proofs.Common.{◌≡◌, ℕ, suc, ◌<◌, Bool, true, false, cond, not, ◌&&◌, List, [], ◌∷◌, ◌++◌, length, Option, Some, None, option_map, is_none, refl, sym, ◌∙◌, append_assoc, eq-eqb, arith}
use Rattle.std.specs.List.{list_all, position}
use Rattle.std.specs.Option.{option_or}
use Rattle.std.proofs.lemmas.List.{append-nil}
use Rattle.sexp_core.specs.Tokens.{class_of, is_letter}
use Rattle.trs_defs.specs.System.{System}
use Rattle.trs_core.specs.Valid.{IsValid}
use Rattle.trs_core.proofs.FirstPlaces.{position_next}
use Rattle.names_text.specs.declared.names_fault.NamesFault.{NamesFault}
use Rattle.names_text.specs.declared.names_fault.NamesFault.TheVariants.{Count, BadName, TooDeep, BadNumbering, OutOfMemory}
use Rattle.names_text.specs.Names.{number_among, are_distinct}
use Rattle.names_text.specs.Named.{IsNamed, is_word, is_shallow, is_numbered}
use Rattle.names_text.specs.NamesFault.{first_bad_name, rules_fault, names_fault, FailsBy}
use Rattle.names_text.proofs.NameLists.{absent, distinct_last}

-- a word is a run of letters that is not empty
pub word_test : (bs : List ℕ) → 0 < length bs → is_word bs ≡ list_all (λ x. is_letter (class_of x)) bs
word_test [] lt = absurd (omega arith)
word_test (b ∷ bs) lt = refl

-- ---- names

none_of : {A B : Type 0} (f : A → B) (o : Option A) → option_map f o ≡ None → o ≡ None
none_of f None e = refl
none_of f (Some x) e = absurd cc

both_true : (a b : Bool) (o : Option ℕ) (n : ℕ) → cond (a && b) o (Some n) ≡ None → (a ≡ true) × (b ≡ true) × (o ≡ None)
both_true true true o n e = (refl, refl, e)
both_true true false o n e = absurd cc
both_true false b o n e = absurd cc

none_is : {A : Type 0} (o : Option A) → is_none o ≡ true → o ≡ None
none_is None e = refl
none_is (Some x) e = absurd cc

-- names with no bad one are words, and stay distinct behind those before them
good_names : (before names : List (List ℕ)) → are_distinct before ≡ true → first_bad_name before names ≡ None
    → (list_all is_word names ≡ true) × (are_distinct (before ++ names) ≡ true)
good_names before [] d e = (refl, rw (append-nil before) d)
good_names before (n ∷ ns) d e =
    let parts = both_true (is_word n) (is_none (number_among before n)) (first_bad_name (before ++ n ∷ []) ns) (length before) e in
    let absent_here = absent before n (none_is (number_among before n) parts.1) in
    let rest = good_names (before ++ n ∷ []) ns (distinct_last before n d absent_here) parts.2 in
    (rw parts.0 rest.0, rw append_assoc at rest.1)

next_cases : (b : Bool) (o : Option ℕ) (k : ℕ) → option_map BadName (cond b None (Some k)) ≡ None → cond b o (Some k) ≡ o
next_cases true o k e = refl
next_cases false o k e = absurd cc

-- behind a good name
pub names_next : (before : List (List ℕ)) (n : List ℕ) (ns : List (List ℕ)) → option_map BadName (first_bad_name before (n ∷ [])) ≡ None
    → first_bad_name before (n ∷ ns) ≡ first_bad_name (before ++ n ∷ []) ns
names_next before n ns e = next_cases (is_word n && is_none (number_among before n)) (first_bad_name (before ++ n ∷ []) ns) (length before) e

fail_cases : (b : Bool) (o : Option ℕ) (k : ℕ) (f : NamesFault) → option_map BadName (cond b None (Some k)) ≡ Some f → option_map BadName (cond b o (Some k)) ≡ Some f
fail_cases true o k f e = absurd cc
fail_cases false o k f e = e

-- a bad name is the first of those that it begins
pub names_fail : (e : NamesFault) (before : List (List ℕ)) (n : List ℕ) (ns : List (List ℕ)) → FailsBy e (option_map BadName (first_bad_name before (n ∷ [])))
    → FailsBy e (option_map BadName (first_bad_name before (n ∷ ns)))
names_fail OutOfMemory before n ns h = tt
names_fail Count before n ns h = fail_cases (is_word n && is_none (number_among before n)) (first_bad_name (before ++ n ∷ []) ns) (length before) Count h
names_fail (BadName f) before n ns h = fail_cases (is_word n && is_none (number_among before n)) (first_bad_name (before ++ n ∷ []) ns) (length before) (BadName f) h
names_fail (TooDeep i) before n ns h = fail_cases (is_word n && is_none (number_among before n)) (first_bad_name (before ++ n ∷ []) ns) (length before) (TooDeep i) h
names_fail (BadNumbering i) before n ns h = fail_cases (is_word n && is_none (number_among before n)) (first_bad_name (before ++ n ∷ []) ns) (length before) (BadNumbering i) h

-- ---- rules

all_behind : (b rest : Bool) (o : Option ℕ) → cond (not b) (Some 0) (option_map suc o) ≡ None → (o ≡ None → rest ≡ true) → (b && rest) ≡ true
all_behind true rest o e h = h (none_of suc o e)
all_behind false rest o e h = absurd cc

none_passes : {X : Type 0} (p : X → Bool) (xs : List X) → position (λ x. not (p x)) xs ≡ None → list_all p xs ≡ true
none_passes p [] e = refl
none_passes p (x ∷ xs) e = all_behind (p x) (list_all p xs) (position (λ y. not (p y)) xs) (sym (position_next (λ y. not (p y)) x xs) ∙ e) (none_passes p xs)

-- ---- the whole

none_both : {A : Type 0} (x y : Option A) → option_or x y ≡ None → (x ≡ None) × (y ≡ None)
none_both None y e = (refl, e)
none_both (Some f) y e = absurd cc

pub is_named : (names : List (List ℕ)) (s : System) → IsValid s → length names ≡ length s.arities
    → option_map (λ f. BadName f) (first_bad_name [] names) ≡ None → None ≡ rules_fault s.rules → IsNamed (record { names = names; system = s })
is_named names s v l e f =
    let good = good_names [] names refl (none_of (λ f. BadName f) (first_bad_name [] names) e) in
    let rules = none_both _ _ (sym f) in
    record {
      counts = l;
      words = good.0;
      distinct = good.1;
      valid = v;
      shallow = none_passes is_shallow s.rules (none_of (λ i. TooDeep i) _ rules.0);
      numbered = none_passes is_numbered s.rules (none_of (λ i. BadNumbering i) _ rules.1);
    }

pub fault_of_rules : (names : List (List ℕ)) (s : System) (f : Option NamesFault) → length names ≡ length s.arities
    → option_map (λ f. BadName f) (first_bad_name [] names) ≡ None → f ≡ rules_fault s.rules → names_fault names s ≡ f
fault_of_rules names s f l e r = rw (eq-eqb (length names) (length s.arities) l, e) (sym r)

pub fails_by : (e : NamesFault) (o : Option NamesFault) → o ≡ Some e → FailsBy e o
fails_by Count o h = h
fails_by (BadName f) o h = h
fails_by (TooDeep i) o h = h
fails_by (BadNumbering i) o h = h
fails_by OutOfMemory o h = tt
