-- Paths that are seen one after another: those that occur, and those that occur more than once.
use Rattle.std.proofs.Common.{◌≡◌, ℕ, zero, suc, ◌+◌, ◌<◌, nat_lt, ◌||◌, Bool, true, false, cond, List, [], ◌∷◌, ◌++◌, length, take, slice_get, Option, Some, None, option_map, is_some, refl, sym, ap, ap₂, subst, ◌∙◌, arith}
use Rattle.std.specs.Prelude.{filter}
use Rattle.std.specs.List.{AllByRecursion}
use Rattle.std.proofs.lemmas.Bool.{lt-ltb, ltb-true, ltb-false}
use Rattle.std.proofs.lemmas.List.{take_more, append-nil}
use Rattle.std.proofs.lemmas.List.Elements.{filter-append}
use Rattle.std.proofs.lemmas.Option.{slice_get_within, get_or_from_slice_get}
use Rattle.trs_defs.specs.Path.{PlacedRule}
use Rattle.path_text.specs.PathNames.{is_same_path, path_number, occurrences, is_known, distinct_behind}
use Rattle.path_text.specs.Repeating.{AreSeen, with_missing, again_behind}
use Rattle.path_text.proofs.PathNumbers.{same_path}

abbrev Steps : Type 0
Steps = List PlacedRule

-- ---- truth values

or_true : (b : Bool) → b || true ≡ true
or_true true = refl
or_true false = refl

or_false : (b : Bool) → b || false ≡ b
or_false true = refl
or_false false = refl

-- ---- one more path

some_or : (a b : Bool) (n m : Option ℕ) → is_some n ≡ is_some m || b → is_some (cond a (Some 0) (option_map suc n)) ≡ is_some (cond a (Some 0) (option_map suc m)) || b
some_or true b n m e = refl
some_or false b None None e = e
some_or false b None (Some j) e = e
some_or false b (Some i) None e = e
some_or false b (Some i) (Some j) e = e

among_more : (qs : List Steps) (x p : Steps) → is_some (path_number (qs ++ x ∷ []) p) ≡ is_some (path_number qs p) || is_same_path p x
among_more [] x p = by_test (is_same_path p x)
  where
    by_test : (b : Bool) → (let o : Option ℕ = None in is_some (cond b (Some 0) (option_map suc o))) ≡ false || b
    by_test true = refl
    by_test false = refl
among_more (q ∷ qs) x p = some_or (is_same_path p q) (is_same_path p x) (path_number (qs ++ x ∷ []) p) (path_number qs p) (among_more qs x p)

more_counted : (a b : Bool) (n m : ℕ) → m ≡ cond b (suc n) n → cond a (suc m) m ≡ cond b (suc (cond a (suc n) n)) (cond a (suc n) n)
more_counted true true n m e = ap suc e
more_counted true false n m e = ap suc e
more_counted false true n m e = e
more_counted false false n m e = e

occurs_more : (done : List Steps) (x p : Steps) → occurrences p (done ++ x ∷ []) ≡ cond (is_same_path p x) (suc (occurrences p done)) (occurrences p done)
occurs_more [] x p = refl
occurs_more (q ∷ done) x p = more_counted (is_same_path p q) (is_same_path p x) (occurrences p done) (occurrences p (done ++ x ∷ [])) (occurs_more done x p)

keeps : (t n : ℕ) (b : Bool) → (b ≡ true → nat_lt t n ≡ nat_lt t (suc n)) → nat_lt t n ≡ nat_lt t (cond b (suc n) n)
keeps t n true h = h refl
keeps t n false h = refl

adds : (t n : ℕ) (b : Bool) → (b ≡ true → nat_lt t (suc n) ≡ true) → nat_lt t n || b ≡ nat_lt t (cond b (suc n) n)
adds t n true h = or_true (nat_lt t n) ∙ sym (h refl)
adds t n false h = or_false (nat_lt t n)

above : (t n : ℕ) → nat_lt t n ≡ true → nat_lt t (suc n) ≡ true
above t n e = let lt = ltb-true t n e in lt-ltb t (suc n) (omega (arith, lt))

none_yet : (n : ℕ) → nat_lt 0 n ≡ false → n ≡ 0
none_yet n e = let le = ltb-false 0 n e in omega (arith, le)

module _ (known again done : List Steps) (h : AreSeen known again done) (x : Steps) where
  -- a path of no step changes nothing
  empty_stays : length x ≡ 0 → AreSeen known again (done ++ x ∷ [])
  empty_stays e =
      record {
        occurring = λ p lt. h.occurring p lt ∙ ap (nat_lt 0) (sym (occurs_more done x p ∙ ap (λ b. cond b (suc (occurrences p done)) (occurrences p done)) (other p x lt e)));
        repeated = λ p lt. h.repeated p lt ∙ ap (nat_lt 1) (sym (occurs_more done x p ∙ ap (λ b. cond b (suc (occurrences p done)) (occurrences p done)) (other p x lt e)));
      }
    where
      other : (p y : Steps) → 0 < length p → length y ≡ 0 → is_same_path p y ≡ false
      other [] y lt e = absurd (omega (arith, lt))
      other (s ∷ p) [] lt e = refl
      other (s ∷ p) (t ∷ y) lt e = absurd (omega (arith, e))

  at_x : (p : Steps) → is_same_path p x ≡ true → occurrences x done ≡ occurrences p done
  at_x p e = ap (λ q. occurrences q done) (sym (same_path p x e))

  -- a new path
  pub first_time : 0 < length x → path_number known x ≡ None → AreSeen (known ++ x ∷ []) again (done ++ x ∷ [])
  first_time lt e =
      let none : occurrences x done ≡ 0 = none_yet (occurrences x done) (sym (h.occurring x lt) ∙ ap is_some e) in
      record {
        occurring = λ p is. among_more known x p ∙ ap (λ b. b || is_same_path p x) (h.occurring p is)
            ∙ adds 0 (occurrences p done) (is_same_path p x) (λ _. lt-ltb 0 (suc (occurrences p done)) (omega arith))
            ∙ ap (nat_lt 0) (sym (occurs_more done x p));
        repeated = λ p is. h.repeated p is
            ∙ keeps 1 (occurrences p done) (is_same_path p x) (λ same. rw (sym (at_x p same) ∙ none) refl)
            ∙ ap (nat_lt 1) (sym (occurs_more done x p));
      }

  -- a path that was seen before
  pub second_time : 0 < length x → is_some (path_number known x) ≡ true → path_number again x ≡ None → AreSeen known (again ++ x ∷ []) (done ++ x ∷ [])
  second_time lt e none =
      let some : nat_lt 0 (occurrences x done) ≡ true = sym (h.occurring x lt) ∙ e in
      record {
        occurring = λ p is. h.occurring p is
            ∙ keeps 0 (occurrences p done) (is_same_path p x) (λ same.
            let at_p : nat_lt 0 (occurrences p done) ≡ true = ap (nat_lt 0) (sym (at_x p same)) ∙ some in at_p ∙ sym (above 0 (occurrences p done) at_p))
            ∙ ap (nat_lt 0) (sym (occurs_more done x p));
        repeated = λ p is. among_more again x p ∙ ap (λ b. b || is_same_path p x) (h.repeated p is)
            ∙ adds 1 (occurrences p done) (is_same_path p x) (λ same.
            let at_p : 0 < occurrences p done = ltb-true 0 (occurrences p done) (ap (nat_lt 0) (sym (at_x p same)) ∙ some) in lt-ltb 1 (suc (occurrences p done)) (omega (arith, at_p)))
            ∙ ap (nat_lt 1) (sym (occurs_more done x p));
      }

  -- a path that was seen more than once before
  pub once_more : 0 < length x → is_some (path_number known x) ≡ true → is_some (path_number again x) ≡ true → AreSeen known again (done ++ x ∷ [])
  once_more lt e f =
      let some : nat_lt 0 (occurrences x done) ≡ true = sym (h.occurring x lt) ∙ e in
      let more : nat_lt 1 (occurrences x done) ≡ true = sym (h.repeated x lt) ∙ f in
      record {
        occurring = λ p is. h.occurring p is
            ∙ keeps 0 (occurrences p done) (is_same_path p x) (λ same.
            let at_p : nat_lt 0 (occurrences p done) ≡ true = ap (nat_lt 0) (sym (at_x p same)) ∙ some in at_p ∙ sym (above 0 (occurrences p done) at_p))
            ∙ ap (nat_lt 0) (sym (occurs_more done x p));
        repeated = λ p is. h.repeated p is
            ∙ keeps 1 (occurrences p done) (is_same_path p x) (λ same.
            let at_p : nat_lt 1 (occurrences p done) ≡ true = ap (nat_lt 1) (sym (at_x p same)) ∙ more in at_p ∙ sym (above 1 (occurrences p done) at_p))
            ∙ ap (nat_lt 1) (sym (occurs_more done x p));
      }

-- ---- the paths that occur

pub stays_empty : (known : List Steps) (x : Steps) → length x ≡ 0 → distinct_behind known (x ∷ []) ≡ known
stays_empty known [] e = refl
stays_empty known (s ∷ x) e = absurd (omega (arith, e))

pub distinct_more : (known ps qs : List Steps) → distinct_behind known (ps ++ qs) ≡ distinct_behind (distinct_behind known ps) qs
distinct_more known [] qs = refl
distinct_more known (p ∷ ps) qs = by_test (is_known known p) (distinct_more known ps qs) (distinct_more (known ++ p ∷ []) ps qs)
  where
    by_test : (b : Bool) → distinct_behind known (ps ++ qs) ≡ distinct_behind (distinct_behind known ps) qs
        → distinct_behind (known ++ p ∷ []) (ps ++ qs) ≡ distinct_behind (distinct_behind (known ++ p ∷ []) ps) qs
        → cond b (distinct_behind known (ps ++ qs)) (distinct_behind (known ++ p ∷ []) (ps ++ qs)) ≡ distinct_behind (cond b (distinct_behind known ps) (distinct_behind (known ++ p ∷ []) ps)) qs
    by_test true e f = e
    by_test false e f = f

abbrev pub AreFull : List Steps → Type 0
AreFull ps = AllByRecursion (λ p. 0 < length p) ps

full_more : (ps : List Steps) (p : Steps) → AreFull ps → 0 < length p → AreFull (ps ++ p ∷ [])
full_more [] p h k = (k, tt)
full_more (q ∷ ps) p h k = (h.0, full_more ps p h.1 k)

pub distinct_full : (known ps : List Steps) → AreFull known → AreFull (distinct_behind known ps)
distinct_full known [] h = h
distinct_full known ([] ∷ ps) h = distinct_full known ps h
distinct_full known ((s ∷ p) ∷ ps) h =
    by_test (is_some (path_number known (s ∷ p))) (distinct_full known ps h) (distinct_full (known ++ (s ∷ p) ∷ []) ps (full_more known (s ∷ p) h (omega arith)))
  where
    by_test : (b : Bool) → AreFull (distinct_behind known ps) → AreFull (distinct_behind (known ++ (s ∷ p) ∷ []) ps)
        → AreFull (cond b (distinct_behind known ps) (distinct_behind (known ++ (s ∷ p) ∷ []) ps))
    by_test true e f = e
    by_test false e f = f

full_at : (ps : List Steps) (k : ℕ) (p : Steps) → AreFull ps → slice_get ps k ≡ Some p → 0 < length p
full_at [] k p h e = absurd cc
full_at (q ∷ ps) zero p h e = let same : q ≡ p = cc in omega (arith, h.0, ap length same)
full_at (q ∷ ps) (suc k) p h e = full_at ps k p h.1 e

-- ---- those that occur more than once

filter_one : (f : Steps → Bool) (p : Steps) (ps : List Steps) → filter f (p ∷ []) ≡ cond (f p) (p ∷ []) []
filter_one f p ps = refl

pub kept_more : (f : Steps → Bool) (known names : List Steps) (k : ℕ) (p : Steps) (b : Bool) (new : List Steps) → slice_get known k ≡ Some p → names ≡ filter f (take k known) → b ≡ f p
    → new ≡ cond b (names ++ p ∷ []) names → new ≡ filter f (take (k + 1) known)
kept_more f known names k p b new found is test e =
    let lt = slice_get_within known k p found in
    let split : take (k + 1) known ≡ take k known ++ p ∷ [] = take_more known k p lt ∙ ap (λ q. take k known ++ q ∷ []) (get_or_from_slice_get known k p p found) in
    e ∙ by_test b ∙ ap₂ (λ (l : List Steps) (c : Bool). l ++ cond c (p ∷ []) []) is test
    ∙ sym (ap (filter f) split ∙ filter-append f (take k known) (p ∷ []))
  where
    by_test : (c : Bool) → cond c (names ++ p ∷ []) names ≡ names ++ cond c (p ∷ []) []
    by_test true = refl
    by_test false = sym (append-nil names)

missing_behind : (a : Bool) (o n : Option ℕ) → cond a (Some 0) (option_map suc o) ≡ None → n ≡ None → cond a (Some 0) (option_map suc n) ≡ None
missing_behind true o n e more = absurd cc
missing_behind false o n e more = ap (option_map suc) more

rest_missing : (a : Bool) (o : Option ℕ) → cond a (Some 0) (option_map suc o) ≡ None → o ≡ None
rest_missing true o e = absurd cc
rest_missing false None e = refl
rest_missing false (Some k) e = absurd cc

pub filter_none : (f : Steps → Bool) (ps : List Steps) (p : Steps) → path_number ps p ≡ None → path_number (filter f ps) p ≡ None
filter_none f [] p e = refl
filter_none f (q ∷ ps) p e = by_test (f q) (filter_none f ps p (rest_missing (is_same_path p q) (path_number ps p) e))
  where
    by_test : (b : Bool) → path_number (filter f ps) p ≡ None → path_number (cond b (q ∷ filter f ps) (filter f ps)) p ≡ None
    by_test true none = missing_behind (is_same_path p q) (path_number ps p) (path_number (filter f ps) p) e none
    by_test false none = none

-- whether a path is kept
pub kept_is : (known again ps : List Steps) (k : ℕ) (p : Steps) → known ≡ distinct_behind [] ps → AreSeen known again ps → slice_get known k ≡ Some p
    → is_some (path_number again p) ≡ nat_lt 1 (occurrences p ps)
kept_is known again ps k p is h found =
    h.repeated p (full_at known k p (let P : List Steps → Type 0 = AreFull in subst P (sym is) (distinct_full [] ps tt)) found)

-- ---- one more path, as the code sees it

pub seen_more : (known again done : List Steps) → AreSeen known again done → (x : Steps) → AreSeen (distinct_behind known (x ∷ [])) (again_behind known again x) (done ++ x ∷ [])
seen_more known again done h [] = empty_stays known again done h [] refl
seen_more known again done h (s ∷ x) = by_numbers (path_number known (s ∷ x)) (path_number again (s ∷ x)) refl refl
  where
    by_numbers : (o n : Option ℕ) → path_number known (s ∷ x) ≡ o → path_number again (s ∷ x) ≡ n
        → AreSeen (cond (is_some o) known (known ++ (s ∷ x) ∷ [])) (cond (is_some o) (cond (is_some n) again (again ++ (s ∷ x) ∷ [])) again) (done ++ (s ∷ x) ∷ [])
    by_numbers None n e f = first_time known again done h (s ∷ x) (omega arith) e
    by_numbers (Some i) None e f = second_time known again done h (s ∷ x) (omega arith) (ap is_some e) f
    by_numbers (Some i) (Some j) e f = once_more known again done h (s ∷ x) (omega arith) (ap is_some e) (ap is_some f)

pub distinct_one : (known : List Steps) (x : Steps) → 0 < length x → distinct_behind known (x ∷ []) ≡ with_missing known x
distinct_one known [] lt = absurd (omega (arith, lt))
distinct_one known (s ∷ x) lt = refl

pub again_one : (known again : List Steps) (x : Steps) → 0 < length x → again_behind known again x ≡ cond (is_some (path_number known x)) (with_missing again x) again
again_one known again [] lt = absurd (omega (arith, lt))
again_one known again (s ∷ x) lt = refl

pub again_empty : (known again : List Steps) (x : Steps) → length x ≡ 0 → again_behind known again x ≡ again
again_empty known again [] e = refl
again_empty known again (s ∷ x) e = absurd (omega (arith, e))

pub seen_by : {known again ks as' done : List Steps} → ks ≡ known → as' ≡ again → AreSeen known again done → AreSeen ks as' done
seen_by {known} {again} {ks} {as'} {done} e f h =
    let K : List Steps → Type 0 = λ l. AreSeen l as' done in
    let A : List Steps → Type 0 = λ l. AreSeen known l done in
    subst K (sym e) (subst A (sym f) h)
