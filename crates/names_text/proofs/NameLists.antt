-- Names with one more behind them, and their numbers.
use Rattle.std.proofs.Common.{◌≡◌, ◌∙◌, ◌+◌, ℕ, zero, suc, Bool, true, false, cond, not, ◌||◌, ◌&&◌, List, [], ◌∷◌, ◌++◌, Option, Some, None, option_map, unwrap_or, refl, ap, ◌<◌, length, get_or, take, drop, sym, arith}
use Rattle.std.specs.Str.{bytes_eq}
use Rattle.std.specs.List.{list_any}
use Rattle.std.specs.Option.{option_or}
use Rattle.std.proofs.lemmas.Bool.{and_parts, false_from_ne_true, both_ways, not-true}
use Rattle.std.proofs.lemmas.Cmp.{nat_list_eq_equiv}
use Rattle.std.proofs.lemmas.List.Folds.{list_any-append, list_any_at}
use Rattle.names_text.specs.Names.{number_among, are_distinct}
use Rattle.names_text.proofs.Loops.{one_more}

absent_behind : (b rest : Bool) (o : Option ℕ) → cond b (Some 0) (option_map suc o) ≡ None → (o ≡ None → rest ≡ false) → (b || rest) ≡ false
absent_behind true rest o e h = absurd cc
absent_behind false rest None e h = h refl
absent_behind false rest (Some i) e h = absurd cc

-- a name with no number is not among the names
pub absent : (names : List (List ℕ)) (name : List ℕ) → number_among names name ≡ None → list_any (bytes_eq name) names ≡ false
absent [] name e = refl
absent (n ∷ ns) name e = absent_behind (bytes_eq name n) _ (number_among ns name) e (absent ns name)

last_behind : (a d s r d' : Bool) → (not a && d) ≡ true → (s || r) ≡ false → (d ≡ true → r ≡ false → d' ≡ true) → (not (a || (s || false)) && d') ≡ true
last_behind true d s r d' h e k = absurd cc
last_behind false d true r d' h e k = absurd cc
last_behind false d false r d' h e k = k h e

-- distinct names stay so with a new one behind them
pub distinct_last : (ns : List (List ℕ)) (name : List ℕ) → are_distinct ns ≡ true → list_any (bytes_eq name) ns ≡ false → are_distinct (ns ++ name ∷ []) ≡ true
distinct_last [] name h e = refl
distinct_last (n ∷ ns) name h e =
    rw (list_any-append (bytes_eq n) ns (name ∷ []), nat_list_eq_equiv.symm n name)
    (last_behind (list_any (bytes_eq n) ns) (are_distinct ns) (bytes_eq name n) (list_any (bytes_eq name) ns) _ h e (distinct_last ns name))

-- a name is none of others where it is not among them
pub any_other : (names : List (List ℕ)) (n : List ℕ) (f : ℕ) → list_any (bytes_eq n) names ≡ false → f < length names → bytes_eq n (get_or names f []) ≡ false
any_other names n f e lt = false_from_ne_true _ (λ h. both_ways _ e (list_any_at (bytes_eq n) names f [] lt h))

-- a name is not among those before it
pub next_new : (ns : List (List ℕ)) (i : ℕ) → are_distinct ns ≡ true → i < length ns → number_among (take i ns) (get_or ns i []) ≡ None
next_new [] i d lt = absurd (omega arith)
next_new (n ∷ ns) zero d lt = refl
next_new (n ∷ ns) (suc i) d lt =
    let parts = and_parts (not (list_any (bytes_eq n) ns)) (are_distinct ns) d in
    let differ : bytes_eq (get_or ns i []) n ≡ false =
    nat_list_eq_equiv.symm (get_or ns i []) n ∙ any_other ns n i (not-true _ parts.0) (omega arith) in
    rw (differ, next_new ns i parts.1 (omega arith)) refl

-- ---- numbers

below_behind : (b : Bool) (o : Option ℕ) (l i : ℕ) → ((j : ℕ) → o ≡ Some j → j < l) → cond b (Some 0) (option_map suc o) ≡ Some i → i < suc l
below_behind true o l i h e = omega (arith, ap (λ p. unwrap_or p 0) e)
below_behind false None l i h e = absurd cc
below_behind false (Some j) l i h e = omega (arith, ap (λ p. unwrap_or p 0) e, h j refl)

-- the number of a name is less than their count
pub number_below : (ns : List (List ℕ)) (name : List ℕ) (i : ℕ) → number_among ns name ≡ Some i → i < length ns
number_below [] name i e = absurd cc
number_below (n ∷ ns) name i e = below_behind (bytes_eq name n) (number_among ns name) (length ns) i (number_below ns name) e

behind_first : (a b : Bool) (o r : Option ℕ) (k : ℕ) → r ≡ option_or o (cond b (Some k) None)
    → cond a (Some 0) (option_map suc r) ≡ option_or (cond a (Some 0) (option_map suc o)) (cond b (Some (suc k)) None)
behind_first true b o r k e = refl
behind_first false true None r k e = ap (option_map suc) e
behind_first false false None r k e = ap (option_map suc) e
behind_first false b (Some i) r k e = ap (option_map suc) e

-- the number of a name among names with one more behind them
pub number_behind : (ns : List (List ℕ)) (name q : List ℕ) → number_among (ns ++ name ∷ []) q ≡ option_or (number_among ns q) (cond (bytes_eq q name) (Some (length ns)) None)
number_behind [] name q = refl
number_behind (n ∷ ns) name q = behind_first (bytes_eq q n) (bytes_eq q name) (number_among ns q) _ (length ns) (number_behind ns name q)

-- ---- names that are looked at one after another

-- the number of a name is that by the names from number i on
abbrev pub IsNumberFrom : List (List ℕ) → List ℕ → ℕ → Type 0
IsNumberFrom ns q i = option_map (λ (k : ℕ). k + i) (number_among (drop i ns) q) ≡ number_among ns q

found_here : (i : ℕ) (b : Bool) (o : Option ℕ) → b ≡ true → option_map (λ (k : ℕ). k + i) (cond b (Some 0) o) ≡ Some i
found_here i true o e = ap Some (omega arith)
found_here i false o e = absurd cc

passed_over : (i : ℕ) (b : Bool) (o : Option ℕ) → b ≡ false
    → option_map (λ (k : ℕ). k + (i + 1)) o ≡ option_map (λ (k : ℕ). k + i) (cond b (Some 0) (option_map suc o))
passed_over i true o e = absurd cc
passed_over i false None e = refl
passed_over i false (Some k) e = ap Some (omega arith)

module _ (ns : List (List ℕ)) (q n : List ℕ) (i : ℕ) (lt : i < length ns) (is : n ≡ get_or ns i n) (from : IsNumberFrom ns q i) where
  looked_at : option_map (λ (k : ℕ). k + i) (number_among (n ∷ drop (i + 1) ns) q) ≡ number_among ns q
  looked_at = one_more (λ l. option_map (λ (k : ℕ). k + i) (number_among l q)) ns i n lt is ∙ from

  -- the name is the one that is looked at
  pub name_found : bytes_eq q n ≡ true → Some i ≡ number_among ns q
  name_found e = sym (found_here i (bytes_eq q n) _ e) ∙ looked_at

  -- the name is another one
  pub name_passed_over : bytes_eq q n ≡ false → IsNumberFrom ns q (i + 1)
  name_passed_over e = passed_over i (bytes_eq q n) (number_among (drop (i + 1) ns) q) e ∙ looked_at
