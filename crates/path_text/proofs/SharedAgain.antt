-- Paths that are printed are read again, with what is shared.
use Rattle.std.proofs.Common.{◌≡◌, ℕ, zero, suc, ◌+◌, ◌≤◌, ◌<◌, ◌^◌, Bool, true, false, cond, List, [], ◌∷◌, ◌++◌, map, slice_get, Option, Some, None, option_map, Ok, codes, decimal, refl, sym, ap, subst, ◌∙◌, arith}
use Rattle.std.specs.List.{AllByRecursion}
use Rattle.std.proofs.lemmas.Bool.{le-leb}
use Rattle.std.proofs.lemmas.List.{append-nil, map-id}
use Rattle.sexp_core.specs.Items.{Item, a_word, a_list, Items, no_items, item, items_of}
use Rattle.std.proofs.lemmas.Option.{slice_get_within}
use Rattle.sexp_core.specs.Tokens.{class_of, is_letter}
use Rattle.sexp_core.specs.Printed.{IsWord, bare, placeless}
use Rattle.text_reading.proofs.Words.{plain_word, decimal_word}
use Rattle.trs_defs.specs.Path.{PlacedRule}
use Rattle.rewrite_core.specs.ShiftedPath.{shifted_path}
use Rattle.text_reading.specs.Reading.{Read, ◌<*>◌, Parts, place_of, word, chosen}
use Rattle.text_reading.specs.Printed.{word_item, list_item}
use Rattle.text_reading.proofs.Again.{Spells, SpellsAll, SpellsParts, spells_done, spells_part, spells_rest, spells_list, spells_many, spells_keyword, spells_by}
use Rattle.path_text.specs.declared.sharing.Shared.{Shared}
use Rattle.path_text.specs.Sharing.{Definition, Sharing, path_weight, paths_weight, behind_path, behind_read, behind_paths}
use Rattle.path_text.specs.PathNames.{is_same_path, path_number, path_name}
use Rattle.path_text.specs.Paths.{position_item, placed_rule_item, ◌then_read◌, begins_with, used, use_list, shifted_at, use_part, path_part, all_steps, steps_of_parts, path_of_parts, within_room, plain_path, path, part_path, in_turn, paths_in, rest_in_turn, plain_path_item, named_path_item, numbered_path_item, path_item}
use Rattle.path_text.specs.Ranges.{IsPlacedInRange}
use Rattle.path_text.specs.Carrying.{AreNamed, Carries}
use Rattle.path_text.proofs.PathAgain.{position_again, placed_rule_again, plain_path_again}
use Rattle.path_text.proofs.PathNumbers.{same_path}

-- ---- parts

-- an item that is read as a step is no use
no_use : (y : Item) (s : PlacedRule) → bare y ≡ bare (placed_rule_item s) → begins_with (codes "use") y ≡ false
no_use (a_word w at) s e = absurd cc
no_use (a_list no_items at) s e = absurd cc
no_use (a_list (item (a_list xs at) ys) at') s e = absurd cc
no_use (a_list (item (a_word w at) ys) at') s e =
    let is : w ≡ codes "at" = cc in
    rw is refl

part_again : (definitions : List Definition) (s : PlacedRule) → IsPlacedInRange s → Spells (path_part definitions) 2 (placed_rule_item s) (s ∷ [])
part_again definitions s h =
    let t = placed_rule_again s h in
    record {
      again = λ y e. rw (no_use y s e, t.again y e) refl;
      words = t.words;
      deep = t.deep;
    }

each_once : (p : List PlacedRule) → all_steps (map (λ s. s ∷ []) p) ≡ p
each_once [] = refl
each_once (s ∷ p) = ap (λ q. s ∷ q) (each_once p)

pub parts_again : (definitions : List Definition) (p : List PlacedRule) → AllByRecursion IsPlacedInRange p → Spells (path_of_parts definitions) 3 (plain_path_item p) p
parts_again definitions p h =
    let S : List PlacedRule → Type 0 = λ q. Spells (path_of_parts definitions) 3 (plain_path_item p) q in
    subst S (each_once p)
    (spells_list steps_of_parts
    (spells_part 2 steps_of_parts (spells_keyword (codes "path") refl)
    (spells_rest (path_part definitions) (steps_of_parts tt)
    (spells_many (path_part definitions) placed_rule_item (λ s. s ∷ []) 2 IsPlacedInRange (part_again definitions) p h))
    (omega arith) (omega arith)))

-- ---- names

is_a_word : (bs : List ℕ) → IsWord bs → AllByRecursion (λ x. is_letter (class_of x) ≡ true) bs
is_a_word [] h = absurd h
is_a_word (b ∷ bs) h = h

pub name_word : (k : ℕ) → k < 2 ^ 64 → IsWord (path_name k)
name_word k lt =
    let p = plain_word (codes "p") refl in
    (p.0, is_a_word (decimal k) (decimal_word k lt))

pub shifted_none : (p : List PlacedRule) → shifted_path [] p ≡ p
shifted_none [] = refl
shifted_none (s ∷ p) = ap (λ q. s ∷ q) (shifted_none p)

abbrev use_item : ℕ → Item
use_item k = list_item (word_item (codes "use") ∷ position_item [] ∷ word_item (path_name k) ∷ [])

is_use : (y : Item) (k : ℕ) → bare y ≡ bare (use_item k) → begins_with (codes "use") y ≡ true
is_use (a_word w at) k e = absurd cc
is_use (a_list no_items at) k e = absurd cc
is_use (a_list (item (a_list xs at) ys) at') k e = absurd cc
is_use (a_list (item (a_word w at) ys) at') k e =
    let is : w ≡ codes "use" = cc in
    rw is refl

module _ (definitions : List Definition) (k : ℕ) (p : List PlacedRule) (lt : k < 2 ^ 64) (found : (at : ℕ) → chosen definitions at (path_name k) ≡ Ok p) where
  use_again : Spells (use_list definitions) 2 (use_item k) ([], p)
  use_again =
      spells_list used
      (spells_part 1 used (spells_keyword (codes "use") refl)
      (spells_part 1 (used tt) (position_again [] tt)
      (spells_part 1 (used tt []) (spells_by (word definitions) (path_name k) p (name_word k lt) (λ at. found at)) (spells_done ([], p))
      (omega arith) (omega arith)) (omega arith) (omega arith)) (omega arith) (omega arith))

  use_part_again : Spells (path_part definitions) 2 (use_item k) p
  use_part_again =
      record {
        again = λ y e.
            let deep : use_part definitions y ≡ Ok (shifted_path [] p) = ap (λ (r : Read (List ℕ × List PlacedRule)). r then_read shifted_at (place_of y)) (use_again.again y e) in
            let reads : path_part definitions y ≡ use_part definitions y = rw (is_use y k e) refl in
            reads ∙ deep ∙ ap Ok (shifted_none p);
        words = use_again.words;
        deep = use_again.deep;
      }

  named_again : Spells (path_of_parts definitions) 3 (named_path_item k) p
  named_again =
      let S : List PlacedRule → Type 0 = λ q. Spells (path_of_parts definitions) 3 (named_path_item k) q in
      subst S (append-nil p)
      (spells_list steps_of_parts
      (spells_part 2 steps_of_parts (spells_keyword (codes "path") refl)
      (spells_rest (path_part definitions) (steps_of_parts tt)
      (spells_many {X = Unit {0}} (path_part definitions) (λ _. use_item k) (λ _. p) 2 (λ _. Unit {0}) (λ _ _. use_part_again) (tt ∷ []) (tt, tt)))
      (omega arith) (omega arith)))

found_behind : (b : Bool) (p q : List PlacedRule) (qs : List (List PlacedRule)) (o : Option ℕ) (k : ℕ) → (b ≡ true → p ≡ q) → ((j : ℕ) → o ≡ Some j → slice_get qs j ≡ Some p)
    → cond b (Some 0) (option_map suc o) ≡ Some k → slice_get (q ∷ qs) k ≡ Some p
found_behind true p q qs o zero same more e = ap Some (sym (same refl))
found_behind true p q qs o (suc k) same more e = absurd cc
found_behind false p q qs None k same more e = absurd cc
found_behind false p q qs (Some j) zero same more e = absurd cc
found_behind false p q qs (Some j) (suc k) same more e = more k cc

pub path_at : (names : List (List PlacedRule)) (p : List PlacedRule) (k : ℕ) → path_number names p ≡ Some k → slice_get names k ≡ Some p
path_at [] p k e = absurd cc
path_at (q ∷ names) p k e = found_behind (is_same_path p q) p q names (path_number names p) k (same_path p q) (λ j is. path_at names p j is) e

-- ---- a path

pub within_again : (shared : Shared) (x : Item) (p : List PlacedRule) → path_weight p ≤ shared.room → Spells (path_of_parts shared.definitions) 3 x p → Spells (path (Some shared)) 3 x p
within_again shared x p le t =
    record {
      again = λ y e.
          ap (λ (r : Read (List PlacedRule)). r then_read within_room shared.room (place_of y)) (t.again y e) ∙ rw (le-leb (path_weight p) shared.room le) refl;
      words = t.words;
      deep = t.deep;
    }

by_number : (shared : Shared) (names : List (List PlacedRule)) (p : List PlacedRule) → AllByRecursion IsPlacedInRange p → AreNamed shared.definitions names → path_weight p ≤ shared.room
    → (o : Option ℕ) → path_number names p ≡ o → Spells (path (Some shared)) 3 (numbered_path_item o p) p
by_number shared names p h named le None e = within_again shared (plain_path_item p) p le (parts_again shared.definitions p h)
by_number shared names p h named le (Some k) e =
    let found = path_at names p k e in
    let lt = slice_get_within names k p found in
    within_again shared (named_path_item k) p le (named_again shared.definitions k p (omega (arith, lt, named.numbered)) (named.found k p found))

pub path_again : (sharing : Sharing) (names : List (List PlacedRule)) (p : List PlacedRule) → AllByRecursion IsPlacedInRange p → Carries sharing names (path_weight p)
    → Spells (path sharing) 3 (path_item names p) p
path_again None names p h c =
    let S : List (List PlacedRule) → Type 0 = λ ns. Spells plain_path 3 (path_item ns p) p in subst S (sym c) (plain_path_again p h)
path_again (Some shared) names p h c = by_number shared names p h c.0 c.1 (path_number names p) refl

-- ---- several paths

pub carries_less : (sharing : Sharing) (names : List (List PlacedRule)) (v w : ℕ) → v ≤ w → Carries sharing names w → Carries sharing names v
carries_less None names v w le c = c
carries_less (Some shared) names v w le c = (c.0, omega (arith, le, c.1))

pub carries_behind : (sharing : Sharing) (names : List (List PlacedRule)) (p : List PlacedRule) (w : ℕ) → Carries sharing names (path_weight p + w) → Carries (behind_path sharing p) names w
carries_behind None names p w c = c
carries_behind (Some shared) names p w c = (c.0, omega (arith, c.1))

pub carries_behind_paths : (sharing : Sharing) (names ps : List (List PlacedRule)) (w : ℕ) → Carries sharing names (paths_weight ps + w) → Carries (behind_paths sharing ps) names w
carries_behind_paths sharing names [] w c = carries_less sharing names w (paths_weight [] + w) (omega arith) c
carries_behind_paths sharing names (p ∷ ps) w c =
    carries_behind_paths (behind_path sharing p) names ps w
    (carries_behind sharing names p (paths_weight ps + w)
    (carries_less sharing names (path_weight p + (paths_weight ps + w)) (paths_weight (p ∷ ps) + w) (omega arith) c))

pub spells_part_path : {B C : Type 0} (more : Sharing → Parts B C) {m n : ℕ} (depth : ℕ) {x : Item} {xs : Items} (sharing : Sharing) {p : List PlacedRule} (make : List PlacedRule → B) {made : C}
    → Spells (path sharing) m x p → SpellsParts (more (behind_path sharing p)) n xs (make p) made → m ≤ depth → n ≤ depth
    → SpellsParts (part_path more sharing) depth (item x xs) make made
spells_part_path {B} {C} more {m} {n} depth {x} {xs} sharing {p} make {made} s t le1 le2 =
    record { again = go; words = (s.words, t.words); deep = omega (arith, s.deep, t.deep) }
  where
    go : (at : ℕ) (ys : Items) → placeless ys ≡ item (bare x) (placeless xs) → part_path more sharing at (Ok make) ys ≡ Ok made
    go at no_items e = absurd cc
    go at (item y ys) e =
        ap (λ (r : Read (List PlacedRule)). more (behind_read sharing r) at (Ok make <*> r) ys) (s.again y cc) ∙ t.again at ys cc

pub weights_joined : (ps qs : List (List PlacedRule)) → paths_weight (ps ++ qs) ≡ paths_weight ps + paths_weight qs
weights_joined [] qs = omega arith
weights_joined (p ∷ ps) qs = let e = weights_joined ps qs in omega (arith, e)

-- what is printed for each value is read as what the value is to be
pub spells_in_turn : {X A : Type 0} (read : Sharing → Item → Read A) (paths : A → List (List PlacedRule)) (print : X → Item) (become : X → A) (depth : ℕ) (P : X → Type 0) (names : List (List PlacedRule))
    → ((s : Sharing) (x : X) → P x → Carries s names (paths_weight (paths (become x))) → Spells (read s) depth (print x) (become x))
    → (s : Sharing) (xs : List X) → AllByRecursion P xs → Carries s names (paths_weight (paths_in paths (map become xs)))
    → SpellsAll (in_turn read paths s) depth (items_of (map print xs)) (map become xs)
spells_in_turn {X} {A} read paths print become depth P names each s [] h c = record { again = go; words = tt; deep = omega arith }
  where
    go : (ys : Items) → placeless ys ≡ no_items → in_turn read paths s ys ≡ Ok []
    go no_items e = refl
    go (item y ys) e = absurd cc
spells_in_turn {X} {A} read paths print become depth P names each s (x ∷ xs) h c =
    let first = paths (become x) in
    let rest = paths_in paths (map become xs) in
    let sum = weights_joined first rest in
    let one = each s x h.0 (carries_less s names (paths_weight first) (paths_weight (first ++ rest)) (omega (arith, sum)) c) in
    let more = spells_in_turn read paths print become depth P names each (behind_paths s first) xs h.1
    (carries_behind_paths s names first (paths_weight rest) (carries_less s names (paths_weight first + paths_weight rest) (paths_weight (first ++ rest)) (omega (arith, sum)) c)) in
    record { again = go one more; words = (one.words, more.words); deep = omega (arith, one.deep, more.deep) }
  where
    go : Spells (read s) depth (print x) (become x) → SpellsAll (in_turn read paths (behind_paths s (paths (become x)))) depth (items_of (map print xs)) (map become xs)
        → (ys : Items) → placeless ys ≡ item (bare (print x)) (placeless (items_of (map print xs))) → in_turn read paths s ys ≡ Ok (become x ∷ map become xs)
    go one more no_items e = absurd cc
    go one more (item y ys) e =
        ap (λ (r : Read A). r then_read (λ z. Ok (λ zs. z ∷ zs) <*> in_turn read paths (behind_paths s (paths z)) ys)) (one.again y cc)
        ∙ ap (λ (r : Read (List A)). Ok (λ zs. become x ∷ zs) <*> r) (more.again ys cc)

-- each value is read as itself

pub spells_each_in_turn : {A : Type 0} (read : Sharing → Item → Read A) (paths : A → List (List PlacedRule)) (print : A → Item) (depth : ℕ) (P : A → Type 0) (names : List (List PlacedRule))
    → ((s : Sharing) (x : A) → P x → Carries s names (paths_weight (paths x)) → Spells (read s) depth (print x) x)
    → (s : Sharing) (xs : List A) → AllByRecursion P xs → Carries s names (paths_weight (paths_in paths xs))
    → SpellsAll (in_turn read paths s) depth (items_of (map print xs)) xs
spells_each_in_turn {A} read paths print depth P names each s xs h c =
    let T : List A → Type 0 = λ ys. SpellsAll (in_turn read paths s) depth (items_of (map print xs)) ys in
    let W : List A → Type 0 = λ ys. Carries s names (paths_weight (paths_in paths ys)) in
    subst T (map-id xs) (spells_in_turn read paths print (λ x. x) depth P names each s xs h (subst W (sym (map-id xs)) c))

pub spells_rest_in_turn : {A B : Type 0} (read : Sharing → Item → Read A) (paths : A → List (List PlacedRule)) (s : Sharing) {depth : ℕ} {xs : Items} {values : List A} (make : List A → B)
    → SpellsAll (in_turn read paths s) depth xs values → SpellsParts (rest_in_turn read paths s) depth xs make (make values)
spells_rest_in_turn {A} {B} read paths s {depth} {xs} {values} make t =
    record { again = λ at ys e. ap (λ (r : Read (List A)). Ok make <*> r) (t.again ys e); words = t.words; deep = t.deep }
