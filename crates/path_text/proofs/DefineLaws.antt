-- Definitions that are read have paths in range, and printed ones are read again.
use Rattle.std.proofs.Common.{◌≡◌, ◌≢◌, ℕ, zero, suc, ◌+◌, ◌≤◌, ◌<◌, ◌^◌, ◌||◌, Bool, true, false, List, [], ◌∷◌, ◌++◌, length, slice_get, Some, Ok, codes, decimal, refl, sym, ap, subst, ◌∙◌, append_assoc, arith}
use Rattle.std.specs.List.{AllByRecursion}
use Rattle.std.specs.Str.{bytes_eq}
use Rattle.std.proofs.lemmas.Bool.{false_from_ne_true}
use Rattle.std.proofs.lemmas.Fmt.{decimal_injective}
use Rattle.std.proofs.lemmas.List.{append-nil}
use Rattle.std.proofs.lemmas.Option.{slice_get_within}
use Rattle.std.proofs.lemmas.Slice.Eq.{bytes_eq-Decides}
use Rattle.trs_defs.specs.Path.{PlacedRule}
use Rattle.text_reading.specs.Reading.{done, keyword, chosen}
use Rattle.text_reading.proofs.Made.{Makes, made_done, made_part, made_list, made_any}
use Rattle.text_reading.proofs.Again.{Spells, spells_done, spells_part, spells_list, spells_keyword, spells_by}
use Rattle.path_text.specs.declared.sharing.Shared.{Shared}
use Rattle.path_text.specs.Sharing.{Definition, path_weight, paths_weight, with_definition, nothing_defined}
use Rattle.path_text.specs.PathNames.{path_name}
use Rattle.path_text.specs.Paths.{no_path, plain_path_item}
use Rattle.path_text.specs.Defining.{is_defined, new_word, definition, define, define_item}
use Rattle.path_text.specs.AllDefined.{all_defined, definitions_from}
use Rattle.path_text.specs.Carrying.{Carries}
use Rattle.path_text.specs.Ranges.{IsPlacedInRange, AreDefinedInRange}
use Rattle.path_text.proofs.PathMade.{made_part_path, made_no_path}
use Rattle.path_text.proofs.SharedAgain.{spells_part_path, within_again, parts_again, name_word}

pub define_made : (shared : Shared) → AreDefinedInRange (Some shared) → Makes (define shared) (λ d. AllByRecursion IsPlacedInRange d.1)
define_made shared defined x v e =
    let (h, k, (w, any, (p, in_range, same))) =
    made_list _ _ definition
    (made_part (keyword (codes "define")) _ (λ _. Unit {0}) _ (made_any (keyword (codes "define")))
    (made_part (new_word shared.definitions) _ (λ _. Unit {0}) _ (made_any (new_word shared.definitions))
    (made_part_path (no_path done) (λ f w. f ≡ w) (made_no_path done (λ f w. f ≡ w) made_done) (Some shared) defined)))
    x v e
    in
    let P : Definition → Type 0 = λ d. AllByRecursion IsPlacedInRange d.1 in
    subst P same in_range

pub define_again : (shared : Shared) (k : ℕ) (p : List PlacedRule) → k < 2 ^ 64 → is_defined shared.definitions (path_name k) ≡ false → path_weight p ≤ shared.room → AllByRecursion IsPlacedInRange p
    → Spells (define shared) 4 (define_item k p) (path_name k, p)
define_again shared k p lt new le h =
    spells_list definition
    (spells_part 3 definition (spells_keyword (codes "define") refl)
    (spells_part 3 (definition tt) (spells_by (new_word shared.definitions) (path_name k) (path_name k) (name_word k lt) (λ at. rw new refl))
    (spells_part_path (no_path done) 3 (Some shared) (definition tt (path_name k)) (within_again shared (plain_path_item p) p le (parts_again shared.definitions p h))
    (spells_done (path_name k, p)) (omega arith) (omega arith)) (omega arith) (omega arith)) (omega arith) (omega arith))

-- ---- the names differ

name_same : (j k : ℕ) → j < 2 ^ 64 → k < 2 ^ 64 → path_name j ≡ path_name k → j ≡ k
name_same j k a b e = let same : decimal j ≡ decimal k = cc in decimal_injective j k a b same

name_other : (j k : ℕ) → j < 2 ^ 64 → k < 2 ^ 64 → j ≢ k → bytes_eq (path_name j) (path_name k) ≡ false
name_other j k a b n = false_from_ne_true (bytes_eq (path_name j) (path_name k)) (λ e. n (name_same j k a b ((bytes_eq-Decides (path_name j) (path_name k)).0 e)))

-- no name from this number on is defined
abbrev pub IsFresh : List Definition → ℕ → Type 0
IsFresh definitions k = (j : ℕ) → k ≤ j → j < 2 ^ 64 → is_defined definitions (path_name j) ≡ false

defined_last : (ds : List Definition) (d : Definition) (w : List ℕ) → is_defined ds w ≡ false → bytes_eq w d.0 ≡ false → is_defined (ds ++ d ∷ []) w ≡ false
defined_last [] d w e f = rw f refl
defined_last (c ∷ ds) d w e f = by_test (bytes_eq w c.0) e (λ g. defined_last ds d w g f)
  where
    by_test : (b : Bool) → b || is_defined ds w ≡ false → (is_defined ds w ≡ false → is_defined (ds ++ d ∷ []) w ≡ false) → b || is_defined (ds ++ d ∷ []) w ≡ false
    by_test true e more = absurd cc
    by_test false e more = more e

pub fresh_next : (shared : Shared) (k : ℕ) (p : List PlacedRule) → k < 2 ^ 64 → IsFresh shared.definitions k → IsFresh (with_definition shared (path_name k, p)).definitions (suc k)
fresh_next shared k p lt fresh = λ j le small.
    defined_last shared.definitions (path_name k, p) (path_name j) (fresh j (omega (arith, le)) small) (name_other j k small lt (λ e. omega (arith, le, e)))

-- ---- all definitions

definitions_are : (shared : Shared) (k : ℕ) (ps : List (List PlacedRule)) → (all_defined shared k ps).definitions ≡ shared.definitions ++ definitions_from k ps
definitions_are shared k [] = sym (append-nil shared.definitions)
definitions_are shared k (p ∷ ps) =
    definitions_are (with_definition shared (path_name k, p)) (suc k) ps
    ∙ append_assoc shared.definitions ((path_name k, p) ∷ []) (definitions_from (suc k) ps)

room_is : (shared : Shared) (k w : ℕ) (ps : List (List PlacedRule)) → paths_weight ps + w ≤ shared.room → w ≤ (all_defined shared k ps).room
room_is shared k w [] le = omega (arith, le)
room_is shared k w (p ∷ ps) le = room_is (with_definition shared (path_name k, p)) (suc k) w ps (omega (arith, le))

found_from : (k : ℕ) (ps : List (List PlacedRule)) (i : ℕ) (p : List PlacedRule) → k + length ps < 2 ^ 64 → slice_get ps i ≡ Some p → (at : ℕ)
    → chosen (definitions_from k ps) at (path_name (k + i)) ≡ Ok p
found_from k [] i p lt e at = absurd cc
found_from k (q ∷ ps) zero p lt e at =
    let same : q ≡ p = cc in
    let zero_more : k + zero ≡ k = omega arith in
    ap (λ n. chosen (definitions_from k (q ∷ ps)) at (path_name n)) zero_more
    ∙ rw ((bytes_eq-Decides (path_name k) (path_name k)).1 refl) (ap Ok same)
found_from k (q ∷ ps) (suc i) p lt e at =
    let within = slice_get_within ps i p e in
    let shift : k + suc i ≡ suc k + i = omega arith in
    ap (λ n. chosen (definitions_from k (q ∷ ps)) at (path_name n)) shift
    ∙ rw (name_other (suc k + i) k (omega (arith, lt, within)) (omega (arith, lt)) (λ same. omega (arith, same))) (found_from (suc k) ps i p (omega (arith, lt)) e at)

pub carries_all : (names : List (List PlacedRule)) (w : ℕ) → length names < 2 ^ 64 → paths_weight names + w ≤ 8388608 → Carries (Some (all_defined nothing_defined 0 names)) names w
carries_all names w lt le = (
  record {
    found = λ k p e at.
        let is = definitions_are nothing_defined 0 names in
        ap (λ (ds : List Definition). chosen ds at (path_name k)) is
        ∙ ap (λ n. chosen (definitions_from 0 names) at (path_name n)) (let one : k ≡ 0 + k = omega arith in one)
        ∙ found_from 0 names k p (omega (arith, lt)) e at;
    numbered = lt;
  },
  room_is nothing_defined 0 w names le,
)
