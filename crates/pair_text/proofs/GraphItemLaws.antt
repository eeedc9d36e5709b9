-- Groups of pairs and single pairs: what is read is in order and in range, and what is printed is read again.
use Rattle.std.proofs.Common.{◌≡◌, ◌≢◌, ℕ, zero, suc, ◌+◌, ◌-◌, ◌<◌, ◌≤◌, ◌^◌, Bool, true, false, cond, List, [], ◌∷◌, length, map, slice_index, Ok, Err, codes, refl, sym, ap, subst, ◌∙◌, add-one, arith}
use Rattle.std.specs.List.{AllByRecursion}
use Rattle.std.specs.List.Sorted.{IsStrictlyIncreasing}
use Rattle.sexp_core.specs.Items.{Item, a_word, a_list, Items, no_items, item, items_of}
use Rattle.sexp_core.specs.Printed.{bare, placeless, IsWord}
use Rattle.dp_graph.specs.GroupOrSingle.{GroupOrSingle, group, single}
use Rattle.text_reading.specs.Reading.{Read, ◌<*>◌, Form, form, part, done, word, of_form, by_word, many}
use Rattle.text_reading.specs.Numbers.{number}
use Rattle.text_reading.specs.Printed.{number_item}
use Rattle.text_reading.proofs.Words.{plain_word}
use Rattle.text_reading.proofs.Made.{Makes, ok_same, applied, made_part, made_done, made_form, made_word, made_number}
use Rattle.text_reading.proofs.Again.{Spells, SpellsAll, SpellsParts, spells_part, spells_done, spells_word, spells_form, spells_number, spells_each}
use Rattle.pair_text.specs.LongLists.{lacks, long_list}
use Rattle.pair_text.specs.InTurn.{before_others, in_turn, AllInTurn, above, number_from, ascending}
use Rattle.pair_text.proofs.LongListLaws.{lacks_same}
use Rattle.pair_text.proofs.AscendingLaws.{IsFrom, ascending_made, ascending_again}
use Rattle.pair_text.specs.GraphItems.{group_of, single_of, group_form, single_parts, single_form, group_forms, graph_item, group_item, single_item, printed_item}
use Rattle.pair_text.specs.Ranges.{IsGroup, HasPairs}

-- ---- numbers that ascend

abbrev IsPair : ℕ → Type 0
IsPair n = n < 2 ^ 32

rising : (limit : ℕ) (ns : List ℕ) (low : ℕ) → AllInTurn above (IsFrom limit) ns low → (k : ℕ) → suc k < length ns → slice_index ns k < slice_index ns (suc k)
rising limit [] low h k lt = absurd (omega arith)
rising limit (n ∷ []) low h k lt = absurd (omega arith)
rising limit (n ∷ m ∷ ms) low h zero lt = let next : suc n ≤ m = h.1.0.0 in omega arith
rising limit (n ∷ m ∷ ms) low h (suc k) lt = rising limit (m ∷ ms) (suc n) h.1 k (omega arith)

increasing : (limit : ℕ) (ns : List ℕ) (low : ℕ) → AllInTurn above (IsFrom limit) ns low → IsStrictlyIncreasing ns
increasing limit ns low h = λ k lt.
    let T : ℕ → Type 0 = λ j. slice_index ns k < slice_index ns j in
    subst T (sym (add-one k)) (rising limit ns low h k (omega arith))

are_pairs : (ns : List ℕ) (low : ℕ) → AllInTurn above (IsFrom (2 ^ 32 - 1)) ns low → AllByRecursion IsPair ns
are_pairs [] low h = tt
are_pairs (n ∷ ns) low h = (let le : n ≤ 2 ^ 32 - 1 = h.0.1 in omega arith, are_pairs ns (suc n) h.1)

in_turn_from : (n : ℕ) (ns : List ℕ) (low : ℕ) → low ≤ n → IsStrictlyIncreasing (n ∷ ns) → AllByRecursion IsPair (n ∷ ns) → AllInTurn above (IsFrom (2 ^ 32 - 1)) (n ∷ ns) low
in_turn_from n [] low le rises small = let lt : n < 2 ^ 32 = small.0 in ((le, omega arith), tt)
in_turn_from n (m ∷ ms) low le rises small =
    let lt : n < 2 ^ 32 = small.0 in
    let next : n < m = rises 0 (omega arith) in
    let later : IsStrictlyIncreasing (m ∷ ms) = λ k below.
    let T : ℕ → Type 0 = λ j. slice_index (m ∷ ms) k < slice_index (n ∷ m ∷ ms) j in
    let at : suc k + 1 ≡ suc (k + 1) = omega arith in
    subst T at (rises (suc k) (omega arith)) in
    ((le, omega arith), in_turn_from m ms (suc n) (omega arith) later small.1)

-- ---- what is read

abbrev pub IsReadable : GroupOrSingle → Type 0
IsReadable g = IsGroup g × HasPairs g

some_read : (r : Read ℕ) (others : ℕ → Read (List ℕ)) (ms : List ℕ) → before_others r others ≡ Ok ms → ms ≢ []
some_read (Err p) others ms e = absurd cc
some_read (Ok a) others ms e = λ none.
    let b = applied (Ok (λ (ws : List ℕ). a ∷ ws)) (others a) ms e in
    let same : a ∷ b.value ≡ ms = ap (λ (f : List ℕ → List ℕ). f b.value) (ok_same _ _ b.is_make) ∙ b.made in
    let never : a ∷ b.value ≡ [] = same ∙ none in
    cc

-- the members behind a head, of which there is one
abbrev MakesBehind : Form GroupOrSingle → Type 0
MakesBehind f = (at : ℕ) (x : Item) (xs : Items) (v : GroupOrSingle) → f at (item x xs) ≡ Ok v → IsReadable v

group_made : MakesBehind group_form
group_made at x xs v e =
    let a = applied (Ok group_of) (ascending (2 ^ 32 - 1) (item x xs) 0) v e in
    let h = ascending_made (2 ^ 32 - 1) (item x xs) 0 a.value a.is_value in
    let some = some_read (number_from (2 ^ 32 - 1) 0 x) (λ n. in_turn above (number_from (2 ^ 32 - 1)) xs (above 0 n)) a.value a.is_value in
    let same : group_of a.value ≡ v = ap (λ (f : List ℕ → GroupOrSingle). f a.value) (ok_same group_of a.make a.is_make) ∙ a.made in
    subst IsReadable same ((some, increasing (2 ^ 32 - 1) a.value 0 h), are_pairs a.value 0 h)

single_made : MakesBehind single_form
single_made at x xs v e =
    let (n, le, same) =
    made_form single_parts _ single_of (made_part (number (2 ^ 32 - 1)) done (λ n. n ≤ (2 ^ 32 - 1)) (λ f w. f ≡ w) (made_number (2 ^ 32 - 1)) made_done) at (item x xs) v e
    in
    subst IsReadable same (tt, omega (arith, le))

made_behind : (r : Read (Form GroupOrSingle)) → ((f : Form GroupOrSingle) → r ≡ Ok f → MakesBehind f) → (at : ℕ) (x : Item) (xs : Items) (v : GroupOrSingle) → of_form r at (item x xs) ≡ Ok v → IsReadable v
made_behind (Err p) h at x xs v e = absurd cc
made_behind (Ok f) h at x xs v e = h f refl at x xs v e

pub graph_item_made : Makes graph_item IsReadable
graph_item_made (a_word w at) v e = absurd cc
graph_item_made (a_list no_items at) v e = absurd cc
graph_item_made (a_list (item head no_items) at) v e = absurd cc
graph_item_made (a_list (item head (item x xs)) at) v e =
    made_behind (word group_forms head) (made_word group_forms MakesBehind (group_made, (single_made, tt)) head) at x xs v e

-- ---- what is printed is read again

long_again : {depth : ℕ} (n : ℕ) (read : Item → Read GroupOrSingle) (xs : Items) (value : GroupOrSingle) → lacks n xs ≡ false → Spells read depth (a_list xs 0) value → Spells (long_list n read) depth (a_list xs 0) value
long_again {depth} n read xs value long s = record { again = go; words = s.words; deep = s.deep }
  where
    go : (y : Item) → bare y ≡ a_list (placeless xs) 0 → long_list n read y ≡ Ok value
    go (a_word w at) e = absurd cc
    go (a_list ys at) e =
        let there : placeless ys ≡ placeless xs = cc in
        rw (lacks_same n xs ys there, long) (s.again (a_list ys at) e)

group_again : (n : ℕ) (ns : List ℕ) → AllInTurn above (IsFrom (2 ^ 32 - 1)) (n ∷ ns) 0 → Spells (by_word group_forms) 1 (group_item (n ∷ ns)) (group (n ∷ ns))
group_again n ns h =
    let s = ascending_again (2 ^ 32 - 1) (omega arith) (n ∷ ns) 0 h in
    let w = spells_word group_forms (codes "group") group_form refl (λ at. refl) in
    record { again = go w s; words = (w.words, s.words); deep = omega (arith, w.deep, s.deep) }
  where
    go : Spells (word group_forms) 0 (a_word (codes "group") 0) group_form → SpellsAll (λ ys. ascending (2 ^ 32 - 1) ys 0) 0 (items_of (map number_item (n ∷ ns))) (n ∷ ns)
        → (y : Item) → bare y ≡ a_list (item (a_word (codes "group") 0) (placeless (items_of (map number_item (n ∷ ns))))) 0 → by_word group_forms y ≡ Ok (group (n ∷ ns))
    go w s (a_word v at) e = absurd cc
    go w s (a_list no_items at) e = absurd cc
    go w s (a_list (item x ys) at) e =
        ap (λ (r : Read (Form GroupOrSingle)). of_form r at ys) (w.again x cc) ∙ ap (λ (r : Read (List ℕ)). Ok group_of <*> r) (s.again ys cc)

single_again : (n : ℕ) → n < 2 ^ 32 → Spells (by_word group_forms) 1 (single_item n) (single n)
single_again n lt =
    spells_form group_forms single_parts (codes "single") single_of refl (λ at. refl)
    (spells_part 0 single_of (spells_number (2 ^ 32 - 1) n (omega (arith, lt)) (omega (arith, lt))) (spells_done (single n)) (omega arith) (omega arith))

pub graph_item_again : (g : GroupOrSingle) → IsReadable g → Spells graph_item 1 (printed_item g) g
graph_item_again (group []) h = absurd (h.0.0 refl)
graph_item_again (group (n ∷ ns)) h =
    long_again 2 (by_word group_forms) _ (group (n ∷ ns)) refl (group_again n ns (in_turn_from n ns 0 (omega arith) h.0.1 h.1))
graph_item_again (single n) h = long_again 2 (by_word group_forms) _ (single n) refl (single_again n h.1)
