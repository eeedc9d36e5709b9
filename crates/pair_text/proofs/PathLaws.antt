-- Tables of path orders: what is read is in range, and what is printed is read again.
use Rattle.std.proofs.Common.{◌≡◌, ℕ, suc, min, ◌-◌, ◌<◌, ◌≤◌, ◌^◌, false, List, [], ◌∷◌, length, map, Some, Ok, decimal, refl, sym, ap, subst, ◌∙◌, arith}
use Rattle.std.specs.List.{AllByRecursion}
use Rattle.sexp_core.specs.Items.{Item, a_word, a_list, Items, no_items, item, items_of}
use Rattle.sexp_core.specs.Printed.{bare, placeless}
use Rattle.trs_defs.specs.Variable.{is_listed}
use Rattle.order_theory.specs.ArgumentFilter.{ArgumentFilter, To, Keep}
use Rattle.path_lpo.specs.Table.{PathEntry, symbol_of, AscendsFrom}
use Rattle.path_lpo.specs.WellMade.{IsFilterWithin, IsPathEntry}
use Rattle.names_text.specs.Named.{NamedSystem, IsNamed}
use Rattle.names_text.specs.declared.table.Symbol.{Symbol}
use Rattle.text_reading.specs.Reading.{Read, ◌<*>◌, form, part, done}
use Rattle.text_reading.specs.Numbers.{number}
use Rattle.text_reading.specs.Printed.{number_item, row_item}
use Rattle.text_reading.proofs.Made.{Makes, ok_same, applied, made_part, made_done, made_form, made_number}
use Rattle.text_reading.proofs.Again.{Spells, SpellsAll, SpellsParts, spells_part, spells_done, spells_number}
use Rattle.pair_text.specs.InTurn.{AllInTurn, above, ascending}
use Rattle.pair_text.specs.Symbols.{argument_place}
use Rattle.pair_text.specs.Entries.{AreNewBehind}
use Rattle.pair_text.proofs.AscendingLaws.{IsFrom, ascending_made, ascending_again}
use Rattle.pair_text.proofs.SymbolLaws.{IsArgumentPlace, argument_made, argument_again}
use Rattle.pair_text.proofs.EntryLaws.{IsNewSymbol, IsNewEntry, entry_made, spells_as_form, entry_again, entries_made, entries_again}
use Rattle.pair_text.specs.PathEntries.{to_place, keep_places, filter, path_entry_of, rank_and_filter, path_entry, filter_item, path_entry_item, path_entries}
use Rattle.pair_text.specs.EntryRanges.{HasBytes, HasPlaces}

-- ---- filters

-- the places that a filter keeps
record AreKept (arity low : ℕ) (places : List ℕ) : Type 0 where
  ascend : AscendsFrom low places
  within : AllByRecursion (λ place. place ≤ arity) places
  bytes : AllByRecursion (λ place. place ≤ 255) places

kept : (arity : ℕ) (places : List ℕ) (low : ℕ) → AllInTurn above (IsFrom (min arity 255)) places (suc low) → AreKept arity low places
kept arity [] low h = record { ascend = tt; within = tt; bytes = tt }
kept arity (place ∷ places) low h =
    let above_low : suc low ≤ place = h.0.0 in
    let high : place ≤ min arity 255 = h.0.1 in
    let k = kept arity places place h.1 in
    record { ascend = (omega arith, k.ascend); within = (omega arith, k.within); bytes = (omega arith, k.bytes) }

kept_in_turn : (arity : ℕ) (places : List ℕ) (low : ℕ) → AscendsFrom low places → AllByRecursion (λ place. place ≤ arity) places → AllByRecursion (λ place. place ≤ 255) places
    → AllInTurn above (IsFrom (min arity 255)) places (suc low)
kept_in_turn arity [] low a w b = tt
kept_in_turn arity (place ∷ places) low a w b =
    let above_low : low < place = a.0 in
    let within : place ≤ arity = w.0 in
    let byte : place ≤ 255 = b.0 in
    ((omega arith, omega arith), kept_in_turn arity places place a.1 w.1 b.1)

abbrev IsFilter : ℕ → ArgumentFilter → Type 0
IsFilter arity f = IsFilterWithin arity f × HasBytes f

filter_made : (arity : ℕ) → Makes (filter arity) (IsFilter arity)
filter_made arity (a_word w at) v e =
    let a = applied (Ok to_place) (argument_place arity (a_word w at)) v e in
    let is = argument_made arity (a_word w at) a.value a.is_value in
    let same : to_place a.value ≡ v = ap (λ (f : ℕ → ArgumentFilter). f a.value) (ok_same to_place a.make a.is_make) ∙ a.made in
    subst (IsFilter arity) same ((is.low, is.within), is.byte)
filter_made arity (a_list xs at) v e =
    let a = applied (Ok keep_places) (ascending (min arity 255) xs 1) v e in
    let is = kept arity a.value 0 (ascending_made (min arity 255) xs 1 a.value a.is_value) in
    let same : keep_places a.value ≡ v = ap (λ (f : List ℕ → ArgumentFilter). f a.value) (ok_same keep_places a.make a.is_make) ∙ a.made in
    subst (IsFilter arity) same ((is.ascend, is.within), is.bytes)

filter_again : (arity : ℕ) (f : ArgumentFilter) → IsFilter arity f → Spells (filter arity) 1 (filter_item f) f
filter_again arity (To place) h =
    let s = argument_again arity place (record { low = h.0.0; within = h.0.1; byte = h.1 }) in
    record { again = go s; words = s.words; deep = omega (arith, s.deep) }
  where
    go : Spells (argument_place arity) 0 (number_item place) place → (y : Item) → bare y ≡ a_word (decimal place) 0 → filter arity y ≡ Ok (To place)
    go s (a_word w at) e = ap (λ (r : Read ℕ). Ok to_place <*> r) (s.again (a_word w at) e)
    go s (a_list ys at) e = absurd cc
filter_again arity (Keep places) h =
    let s = ascending_again (min arity 255) (omega arith) places 1 (kept_in_turn arity places 0 h.0.0 h.0.1 h.1) in
    record { again = go s; words = s.words; deep = omega (arith, s.deep) }
  where
    go : SpellsAll (λ ys. ascending (min arity 255) ys 1) 0 (items_of (map number_item places)) places
        → (y : Item) → bare y ≡ a_list (placeless (items_of (map number_item places))) 0 → filter arity y ≡ Ok (Keep places)
    go s (a_word w at) e = absurd cc
    go s (a_list ys at) e = ap (λ (r : Read (List ℕ)). Ok keep_places <*> r) (s.again ys cc)

-- ---- entries

abbrev pub IsReadable : List ℕ → PathEntry → Type 0
IsReadable arities e = IsPathEntry arities e × HasPlaces e

path_made : (named : NamedSystem) → length named.system.arities ≤ 4095 → (known : List ℕ) → Makes (path_entry named known) (IsNewEntry symbol_of (IsReadable named.system.arities) known)
path_made named few known =
    let P : PathEntry → Type 0 = IsNewEntry symbol_of (IsReadable named.system.arities) known in
    entry_made named few 2 (λ s. form (rank_and_filter s) (path_entry_of s)) P known (λ s new at xs v e.
    let (rank, le, (f, is, same)) =
    made_form (rank_and_filter s) _ (path_entry_of s)
    (made_part (number (2 ^ 63 - 1)) _ (λ n. n ≤ (2 ^ 63 - 1)) _ (made_number (2 ^ 63 - 1))
    (made_part (filter s.arity) done (IsFilter s.arity) (λ g w. g ≡ w) (filter_made s.arity) made_done)) at xs v e
    in
    subst P same (((s.arity, new.arity, omega (arith, le), is.0), is.1), new.new))

pub path_entries_made : (named : NamedSystem) → length named.system.arities ≤ 4095 → (xs : Items) (es : List PathEntry) → path_entries named xs ≡ Ok es
    → AllByRecursion (IsReadable named.system.arities) es × AreNewBehind [] (map symbol_of es)
path_entries_made named few xs es e = entries_made symbol_of (path_entry named) (IsReadable named.system.arities) (path_made named few) xs es e

path_again : (named : NamedSystem) → IsNamed named → (known : List ℕ) (e : PathEntry) → IsReadable named.system.arities e → is_listed e.symbol known ≡ false
    → Spells (path_entry named known) 2 (path_entry_item named e) e
path_again named is known e ((n, arity, rank, within), bytes) new =
    let s : Symbol = record { number = e.symbol; arity = n } in
    entry_again named is 2 (λ t. form (rank_and_filter t) (path_entry_of t)) known e.symbol n 1 (items_of (number_item e.rank ∷ filter_item e.filter ∷ [])) e (record { arity = arity; new = new }) refl
    (spells_as_form (rank_and_filter s) (path_entry_of s) (spells_part 1 (path_entry_of s) (spells_number (2 ^ 63 - 1) e.rank (omega (arith, rank)) (omega (arith, rank)))
    (spells_part 1 (path_entry_of s e.rank) (filter_again n e.filter (within, bytes)) (spells_done e) (omega arith) (omega arith)) (omega arith) (omega arith)))

pub path_entries_again : (named : NamedSystem) → IsNamed named → (es : List PathEntry) → AllByRecursion (IsReadable named.system.arities) es → AreNewBehind [] (map symbol_of es)
    → SpellsAll (path_entries named) 2 (items_of (map (path_entry_item named) es)) es
path_entries_again named is es each new =
    let s = entries_again symbol_of (path_entry named) (path_entry_item named) 2 (IsReadable named.system.arities) (path_again named is) es each new in
    record { again = s.again; words = s.words; deep = s.deep }
