-- What values of the slots say of a symbol, by its place.
use Rattle.std.specs.Prelude.{◌≡◌, ◌<◌, ℕ, ◌+◌, ◌*◌, List, [], map, get_or, slice_get, Option, Some, None, option_map, unwrap_or}
use Rattle.std.proofs.Common.{refl, sym, ap, arith, ◌∙◌}
use Rattle.std.specs.Borrow.{Bor}
use Rattle.std.specs.Option.{option_copied}
use Rattle.std.specs.Slice.{IsItemAt}
use Rattle.std.proofs.lemmas.Option.{slice_get-map, slice_get-get_or}
use Rattle.order_theory.specs.ArgumentFilter.{ArgumentFilter, Keep}
use Rattle.path_lpo.specs.pair_order.Entries.{place_among, entry_of}
use Rattle.path_lpo.proofs.pair_order.Placing.{copied_item}
use Rattle.path_lpo.specs.Table.{PathEntry, symbol_of, rank_of, filter_of, rank_in, filter_in}
use Rattle.order_search.specs.Slots.{Table, table_of}
use Rattle.order_search.specs.OrderSpace.{arity_with_mark, slots_of}
use Rattle.order_search.specs.Distinct.{AreDistinct}
use Rattle.order_search.proofs.SaidEntries.{entry_said}
use Rattle.order_search.proofs.PlacedEntries.{stands_at, no_entry_said}
use Rattle.order_search.proofs.TwoParts.{value_of_part}
use Rattle.lpo_find.specs.LpoSpace.{filter_number}
use Rattle.lpo_find.specs.LpoRow.{lpo_entry, entries_of}
use Rattle.lpo_find.specs.Filters.{filters_of}
use Rattle.lpo_find.proofs.FilterLists.{filter_of_number}

-- what was looked up stands in the list
pub looked_up : {D E : Type 0} (plain : D → E) (ds : List D) (i : ℕ) (r o : Option (Bor D)) → IsItemAt ds i r → r ≡ o → slice_get (map plain ds) i ≡ option_map plain (option_copied o)
looked_up plain ds i r o item e =
    slice_get-map plain ds i ∙ (ap (option_map plain) (sym (copied_item ds i r item)) ∙ ap (λ p. option_map plain (option_copied p)) e)

module _ (arities symbols values : List ℕ) (f : ℕ) where
  abbrev table : Table
  table = table_of (slots_of (λ _. 2) symbols) values

  abbrev said : ℕ → PathEntry
  said g = lpo_entry (arity_with_mark arities) table g

  pub no_rank : place_among symbols f ≡ None → 0 ≡ rank_in (entries_of arities symbols values) f
  no_rank e = sym (ap rank_of (no_entry_said symbol_of said (λ g. refl) symbols f e))

  pub no_filter : place_among symbols f ≡ None → Keep [] ≡ filter_in (entries_of arities symbols values) f
  no_filter e = sym (ap filter_of (no_entry_said symbol_of said (λ g. refl) symbols f e))

  module _ (distinct : AreDistinct symbols) (i : ℕ) (there : place_among symbols f ≡ Some i) where
    part_there : (part : ℕ) → part < 2 → table f part ≡ get_or values (2 * i + part) 0
    part_there part small =
        let at = stands_at symbols f i there in
        ap (λ (g : ℕ). table g part) (sym at.there) ∙ value_of_part symbols values i part distinct at.within small

    entry_there : entry_of symbol_of (entries_of arities symbols values) f ≡ Some (said f)
    entry_there = let at = stands_at symbols f i there in entry_said symbol_of said (λ g. refl) symbols (entries_of arities symbols values) refl f at.listed

    pub rank_there : get_or values (2 * i + 1) 0 ≡ rank_in (entries_of arities symbols values) f
    rank_there = sym (ap rank_of entry_there ∙ part_there 1 (omega arith))

    pub filter_there : (filters : List (List ArgumentFilter)) → filters ≡ map (λ g. filters_of (arity_with_mark arities g)) symbols
        → unwrap_or (slice_get (unwrap_or (slice_get filters i) []) (get_or values (2 * i) 0)) (Keep []) ≡ filter_in (entries_of arities symbols values) f
    filter_there filters are =
        let at = stands_at symbols f i there in
        let n = arity_with_mark arities f in
        let v = get_or values (2 * i) 0 in
        let listed : slice_get filters i ≡ Some (filters_of n) =
        ap (λ (l : List (List ArgumentFilter)). slice_get l i) are
        ∙ (slice_get-map (λ g. filters_of (arity_with_mark arities g)) symbols i
        ∙ (ap (option_map (λ g. filters_of (arity_with_mark arities g))) (slice_get-get_or symbols i 0 at.within)
        ∙ ap (λ (g : ℕ). Some (filters_of (arity_with_mark arities g))) at.there)) in
        let first : 2 * i ≡ 2 * i + 0 = omega arith in
        let value : v ≡ table f 0 = ap (λ (j : ℕ). get_or values j 0) first ∙ sym (part_there 0 (omega arith)) in
        ap (λ o. unwrap_or (slice_get (unwrap_or o []) v) (Keep [])) listed
        ∙ (filter_of_number n v ∙ (ap (λ (w : ℕ). filter_number n w) value ∙ sym (ap filter_of entry_there)))
