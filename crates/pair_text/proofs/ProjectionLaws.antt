-- Places of arguments for symbols: what is read is in range, and what is printed is read again.
use Rattle.std.proofs.Common.{◌≡◌, ℕ, suc, ◌<◌, ◌≤◌, ◌^◌, Bool, true, false, cond, List, [], ◌∷◌, map, Some, slice_get, Ok, Err, refl, sym, ap, subst, ◌∙◌, arith}
use Rattle.std.specs.List.{AllByRecursion}
use Rattle.sexp_core.specs.Items.{Item, a_word, a_list, Items, no_items, item, items_of}
use Rattle.sexp_core.specs.Printed.{bare, placeless}
use Rattle.trs_defs.specs.Variable.{is_listed}
use Rattle.dp_graph.specs.dp_core.Projection.{IsProjection}
use Rattle.names_text.specs.Named.{NamedSystem, IsNamed}
use Rattle.names_text.specs.declared.table.Symbol.{Symbol}
use Rattle.text_reading.specs.Reading.{Read, Form, form, part, done}
use Rattle.text_reading.specs.Printed.{number_item}
use Rattle.text_reading.proofs.Made.{Makes, MakesForm, made_part, made_done, made_form}
use Rattle.text_reading.proofs.Again.{Spells, SpellsAll, SpellsParts, spells_part, spells_done}
use Rattle.pair_text.specs.LongLists.{lacks}
use Rattle.pair_text.specs.Symbols.{symbol, argument_place, name_item}
use Rattle.pair_text.specs.Entries.{new_symbol, by_symbol, AreNewBehind}
use Rattle.pair_text.proofs.LongListLaws.{lacks_same}
use Rattle.pair_text.proofs.SymbolLaws.{symbol_made, symbol_again, IsArgumentPlace, argument_made, argument_again}
use Rattle.pair_text.proofs.EntryLaws.{IsNewEntry, entries_made, entries_again}
use Rattle.pair_text.specs.Projections.{projected, projected_symbol, place_parts, projection, projection_item, projections}
use Rattle.pair_text.specs.Ranges.{HasPlace}

-- ---- what is read

abbrev pub IsReadable : List ℕ → ℕ × ℕ → Type 0
IsReadable arities e = IsProjection arities e × HasPlace e

module _ (arities known : List ℕ) where
  abbrev IsNew : ℕ × ℕ → Type 0
  IsNew = IsNewEntry projected_symbol (IsReadable arities) known

  made_place : (s : Symbol) → slice_get arities s.number ≡ Some s.arity → is_listed s.number known ≡ false → MakesForm (form (place_parts s) (projected s)) IsNew
  made_place s arity new at xs v e =
      let (place, is, same) =
      made_form (place_parts s) _ (projected s)
      (made_part (argument_place s.arity) done (IsArgumentPlace s.arity) (λ f w. f ≡ w) (argument_made s.arity) made_done) at xs v e
      in
      subst IsNew same (((s.arity, arity, is.low, is.within), is.byte), new)

  made_if_new : (at : ℕ) (s : Symbol) (b : Bool) → slice_get arities s.number ≡ Some s.arity → is_listed s.number known ≡ b → (xs : Items) (v : ℕ × ℕ)
      → by_symbol (cond b (Err at) (Ok s)) (λ t. form (place_parts t) (projected t)) at xs ≡ Ok v → IsNew v
  made_if_new at s true arity new xs v e = absurd cc
  made_if_new at s false arity new xs v e = made_place s arity new at xs v e

  made_symbol : (at : ℕ) (r : Read Symbol) → ((s : Symbol) → r ≡ Ok s → slice_get arities s.number ≡ Some s.arity) → (xs : Items) (v : ℕ × ℕ)
      → by_symbol (new_symbol known at r) (λ t. form (place_parts t) (projected t)) at xs ≡ Ok v → IsNew v
  made_symbol at (Err p) arity xs v e = absurd cc
  made_symbol at (Ok s) arity xs v e = made_if_new at s (is_listed s.number known) (arity s refl) refl xs v e

  made_long : (b : Bool) (at : ℕ) (r : Read (ℕ × ℕ)) (v : ℕ × ℕ) → (r ≡ Ok v → IsNew v) → cond b (Err at) r ≡ Ok v → IsNew v
  made_long true at r v h e = absurd cc
  made_long false at r v h e = h e

projection_made : (named : NamedSystem) (known : List ℕ) → Makes (projection named known) (IsNewEntry projected_symbol (IsReadable named.system.arities) known)
projection_made named known (a_word w at) v e = absurd cc
projection_made named known (a_list no_items at) v e = absurd cc
projection_made named known (a_list (item name xs) at) v e =
    made_long named.system.arities known (lacks 1 xs) at (by_symbol (new_symbol known at (symbol named name)) (λ t. form (place_parts t) (projected t)) at xs) v
    (λ k. made_symbol named.system.arities known at (symbol named name) (λ s is. symbol_made named name s is) xs v k) e

pub projections_made : (named : NamedSystem) (xs : Items) (es : List (ℕ × ℕ)) → projections named xs ≡ Ok es
    → AllByRecursion (IsReadable named.system.arities) es × AreNewBehind [] (map projected_symbol es)
projections_made named xs es e = entries_made projected_symbol (projection named) (IsReadable named.system.arities) (projection_made named) xs es e

-- ---- what is printed is read again

module _ (named : NamedSystem) (is : IsNamed named) where
  place_again : (f n place : ℕ) → IsArgumentPlace n place
      → SpellsParts (place_parts (record { number = f; arity = n })) 0 (item (number_item place) no_items) (projected (record { number = f; arity = n })) (f, place)
  place_again f n place argument =
      let s : Symbol = record { number = f; arity = n } in
      spells_part 0 (projected s) (argument_again n place argument) (spells_done (f, place)) (omega arith) (omega arith)

  projection_again : (known : List ℕ) (e : ℕ × ℕ) → IsReadable named.system.arities e → is_listed e.0 known ≡ false → Spells (projection named known) 1 (projection_item named e) e
  projection_again known (f, place) ((n, arity, low, high), byte) new =
      let name = symbol_again named is f n arity in
      let s = place_again f n place (record { low = low; within = high; byte = byte }) in
      record { again = go name s; words = (name.words, s.words); deep = omega (arith, name.deep, s.deep) }
    where
      go : Spells (symbol named) 0 (name_item named f) (record { number = f; arity = n })
          → SpellsParts (place_parts (record { number = f; arity = n })) 0 (item (number_item place) no_items) (projected (record { number = f; arity = n })) (f, place)
          → (y : Item) → bare y ≡ a_list (item (name_item named f) (placeless (item (number_item place) no_items))) 0 → projection named known y ≡ Ok (f, place)
      go name s (a_word w at) e = absurd cc
      go name s (a_list no_items at) e = absurd cc
      go name s (a_list (item x ys) at) e =
          let there : placeless ys ≡ placeless (item (number_item place) no_items) = cc in
          rw (lacks_same 1 (item (number_item place) no_items) ys there, name.again x cc, new) (s.again at ys there)

  pub projections_again : (es : List (ℕ × ℕ)) → AllByRecursion (IsReadable named.system.arities) es → AreNewBehind [] (map projected_symbol es)
      → SpellsAll (projections named) 1 (items_of (map (projection_item named) es)) es
  projections_again es h new =
      let s = entries_again projected_symbol (projection named) (projection_item named) 1 (IsReadable named.system.arities) projection_again es h new in
      record { again = s.again; words = s.words; deep = s.deep }
