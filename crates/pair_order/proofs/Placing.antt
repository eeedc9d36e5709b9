-- Symbols that a set holds in order, and the entries that stand at their places.
use Rattle.std.specs.Prelude.{◌==◌}
use Rattle.std.proofs.Common.{◌≡◌, ℕ, zero, suc, ◌||◌, Bool, true, false, cond, List, [], ◌∷◌, ◌++◌, map, Option, Some, None, option_map, option_and_then, slice_get, length, get_or, ◌<◌, nat_eq, refl, ap, ap₂, sym, subst, ◌∙◌}
use Rattle.std.specs.Borrow.{Bor}
use Rattle.std.specs.Option.{option_copied}
use Rattle.std.specs.Slice.{IsItemAt}
use Rattle.std.specs.List.{list_any, position, AllByRecursion, IsDistinct}
use Rattle.std.proofs.lemmas.Bool.{eq-eqb}
use Rattle.std.proofs.lemmas.Option.{same_Some, slice_get_read, slice_get_past, slice_get-map}
use Rattle.std.proofs.lemmas.Cmp.{nat_eq_equiv}
use Rattle.std.proofs.lemmas.Map.Keys.{IsDistinct-head, IsDistinct-tail}
use Rattle.trs_defs.specs.Variable.{is_listed}
use Rattle.trs_core.proofs.FirstPlaces.{position_next}
use Rattle.pair_order.specs.Entries.{place_among, with_symbol, entry_of}

pub listed_any : (f : ℕ) (gs : List ℕ) → list_any (nat_eq f) gs ≡ is_listed f gs
listed_any f [] = refl
listed_any f (g ∷ gs) = ap₂ (λ a b. a || b) (nat_eq_equiv.symm f g) (listed_any f gs)

pub symbols_inserted : (f : ℕ) (gs more : List ℕ) → more ≡ cond (list_any (nat_eq f) gs) gs (gs ++ f ∷ []) → more ≡ with_symbol gs f
symbols_inserted f gs more e = e ∙ ap (λ b. cond b gs (gs ++ f ∷ [])) (listed_any f gs)

pub place_at : (f : ℕ) (gs : List ℕ) → position (λ g. nat_eq f g) gs ≡ place_among gs f
place_at f [] = refl
place_at f (g ∷ gs) =
    position_next (λ h. nat_eq f h) g gs ∙ ap₂ (λ b o. cond b (Some 0) (option_map suc o)) (nat_eq_equiv.symm f g) (place_at f gs)

-- a symbol that stands nowhere twice is found where it stands
found_here : (b : Bool) (o : Option ℕ) → b ≡ true → cond b (Some 0) o ≡ Some 0
found_here true o e = refl
found_here false o e = absurd cc

found_later : (b : Bool) (o p : Option ℕ) → b ≡ false → o ≡ p → cond b (Some 0) o ≡ p
found_later true o p e is = absurd cc
found_later false o p e is = is

differs_at : (g f : ℕ) (gs : List ℕ) (i : ℕ) → AllByRecursion (λ h. nat_eq g h ≡ false) gs → slice_get gs i ≡ Some f → nat_eq g f ≡ false
differs_at g f [] i all e = absurd cc
differs_at g f (h ∷ gs) zero all e = subst (λ z. nat_eq g z ≡ false) (same_Some h f e) all.0
differs_at g f (h ∷ gs) (suc i) all e = differs_at g f gs i all.1 e

pub place_found : (f : ℕ) (gs : List ℕ) (i : ℕ) → IsDistinct nat_eq gs → slice_get gs i ≡ Some f → place_among gs f ≡ Some i
place_found f [] i distinct e = absurd cc
place_found f (g ∷ gs) zero distinct e = found_here (nat_eq g f) (option_map suc (place_among gs f)) (eq-eqb g f (same_Some g f e))
place_found f (g ∷ gs) (suc i) distinct e =
    found_later (nat_eq g f) (option_map suc (place_among gs f)) (Some (suc i)) (differs_at g f gs i (IsDistinct-head nat_eq g gs distinct) e)
    (ap (option_map suc) (place_found f gs i (IsDistinct-tail nat_eq g gs distinct) e))

module _ {E : Type 0} (symbol_of : E → ℕ) where
  behind_first : (b : Bool) (e : E) (es : List E) (o : Option ℕ) (found : Option E) → option_and_then (slice_get es) o ≡ found
      → option_and_then (slice_get (e ∷ es)) (cond b (Some 0) (option_map suc o)) ≡ cond b (Some e) found
  behind_first true e es o found h = refl
  behind_first false e es None found h = h
  behind_first false e es (Some i) found h = h

  -- the entry that stands at the place of its symbol
  pub entry_at_place : (es : List E) (f : ℕ) → option_and_then (slice_get es) (place_among (map symbol_of es) f) ≡ entry_of symbol_of es f
  entry_at_place [] f = refl
  entry_at_place (e ∷ es) f = behind_first (symbol_of e == f) e es (place_among (map symbol_of es) f) _ (entry_at_place es f)

  pub entry_absent : (es : List E) (f : ℕ) (o : Option ℕ) → o ≡ place_among (map symbol_of es) f → o ≡ None → entry_of symbol_of es f ≡ None
  entry_absent es f o e none = sym (entry_at_place es f) ∙ ap (option_and_then (slice_get es)) (sym e ∙ none)

  pub entry_there : (es : List E) (f i : ℕ) (o : Option ℕ) → o ≡ place_among (map symbol_of es) f → o ≡ Some i → entry_of symbol_of es f ≡ slice_get es i
  entry_there es f i o e some = sym (entry_at_place es f) ∙ ap (option_and_then (slice_get es)) (sym e ∙ some)

pub copied_item : {E : Type 0} (es : List E) (i : ℕ) (r : Option (Bor E)) → IsItemAt es i r → option_copied r ≡ slice_get es i
copied_item es i None h = sym (slice_get_past es i h.3)
copied_item es i (Some x) h = sym (slice_get_read es (length es) i x.now refl h.3.0 h.1)

-- entries that contracts see by a plain form of them
module _ {D E : Type 0} (plain : D → E) (symbol_of : E → ℕ) where
  pub item_there : (ds : List D) (i : ℕ) (d : D) → i < length ds → d ≡ get_or ds i d → slice_get (map plain ds) i ≡ Some (plain d)
  item_there ds i d h is = slice_get-map plain ds i ∙ ap (option_map plain) (slice_get_read ds (length ds) i d refl h is)

  pub read_entry : (ds : List D) (table : List E) (symbols : List ℕ) (f i : ℕ) (o : Option ℕ) (r : Option (Bor D)) → map plain ds ≡ table
      → symbols ≡ map symbol_of (map plain ds) → o ≡ place_among symbols f → o ≡ Some i → IsItemAt ds i r
      → option_map plain (option_copied r) ≡ entry_of symbol_of table f
  read_entry ds table symbols f i o r is listed e some item =
      ap (option_map plain) (copied_item ds i r item) ∙ sym (slice_get-map plain ds i)
      ∙ sym (entry_there symbol_of (map plain ds) f i o (e ∙ ap (λ gs. place_among gs f) listed) some)
      ∙ ap (λ t. entry_of symbol_of t f) is

  pub no_entry : (ds : List D) (table : List E) (symbols : List ℕ) (f : ℕ) (o : Option ℕ) → map plain ds ≡ table
      → symbols ≡ map symbol_of (map plain ds) → o ≡ place_among symbols f → o ≡ None → None ≡ entry_of symbol_of table f
  no_entry ds table symbols f o is listed e none =
      sym (entry_absent symbol_of (map plain ds) f o (e ∙ ap (λ gs. place_among gs f) listed) none)
      ∙ ap (λ t. entry_of symbol_of t f) is
