-- The entries that a table says for symbols, by the places of the symbols.
use Rattle.std.specs.Prelude.{◌≡◌, ◌<◌, ℕ, Bool, true, false, ◌||◌, ◌==◌, if◌then◌else◌, List, [], ◌∷◌, length, map, get_or, Option, Some, None, option_map}
use Rattle.std.proofs.Common.{zero, suc, refl, sym, ap, ap₂, arith, ◌∙◌}
use Rattle.trs_defs.specs.Variable.{is_listed}
use Rattle.dp_core.specs.pair_order.Entries.{place_among, entry_of}
use Rattle.dp_core.proofs.pair_order.Placing.{entry_absent}
use Rattle.order_search.proofs.Tests.{same_number}

-- the symbol stands at this place
pub record StandsAt (symbols : List ℕ) (f i : ℕ) : Type 0 where
  pub within : i < length symbols
  pub there : get_or symbols i 0 ≡ f
  pub listed : is_listed f symbols ≡ true

stands_first : (g : ℕ) (gs : List ℕ) (f i : ℕ) → Some 0 ≡ Some i → (g == f) ≡ true → StandsAt (g ∷ gs) f i
stands_first g gs f zero e is = record { within = omega arith; there = same_number g f is; listed = ap (λ b. b || is_listed f gs) is }
stands_first g gs f (suc i) e is = absurd cc

or_true : (b : Bool) → b || true ≡ true
or_true true = refl
or_true false = refl

stands_later : (g : ℕ) (gs : List ℕ) (f i j : ℕ) → Some (suc j) ≡ Some i → StandsAt gs f j → StandsAt (g ∷ gs) f i
stands_later g gs f zero j e h = absurd cc
stands_later g gs f (suc i) j e h =
    let same : j ≡ i = cc in
    let at = h.within in
    record {
      within = omega (arith, at, same);
      there = ap (λ (k : ℕ). get_or gs k 0) (sym same) ∙ h.there;
      listed = ap (λ b. (g == f) || b) h.listed ∙ or_true (g == f);
    }

pub stands_at : (symbols : List ℕ) (f i : ℕ) → place_among symbols f ≡ Some i → StandsAt symbols f i
stands_at [] f i e = absurd cc
stands_at (g ∷ gs) f i e = by_test (λ j rest. stands_at gs f j rest) (g == f) refl (place_among gs f) refl e
  where
    by_test : ((j : ℕ) → place_among gs f ≡ Some j → StandsAt gs f j) → (b : Bool) → (g == f) ≡ b → (o : Option ℕ) → place_among gs f ≡ o
        → (if b then Some 0 else option_map suc o) ≡ Some i → StandsAt (g ∷ gs) f i
    by_test later true is o rest k = stands_first g gs f i k is
    by_test later false is None rest k = absurd cc
    by_test later false is (Some j) rest k = stands_later g gs f i j k (later j rest)

module _ {Entry : Type 0} (symbol_of : Entry → ℕ) (said : ℕ → Entry) (named : (f : ℕ) → symbol_of (said f) ≡ f) where
  names : (symbols : List ℕ) → map symbol_of (map said symbols) ≡ symbols
  names [] = refl
  names (f ∷ symbols) = ap₂ (λ (x : ℕ) (l : List ℕ). x ∷ l) (named f) (names symbols)

  pub no_entry_said : (symbols : List ℕ) (f : ℕ) → place_among symbols f ≡ None → entry_of symbol_of (map said symbols) f ≡ None
  no_entry_said symbols f e =
      entry_absent symbol_of (map said symbols) f (place_among symbols f) (ap (λ (l : List ℕ). place_among l f) (sym (names symbols))) e
