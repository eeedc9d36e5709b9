-- The coefficients that stand at the row of a symbol are the symbol's.
use Rattle.std.specs.Prelude.{◌≡◌, ◌≢◌, ℕ, Bool, true, false, List, [], ◌∷◌, Option, Some, None, map, slice_index, ◌==◌, if◌then◌else◌}
use Rattle.std.proofs.Common.{refl, sym, ap, ◌∙◌, arith}
use Rattle.std.proofs.lemmas.Bool.Decides.{nat_tests}
use Rattle.std.proofs.lemmas.Bool.{cond-false}
use Rattle.pair_order.specs.Entries.{place_among}
use Rattle.pair_order.proofs.Placing.{entry_there, entry_absent}
use Rattle.poly_lin.specs.Table.{symbol_of, polynomial_of, coefficient_in}
use Rattle.poly_lin.specs.Rows.{polynomial_at}
use Rattle.poly_lin.specs.declared.rows.Row.TheVariants.{Pairing, Entry, Missing}

if_true : (b : Bool) (x y : List ℕ) → b ≡ true → (if b then x else y) ≡ x
if_true true x y e = refl
if_true false x y e = absurd cc

module _ (entries : List (ℕ × List ℕ)) (f : ℕ) where
  pub pairing_row : f ≡ 8191 → (i : ℕ) → slice_index (polynomial_at entries Pairing) i ≡ coefficient_in entries f i
  pairing_row same i =
      let test : (f == 8191) ≡ true = grind (arith, nat_tests) in
      ap (λ l. slice_index l i) (sym (if_true (f == 8191) (0 ∷ 1 ∷ 1 ∷ []) _ test))

  module _ (other : f ≢ 8191) (o : Option ℕ) (is : o ≡ place_among (map symbol_of entries) f) where
    no_pairing : (f == 8191) ≡ false
    no_pairing = grind (arith, nat_tests)

    pub entry_row : (k : ℕ) → o ≡ Some k → (i : ℕ) → slice_index (polynomial_at entries (Entry k)) i ≡ coefficient_in entries f i
    entry_row k some i =
        ap (λ l. slice_index l i) (sym (cond-false (f == 8191) (0 ∷ 1 ∷ 1 ∷ []) _ no_pairing ∙ ap polynomial_of (entry_there symbol_of entries f k o is some)))

    pub missing_row : o ≡ None → (i : ℕ) → slice_index (polynomial_at entries Missing) i ≡ coefficient_in entries f i
    missing_row none i =
        ap (λ l. slice_index l i) (sym (cond-false (f == 8191) (0 ∷ 1 ∷ 1 ∷ []) _ no_pairing ∙ ap polynomial_of (entry_absent symbol_of entries f o is none)))
