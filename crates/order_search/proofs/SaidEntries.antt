-- The entries that a table says for symbols.
use Rattle.std.specs.Prelude.{◌≡◌, ℕ, Bool, true, false, ◌||◌, ◌==◌, if◌then◌else◌, is_some, List, [], ◌∷◌, map, Option, Some}
use Rattle.std.proofs.Common.{refl, ap, ◌∙◌}
use Rattle.trs_defs.specs.Variable.{is_listed}
use Rattle.dp_core.specs.pair_order.Entries.{entry_of, has_entry}
use Rattle.order_search.proofs.Tests.{same_number}

module _ {Entry : Type 0} (symbol_of : Entry → ℕ) (said : ℕ → Entry) (named : (f : ℕ) → symbol_of (said f) ≡ f) where
  pick : (b : Bool) (g f : ℕ) (o : Option Entry) (rest : Bool) → (g == f) ≡ b → (b || rest) ≡ true → (rest ≡ true → o ≡ Some (said f))
      → (if b then Some (said g) else o) ≡ Some (said f)
  pick true g f o rest is e later = ap (λ (x : ℕ). Some (said x)) (same_number g f is)
  pick false g f o rest is e later = later e

  entry_there : (symbols : List ℕ) (f : ℕ) → is_listed f symbols ≡ true → entry_of symbol_of (map said symbols) f ≡ Some (said f)
  entry_there [] f e = absurd cc
  entry_there (g ∷ symbols) f e =
      ap (λ (x : ℕ). if x == f then Some (said g) else entry_of symbol_of (map said symbols) f) (named g)
      ∙ pick (g == f) g f _ (is_listed f symbols) refl e (entry_there symbols f)

  module _ (symbols : List ℕ) (entries : List Entry) (are : entries ≡ map said symbols) where
    pub entry_said : (f : ℕ) → is_listed f symbols ≡ true → entry_of symbol_of entries f ≡ Some (said f)
    entry_said f e = ap (λ (l : List Entry). entry_of symbol_of l f) are ∙ entry_there symbols f e

    pub entry_is_there : (f : ℕ) → is_listed f symbols ≡ true → has_entry symbol_of entries f ≡ true
    entry_is_there f e = ap is_some (entry_said f e)
