-- What the entries that a table says tell of terms whose symbols have one.
use Rattle.std.specs.Prelude.{◌≡◌, ℕ, Bool, true, false, ◌||◌, ◌==◌, if◌then◌else◌, slice_index, List, [], ◌∷◌, map}
use Rattle.std.proofs.Common.{refl, ap, ap₂, subst, ◌∙◌, inl, inr}
use Rattle.trs_defs.specs.Member.{in_first, in_rest}
use Rattle.trs_defs.specs.Variable.{is_listed}
use Rattle.trs_defs.specs.System.{RewriteRule}
use Rattle.poly_lin.specs.Table.{symbol_of, polynomial_of, coefficient_in}
use Rattle.assign_search.proofs.Refuting.{true_or_false}
use Rattle.order_search.specs.Slots.{Table}
use Rattle.order_search.specs.OrderSpace.{occurs_in, AreCovered, some_falls, arity_with_mark}
use Rattle.order_search.proofs.SaidEntries.{entry_said}
use Rattle.order_search.proofs.Tests.{same_number}
use Rattle.poly_find.specs.LinearTest.{linear_weak, linear_strict}
use Rattle.poly_find.specs.PolySpace.{coefficient_by, poly_weak, poly_strict}
use Rattle.poly_find.specs.PolyRow.{poly_entry}
use Rattle.poly_find.specs.PolyDepends.{weak_same, strict_same}

if_false : (b : Bool) (x y : List ℕ) → b ≡ false → (if b then x else y) ≡ y
if_false true x y e = absurd cc
if_false false x y e = refl

module _ (arities : List ℕ) (table : Table) (symbols : List ℕ) (no_pairing : is_listed 8191 symbols ≡ false)
    (entries : List (ℕ × List ℕ)) (are : entries ≡ map (poly_entry arities table) symbols) where
  other_symbol : (f : ℕ) → is_listed f symbols ≡ true → (f == 8191) ≡ false
  other_symbol f there = elim (true_or_false (f == 8191)) [
    | inl same ↦ (let here : is_listed 8191 symbols ≡ true = subst (λ g. is_listed g symbols ≡ true) (same_number f 8191 same) there in absurd cc)
    | inr other ↦ other
  ]

  said_coefficient : (f : ℕ) → is_listed f symbols ≡ true → (i : ℕ) → coefficient_in entries f i ≡ coefficient_by (arity_with_mark arities) table f i
  said_coefficient f there i =
      ap (λ l. slice_index l i) (if_false (f == 8191) (0 ∷ 1 ∷ 1 ∷ []) _ (other_symbol f there)
      ∙ ap polynomial_of (entry_said symbol_of (poly_entry arities table) (λ f. refl) symbols entries are f there))

  module _ (r : RewriteRule) (covered : (f : ℕ) → occurs_in f r.left || occurs_in f r.right ≡ true → is_listed f symbols ≡ true) where
    pub weak_by_entries : linear_weak (coefficient_in entries) r.left r.right ≡ poly_weak (arity_with_mark arities) table r.left r.right
    weak_by_entries = weak_same (coefficient_in entries) (coefficient_by (arity_with_mark arities) table) r.left r.right (λ f here. said_coefficient f (covered f here))

    pub strict_by_entries : linear_strict (coefficient_in entries) r.left r.right ≡ poly_strict (arity_with_mark arities) table r.left r.right
    strict_by_entries = strict_same (coefficient_in entries) (coefficient_by (arity_with_mark arities) table) r.left r.right (λ f here. said_coefficient f (covered f here))

  pub some_by_entries : (rules : List RewriteRule) → AreCovered symbols rules
      → some_falls (linear_strict (coefficient_in entries)) rules ≡ some_falls (poly_strict (arity_with_mark arities) table) rules
  some_by_entries [] covered = refl
  some_by_entries (r ∷ rules) covered =
      ap₂ (λ a b. a || b) (strict_by_entries r (covered r in_first)) (some_by_entries rules (λ q i. covered q (in_rest i)))
