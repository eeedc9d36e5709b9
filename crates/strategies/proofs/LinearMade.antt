-- The entries of a linear interpretation that is found are those of a well-made step.
use Rattle.std.specs.Prelude.{◌≡◌, ◌<◌, ◌≤◌, ℕ, ◌+◌, ◌^◌, List, map, length, Some}
use Rattle.std.specs.List.{AllByRecursion}
use Rattle.std.proofs.Common.{zero, suc, refl, sym, ap, subst, arith}
use Rattle.trs_defs.specs.Member.{In}
use Rattle.trs_defs.specs.System.{RewriteRule, System, IsSystem}
use Rattle.pair_theory.specs.ReductionPair.{marked_rule}
use Rattle.order_theory.specs.KnuthBendix.{arity_with_marks}
use Rattle.cert_step.specs.poly_lin.Table.{symbol_of}
use Rattle.order_find.specs.order_search.Slots.{Table, table_of}
use Rattle.order_find.specs.order_search.OrderSpace.{arity_with_mark}
use Rattle.order_find.specs.order_search.OrderOver.{IsOrderOver}
use Rattle.order_find.specs.poly_find.PolySpace.{values_from}
use Rattle.order_find.specs.poly_find.PolyRow.{poly_entry, poly_search}
use Rattle.order_find.specs.poly_find.Laws.{FindsPoly}
use Rattle.order_find.specs.poly_find.UsableRow.{FindsUsable}
use Rattle.cert_step.specs.Entries.{AreDistinct, AreLinearEntries}
use Rattle.strategies.proofs.Distinctness.{names_said, each_said}
use Rattle.strategies.proofs.SymbolArities.{arity_there, all_distinct, usable_arity_there, usable_distinct}
use Rattle.strategies.proofs.TableValues.{small_value}

many_values : (table : Table) (f part n : ℕ) → length (values_from table f part n) ≡ n
many_values table f part zero = refl
many_values table f part (suc n) = ap suc (many_values table f (suc part) n)

small_values : (table : Table) → ((f part : ℕ) → table f part < 3) → (f part n : ℕ) → AllByRecursion (λ c. c < 2 ^ 63) (values_from table f part n)
small_values table small f part zero = tt
small_values table small f part (suc n) = ((let one = small f part in omega (arith, one)), small_values table small f (suc part) n)

linear_entries : (arities symbols : List ℕ) (table : Table) → ((f : ℕ) → In f symbols → arity_with_marks arities f ≡ Some (arity_with_mark arities f))
    → AreDistinct symbols → ((f part : ℕ) → table f part < 3) → AreLinearEntries arities (map (poly_entry arities table) symbols)
linear_entries arities symbols table there distinct small = record {
  each = each_said (poly_entry arities table) _ symbols (λ f i. (
    arity_with_mark arities f,
    there f i,
    many_values table f 0 (arity_with_mark arities f + 1),
    small_values table small f 0 (arity_with_mark arities f + 1),
  ));
  distinct = subst AreDistinct (sym (names_said (poly_entry arities table) symbol_of (λ f. refl) symbols)) distinct;
}

-- over these symbols, rules and marked pairs
linear_over : (arities symbols : List ℕ) (rules pairs : List RewriteRule) (budget : ℕ) (entries : List (ℕ × List ℕ))
    → ((f : ℕ) → In f symbols → arity_with_marks arities f ≡ Some (arity_with_mark arities f)) → AreDistinct symbols
    → IsOrderOver (poly_entry arities) (poly_search arities symbols rules pairs) budget symbols entries → AreLinearEntries arities entries
linear_over arities symbols rules pairs budget entries there distinct h =
    let sought = poly_search arities symbols rules pairs in
    let table : Table = table_of sought.slots h.values in
    subst (AreLinearEntries arities) (sym h.are)
    (linear_entries arities symbols table there distinct (λ f part. small_value sought h.values part 3 h.first.0 (omega arith) (λ s e. omega arith) f))

module _ (system : System) (valid : IsSystem system) (few : length system.arities ≤ 4095) (numbers : List ℕ) (budget : ℕ) (entries : List (ℕ × List ℕ)) where
  pub linear_made : FindsPoly system numbers budget entries → AreLinearEntries system.arities entries
  linear_made h =
      linear_over system.arities h.symbols system.rules (map marked_rule h.pairs) budget entries (arity_there system valid few numbers h.pairs h.symbols h.of_problem)
      (all_distinct system valid few numbers h.pairs h.symbols h.of_problem) (record { values = h.values; first = h.first; are = h.are })

  pub usable_made : FindsUsable system numbers budget entries → AreLinearEntries system.arities entries
  usable_made h =
      linear_over system.arities h.symbols h.rules (map marked_rule h.pairs) budget entries (usable_arity_there system valid few numbers h.pairs h.rules h.symbols h.of_problem)
      (usable_distinct system valid few numbers h.pairs h.rules h.symbols h.of_problem) h.found
