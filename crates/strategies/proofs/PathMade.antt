-- The entries of a path order that is found are those of a well-made step.
use Rattle.std.specs.Prelude.{◌≡◌, ◌<◌, ◌≤◌, ℕ, ◌+◌, ◌-◌, ◌*◌, Bool, true, false, ◌&&◌, ◌==◌, nat_lt, nat_le, if◌then◌else◌, List, [], ◌∷◌, length}
use Rattle.std.specs.List.{AllByRecursion}
use Rattle.std.proofs.Common.{zero, suc, refl, sym, subst, arith}
use Rattle.std.proofs.lemmas.Bool.Decides.{nat_tests}
use Rattle.trs_defs.specs.System.{System, IsSystem}
use Rattle.order_theory.specs.ArgumentFilter.{To, Keep}
use Rattle.order_theory.specs.Keeping.{places_from}
use Rattle.cert_step.specs.path_lpo.Table.{PathEntry, symbol_of, AscendsFrom}
use Rattle.cert_step.specs.path_lpo.WellMade.{IsFilterWithin}
use Rattle.order_find.specs.order_search.Slots.{Slot, Table, table_of}
use Rattle.order_find.specs.order_search.OrderSpace.{arity_with_mark}
use Rattle.order_find.proofs.order_search.Tests.{lt_is}
use Rattle.order_find.specs.lpo_find.LpoSpace.{all_but, filter_count, filter_number, lpo_values}
use Rattle.order_find.specs.lpo_find.LpoRow.{lpo_entry, lpo_search}
use Rattle.order_find.specs.lpo_find.Laws.{FindsLpo}
use Rattle.cert_step.specs.Entries.{AreDistinct, ArePathEntries}
use Rattle.strategies.proofs.Distinctness.{names_said, each_said}
use Rattle.strategies.proofs.SymbolArities.{arity_there, all_distinct}
use Rattle.strategies.proofs.TableValues.{small_value}

-- ---- filters

ascending : (m place n : ℕ) → m < place → AscendsFrom m (places_from place n)
ascending m place zero before = tt
ascending m place (suc n) before = (before, ascending place (suc place) n (omega arith))

lower : (m k : ℕ) (places : List ℕ) → m < k → AscendsFrom k places → AscendsFrom m places
lower m k [] before up = tt
lower m k (p ∷ places) before up = (let next = up.0 in (omega (arith, before, next), up.1))

kept_or_not : (b : Bool) (m p : ℕ) (places : List ℕ) → m < p → AscendsFrom p places → AscendsFrom m (if b then places else p ∷ places)
kept_or_not true m p places before up = lower m p places before up
kept_or_not false m p places before up = (before, up)

still_ascending : (out m : ℕ) (places : List ℕ) → AscendsFrom m places → AscendsFrom m (all_but out places)
still_ascending out m [] up = tt
still_ascending out m (p ∷ places) up = kept_or_not (p == out) m p (all_but out places) up.0 (still_ascending out p places up.1)

within : (most place n : ℕ) → place + n ≤ most + 1 → AllByRecursion (λ p. p ≤ most) (places_from place n)
within most place zero h = tt
within most place (suc n) h = (omega (arith, h), within most (suc place) n (omega (arith, h)))

within_or_not : (b : Bool) (most p : ℕ) (places : List ℕ) → p ≤ most → AllByRecursion (λ p. p ≤ most) places
    → AllByRecursion (λ p. p ≤ most) (if b then places else p ∷ places)
within_or_not true most p places here all = all
within_or_not false most p places here all = (here, all)

still_within : (most out : ℕ) (places : List ℕ) → AllByRecursion (λ p. p ≤ most) places → AllByRecursion (λ p. p ≤ most) (all_but out places)
still_within most out [] all = tt
still_within most out (p ∷ places) all = within_or_not (p == out) most p (all_but out places) all.0 (still_within most out places all.1)

later_filter : (n v : ℕ) (b d : Bool) → (b ≡ true → v < n)
    → IsFilterWithin n (if b then To (v + 1) else (if d then Keep (all_but (v - n + 1) (places_from 1 n)) else Keep []))
later_filter n v true d below = (let h = below refl in (omega arith, omega (arith, h)))
later_filter n v false true below = (
  still_ascending (v - n + 1) 0 (places_from 1 n) (ascending 0 1 n (omega arith)),
  still_within n (v - n + 1) (places_from 1 n) (within n 1 n (omega arith)),
)
later_filter n v false false below = (tt, tt)

filter_within : (n v : ℕ) → IsFilterWithin n (filter_number n v)
filter_within n zero = (ascending 0 1 n (omega arith), within n 1 n (omega arith))
filter_within n (suc v) = later_filter n v (nat_lt v n) (nat_lt v (2 * n) && nat_le 2 n) (lt_is v n)

-- ---- ranks

not_zero : (p : ℕ) → (p == 1) ≡ true → (p == 0) ≡ false
not_zero p e = grind (arith, nat_tests)

few_ranks : (arity : ℕ → ℕ) (s : Slot) → (s.part == 1) ≡ true → lpo_values arity s < 8 + 1
few_ranks arity s e = subst (λ (b : Bool). (if b then filter_count (arity s.symbol) else 8) < 8 + 1) (sym (not_zero s.part e)) (omega arith)

pub path_made : (system : System) → IsSystem system → length system.arities ≤ 4095 → (numbers : List ℕ) (budget : ℕ) (entries : List PathEntry)
    → FindsLpo system numbers budget entries → ArePathEntries system.arities entries
path_made system valid few numbers budget entries h =
    let arity = arity_with_mark system.arities in
    let sought = lpo_search system h.pairs h.symbols in
    let table : Table = table_of sought.slots h.values in
    let rank : (f : ℕ) → table f 1 < 8 = small_value sought h.values 1 8 h.first.0 (omega arith) (few_ranks arity) in
    subst (ArePathEntries system.arities) (sym h.are) (record {
      each = each_said (lpo_entry arity table) _ h.symbols (λ f i. (
        arity f,
        arity_there system valid few numbers h.pairs h.symbols h.of_problem f i,
        (let small = rank f in omega (arith, small)),
        filter_within (arity f) (table f 0),
      ));
      distinct = subst AreDistinct (sym (names_said (lpo_entry arity table) symbol_of (λ f. refl) h.symbols))
          (all_distinct system valid few numbers h.pairs h.symbols h.of_problem);
    })
