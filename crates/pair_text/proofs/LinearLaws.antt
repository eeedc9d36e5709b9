-- Tables of linear polynomials: what is read is in range, and what is printed is read again.
use Rattle.std.proofs.Common.{◌≡◌, ℕ, suc, ◌+◌, ◌-◌, ◌<◌, ◌≤◌, ◌^◌, false, List, [], ◌∷◌, length, map, Some, Ok, refl, sym, subst, ◌∙◌, arith}
use Rattle.std.specs.List.{AllByRecursion}
use Rattle.sexp_core.specs.Items.{Items, items_of}
use Rattle.trs_defs.specs.Variable.{is_listed}
use Rattle.poly_lin.specs.Table.{symbol_of}
use Rattle.poly_lin.specs.WellMade.{IsLinearEntry}
use Rattle.names_text.specs.Named.{NamedSystem, IsNamed}
use Rattle.names_text.specs.declared.table.Symbol.{Symbol}
use Rattle.text_reading.specs.Reading.{form}
use Rattle.text_reading.specs.Numbers.{number}
use Rattle.text_reading.specs.Printed.{number_item}
use Rattle.text_reading.proofs.Made.{Makes, made_form, made_number}
use Rattle.text_reading.proofs.Again.{Spells, SpellsAll, spells_each, spells_number}
use Rattle.pair_text.specs.LongLists.{lacks}
use Rattle.pair_text.specs.Entries.{AreNewBehind}
use Rattle.pair_text.proofs.LongListLaws.{AreExactly, made_exactly, spells_exactly}
use Rattle.pair_text.proofs.EntryLaws.{IsNewSymbol, IsNewEntry, entry_made, spells_as_form, entry_again, entries_made, entries_again}
use Rattle.pair_text.specs.LinearEntries.{polynomial, coefficients, linear_entry, linear_entry_item, linear_entries}

-- ---- what is read

abbrev IsCoefficient : ℕ → Type 0
IsCoefficient c = c < 2 ^ 63

coefficient_made : Makes (number (2 ^ 63 - 1)) IsCoefficient
coefficient_made x v e = let le = made_number (2 ^ 63 - 1) x v e in omega (arith, le)

linear_made : (named : NamedSystem) → length named.system.arities ≤ 4095 → (known : List ℕ) → Makes (linear_entry named known) (IsNewEntry symbol_of (IsLinearEntry named.system.arities) known)
linear_made named few known =
    let P : ℕ × List ℕ → Type 0 = IsNewEntry symbol_of (IsLinearEntry named.system.arities) known in
    entry_made named few 1 (λ s. form (coefficients s) (polynomial s)) P known (λ s new at xs v e.
    let (numbers, count, each, same) =
    made_form (coefficients s) (AreExactly (suc s.arity) IsCoefficient) (polynomial s) (made_exactly (suc s.arity) (number (2 ^ 63 - 1)) IsCoefficient coefficient_made) at xs v e
    in
    subst P same ((s.arity, new.arity, omega (arith, count), each), new.new))

pub linear_entries_made : (named : NamedSystem) → length named.system.arities ≤ 4095 → (xs : Items) (es : List (ℕ × List ℕ)) → linear_entries named xs ≡ Ok es
    → AllByRecursion (IsLinearEntry named.system.arities) es × AreNewBehind [] (map symbol_of es)
linear_entries_made named few xs es e = entries_made symbol_of (linear_entry named) (IsLinearEntry named.system.arities) (linear_made named few) xs es e

-- ---- what is printed is read again

has_first : (cs : List ℕ) (n : ℕ) → length cs ≡ n + 1 → lacks 1 (items_of (map number_item cs)) ≡ false
has_first [] n e = absurd (omega arith)
has_first (c ∷ cs) n e = refl

linear_again : (named : NamedSystem) → IsNamed named → (known : List ℕ) (e : ℕ × List ℕ) → IsLinearEntry named.system.arities e → is_listed e.0 known ≡ false
    → Spells (linear_entry named known) 1 (linear_entry_item named e) e
linear_again named is known (f, cs) (n, arity, count, each) new =
    let s : Symbol = record { number = f; arity = n } in
    entry_again named is 1 (λ t. form (coefficients t) (polynomial t)) known f n 0 (items_of (map number_item cs)) (f, cs) (record { arity = arity; new = new }) (has_first cs n count)
    (spells_as_form (coefficients s) (polynomial s) (spells_exactly (suc n) (number (2 ^ 63 - 1)) number_item cs (polynomial s) (omega (arith, count))
    (spells_each (number (2 ^ 63 - 1)) number_item 0 IsCoefficient (λ c lt. spells_number (2 ^ 63 - 1) c (omega (arith, lt)) (omega (arith, lt))) cs each)))

pub linear_entries_again : (named : NamedSystem) → IsNamed named → (es : List (ℕ × List ℕ)) → AllByRecursion (IsLinearEntry named.system.arities) es → AreNewBehind [] (map symbol_of es)
    → SpellsAll (linear_entries named) 1 (items_of (map (linear_entry_item named) es)) es
linear_entries_again named is es each new =
    let s = entries_again symbol_of (linear_entry named) (linear_entry_item named) 1 (IsLinearEntry named.system.arities) (linear_again named is) es each new in
    record { again = s.again; words = s.words; deep = s.deep }
