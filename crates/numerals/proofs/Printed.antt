-- Printed numbers are read again.
use Rattle.std.proofs.Common.{◌≡◌, ℕ, zero, suc, ◌+◌, ◌-◌, ◌*◌, ◌^◌, ◌<◌, ◌≤◌, true, List, [], ◌∷◌, length, get_or, Some, decimal, nat_le, refl, ap, ◌∙◌, arith, rules}
use Rattle.std.specs.Char.{is_ascii_digit}
use Rattle.std.specs.Str.{all_ascii_digits}
use Rattle.std.proofs.lemmas.Bool.{and_parts, le-leb, ne_eqb}
use Rattle.std.proofs.lemmas.Fmt.{decimal_nonempty, decimal_digit, first_decimal, digits_decimal, digits_value-decimal}
use Rattle.std.proofs.lemmas.Str.Parse.{IsNumeralModel, numerals_by_fold, tells_all_ascii_digits}
use Rattle.numerals.specs.Numerals.{digits_behind, digits_value, numeral_value}

abbrev read_on : ℕ → List ℕ → ℕ
read_on n [] = n
read_on n (d ∷ ds) = read_on (n * 10 + (d - 48)) ds

own : IsNumeralModel (λ ds. all_ascii_digits ds ≡ true) (read_on 0)
own = numerals_by_fold _ tells_all_ascii_digits read_on (search rules)

le_read_on : (ds : List ℕ) (n : ℕ) → n ≤ read_on n ds
le_read_on [] n = omega arith
le_read_on (d ∷ ds) n = omega (arith, le_read_on ds (n * 10 + (d - 48)))

behind_reads : (limit : ℕ) (ds : List ℕ) (n : ℕ) → all_ascii_digits ds ≡ true → read_on n ds ≤ limit → digits_behind limit n ds ≡ Some (read_on n ds)
behind_reads limit [] n e le = refl
behind_reads limit (d ∷ ds) n e le =
    let parts = and_parts (is_ascii_digit d) (all_ascii_digits ds) e in
    let next = n * 10 + (d - 48) in
    let small : nat_le next limit ≡ true = le-leb next limit (omega (arith, le_read_on ds next)) in
    rw (parts.0, small) (behind_reads limit ds next parts.1 le)

value_reads : (limit : ℕ) (ds : List ℕ) → 0 < length ds → all_ascii_digits ds ≡ true → read_on 0 ds ≤ limit → digits_value limit ds ≡ Some (read_on 0 ds)
value_reads limit [] lt e le = absurd (omega arith)
value_reads limit (d ∷ ds) lt e le = behind_reads limit (d ∷ ds) 0 e le

pub decimal_digits : (n : ℕ) → n < 2 ^ 64 → all_ascii_digits (decimal n) ≡ true
decimal_digits n lt = digits_decimal own n lt

pub digits_read : (limit n : ℕ) → n < 2 ^ 64 → n ≤ limit → digits_value limit (decimal n) ≡ Some n
digits_read limit n lt le =
    let value : read_on 0 (decimal n) ≡ n = digits_value-decimal own n lt in
    value_reads limit (decimal n) (decimal_nonempty n lt) (decimal_digits n lt) (omega (arith, value)) ∙ ap (λ m. Some m) value

one_digit : (limit : ℕ) (ds : List ℕ) (d : ℕ) → ds ≡ d ∷ [] → numeral_value limit ds ≡ digits_value limit ds
one_digit limit ds d e = rw e refl

not_led : (limit : ℕ) (ds : List ℕ) → 0 < length ds → 48 < get_or ds 0 0 → numeral_value limit ds ≡ digits_value limit ds
not_led limit [] lt h = absurd (omega arith)
not_led limit (d ∷ []) lt h = refl
not_led limit (d ∷ c ∷ ds) lt h = rw (ne_eqb d 48 (λ e. absurd (omega arith))) refl

-- a printed number is read again
pub number_read : (limit n : ℕ) → n < 2 ^ 64 → n ≤ limit → numeral_value limit (decimal n) ≡ Some n
number_read limit zero lt le = one_digit limit (decimal 0) 48 (decimal_digit 0 (omega arith)) ∙ digits_read limit 0 lt le
number_read limit (suc n) lt le =
    not_led limit (decimal (suc n)) (decimal_nonempty (suc n) lt) (first_decimal (suc n) (omega arith) lt) ∙ digits_read limit (suc n) lt le
