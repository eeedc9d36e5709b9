-- The value of digits, and that of a numeral, keeps its limit.
use Rattle.std.proofs.Common.{◌≡◌, ℕ, ◌+◌, ◌-◌, ◌*◌, ◌≤◌, ◌&&◌, ◌==◌, nat_le, Bool, true, false, cond, List, [], ◌∷◌, Option, Some, None, refl, arith}
use Rattle.std.specs.Char.{is_ascii_digit}
use Rattle.std.proofs.lemmas.Bool.{leb-true, and_parts}
use Rattle.numerals.specs.Numerals.{digits_behind, digits_value, numeral_value}

step_within : (b : Bool) (limit next m : ℕ) (o : Option ℕ) → cond b o None ≡ Some m → (b ≡ true → next ≤ limit) → (next ≤ limit → o ≡ Some m → m ≤ limit) → m ≤ limit
step_within true limit next m o e within h = h (within refl) e
step_within false limit next m o e within h = absurd cc

behind_within : (limit n : ℕ) (ds : List ℕ) (m : ℕ) → n ≤ limit → digits_behind limit n ds ≡ Some m → m ≤ limit
behind_within limit n [] m h e = let same : n ≡ m = cc in omega arith
behind_within limit n (d ∷ ds) m h e =
    let next = n * 10 + (d - 48) in
    step_within (is_ascii_digit d && nat_le next limit) limit next m (digits_behind limit next ds) e
    (λ both. leb-true next limit (and_parts (is_ascii_digit d) (nat_le next limit) both).1) (λ within is. behind_within limit next ds m within is)

pub digits_within : (limit : ℕ) (ds : List ℕ) (m : ℕ) → digits_value limit ds ≡ Some m → m ≤ limit
digits_within limit [] m e = absurd cc
digits_within limit (d ∷ ds) m e = behind_within limit 0 (d ∷ ds) m (omega arith) e

led_within : (b : Bool) (limit m : ℕ) (ds : List ℕ) → cond b None (digits_value limit ds) ≡ Some m → m ≤ limit
led_within true limit m ds e = absurd cc
led_within false limit m ds e = digits_within limit ds m e

pub numeral_within : (limit : ℕ) (ds : List ℕ) (m : ℕ) → numeral_value limit ds ≡ Some m → m ≤ limit
numeral_within limit [] m e = absurd cc
numeral_within limit (d ∷ []) m e = digits_within limit (d ∷ []) m e
numeral_within limit (d ∷ e' ∷ ds) m e = led_within (d == 48) limit m (d ∷ e' ∷ ds) e
