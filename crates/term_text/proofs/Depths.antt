-- Tests of the limits of terms.
use Rattle.std.proofs.Common.{◌≡◌, ℕ, ◌+◌, ◌-◌, max, ◌&&◌, nat_le, Bool, true, false, cond, Some, None, refl, arith}
use Rattle.std.specs.Prelude.{is_some}
use Rattle.std.proofs.lemmas.Bool.Decides.{nat_tests}
use Rattle.term_text.specs.Limits.{nodes_left}

pub max_within : (m n limit : ℕ) → nat_le (max m n) limit ≡ (nat_le m limit && nat_le n limit)
max_within m n limit = grind (arith, nat_tests)

pub one_more_within : (m limit : ℕ) → nat_le (1 + m) (limit + 1) ≡ nat_le m limit
one_more_within m limit = grind (arith, nat_tests)

left_of : (b : Bool) (n : ℕ) → is_some (cond b (Some n) None) ≡ b
left_of true n = refl
left_of false n = refl

pub some_left : (n room : ℕ) → is_some (nodes_left n (Some room)) ≡ nat_le n room
some_left n room = left_of (nat_le n room) (room - n)
