-- What was read without a fault, by its parts.
use Rattle.std.proofs.Common.{◌≡◌, Ok, Err, refl}
use Rattle.term_text.specs.Checked.{Checked, ◌<*>◌}

pub ok_same : {A : Type 0} (x y : A) → (let r : Checked A = Ok x in r ≡ Ok y) → x ≡ y
ok_same x y e = cc

-- two parts that were read, of which a function makes a value
pub record TwoParts {A B C : Type 0} (f : A → B → C) (r : Checked A) (s : Checked B) (v : C) : Type 0 where
  pub first : A
  pub second : B
  pub is_first : r ≡ Ok first
  pub is_second : s ≡ Ok second
  pub made : f first second ≡ v

pub two_parts : {A B C : Type 0} (f : A → B → C) (r : Checked A) (s : Checked B) (v : C) → Ok f <*> r <*> s ≡ Ok v → TwoParts f r s v
two_parts f (Ok x) (Ok y) v e = record { first = x; second = y; is_first = refl; is_second = refl; made = ok_same (f x y) v e }
two_parts f (Ok x) (Err q) v e = absurd cc
two_parts f (Err p) (Ok y) v e = absurd cc
two_parts f (Err p) (Err q) v e = absurd cc
