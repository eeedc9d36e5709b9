-- Two lists that are gone through together.
use Rattle.std.specs.Prelude.{◌≡◌, ◌<◌, ℕ, List, length, zip, slice_get, Some}
use Rattle.std.proofs.Common.{get_or, arith, refl}
use Rattle.std.proofs.lemmas.Option.{slice_get_read}
use Rattle.rewrite_core.proofs.Items.{zipped}

-- items of the same number in two lists, as they are read
pub both_read : {A B : Type 0} (xs : List A) (ys : List B) (i : ℕ) (x : A) (y : B) → length ys ≡ length xs → i < length xs
    → x ≡ get_or xs i x → y ≡ get_or ys i y → slice_get (zip xs ys) i ≡ Some (x, y)
both_read xs ys i x y same lt e d = zipped xs ys i x y (slice_get_read xs (length xs) i x refl lt e) (slice_get_read ys (length ys) i y refl (omega (arith, same, lt)) d)
