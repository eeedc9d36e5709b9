-- Tables of words, one behind the other.
use Rattle.std.proofs.Common.{◌≡◌, ℕ, Bool, true, false, cond, List, [], ◌∷◌, ◌++◌, Ok, Err, refl}
use Rattle.std.specs.List.{AllByRecursion}
use Rattle.std.specs.Str.{bytes_eq}
use Rattle.text_reading.specs.Reading.{Read, chosen}

-- what stands for a word by the first table, or else by the second
abbrev pub or_else : {A : Type 0} → Read A → Read A → Read A
or_else (Ok x) s = Ok x
or_else (Err p) s = s

append_by : {A : Type 0} (x : A) (r s t : Read A) (b : Bool) → r ≡ or_else s t → cond b (Ok x) r ≡ or_else (cond b (Ok x) s) t
append_by x r s t true e = refl
append_by x r s t false e = e

pub chosen_append : {A : Type 0} (cs ds : List (List ℕ × A)) (at : ℕ) (w : List ℕ) → chosen (cs ++ ds) at w ≡ or_else (chosen cs at w) (chosen ds at w)
chosen_append [] ds at w = refl
chosen_append (c ∷ cs) ds at w = append_by c.1 (chosen (cs ++ ds) at w) (chosen cs at w) (chosen ds at w) (bytes_eq w c.0) (chosen_append cs ds at w)

-- what holds of each entry
pub all_append : {X : Type 0} (P : X → Type 0) (xs ys : List X) → AllByRecursion P xs → AllByRecursion P ys → AllByRecursion P (xs ++ ys)
all_append P [] ys h k = k
all_append P (x ∷ xs) ys h k = (h.0, all_append P xs ys h.1 k)
