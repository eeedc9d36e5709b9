-- Pieces that are put one behind the other.
use Rattle.std.proofs.Common.{◌≡◌, ◌≤◌, ◌+◌, ℕ, List, ◌∷◌, ◌++◌, length, take, Result, Ok, Err, IsErr, decimal, subst, sym, ◌∙◌, arith}
use native.Mathlib.Decide.{dec_le}
use Rattle.std.specs.Io.KnownBytes.{Appends}
use Rattle.std.proofs.KnownBytes.{Appends-trans}
use Rattle.std.proofs.Math.Nat.{lt_of_not-le}
use Rattle.std.proofs.lemmas.List.{take-append-le, take_all}
use Rattle.std.proofs.Math.Seq.{take-append_seam, take-append-add}
use Rattle.io_edge.specs.Edge.{Rose}
use Rattle.io_edge.specs.Sink.{SinkMeaning, AppendsTo, AppendsPrefix, NoSinkCountFell}
use Rattle.program_edge.specs.Puts.{Puts}
use Rattle.program_edge.specs.Numbers.{fields_text}

-- a front of a piece is a front of what begins with it
front_of : (xs ys : List ℕ) (n : ℕ) → (m : ℕ) × (take m (xs ++ ys) ≡ take n xs)
front_of xs ys n = go (dec_le n (length xs))
  where
    go : Dec (n ≤ length xs) → (m : ℕ) × (take m (xs ++ ys) ≡ take n xs)
    go (yes h) = (n, take-append-le n xs ys h)
    go (no h) = (length xs, take-append_seam xs ys ∙ sym (take_all n xs (omega (arith, lt_of_not-le h))))

-- where the first of two pieces was not put whole
pub puts_first : {X E : Type 0} (r : Result X E) (before now : SinkMeaning) (xs ys : List ℕ) → IsErr r
    → AppendsPrefix before xs now × Rose before.faults now.faults × NoSinkCountFell before now → Puts r before (xs ++ ys) now
puts_first (Ok x) before now xs ys err h = absurd cc
puts_first (Err e) before now xs ys err ((n, h), rose, counts) =
    let front = front_of xs ys n in ((front.0, subst (Appends before.taken now.taken) (sym front.1) h), rose, counts)

-- where the first was, and the second was then put
pub puts_then : {X E : Type 0} (r : Result X E) (before middle now : SinkMeaning) (xs ys : List ℕ) → AppendsTo before xs middle × NoSinkCountFell before middle
    → Puts r middle ys now → Puts r before (xs ++ ys) now
puts_then (Ok x) before middle now xs ys (a, (f, c)) (b, (g, d)) = (Appends-trans before.taken middle.taken now.taken xs ys a b, (omega (arith, f, g), omega (arith, c, d)))
puts_then (Err e) before middle now xs ys (a, (f, c)) ((n, h), rose, (g, d)) = (
  (length xs + n, subst (Appends before.taken now.taken) (sym (take-append-add xs ys n)) (Appends-trans before.taken middle.taken now.taken xs (take n ys) a h)),
  omega (arith, f, rose),
  (omega (arith, f, g), omega (arith, c, d)),
)

-- numbers of which the first was not put whole
pub fields_first : {X E : Type 0} (r : Result X E) (before now : SinkMeaning) (fields rest : List ℕ) (n : ℕ) → fields ≡ n ∷ rest → IsErr r
    → AppendsPrefix before (32 ∷ decimal n) now × Rose before.faults now.faults × NoSinkCountFell before now → Puts r before (fields_text fields) now
fields_first r before now fields rest n e err h =
    subst (λ ns. Puts r before (fields_text ns) now) (sym e) (puts_first r before now (32 ∷ decimal n) (fields_text rest) err h)

-- numbers of which the first was, and the others were then put
pub fields_then : {X E : Type 0} (r : Result X E) (before middle now : SinkMeaning) (fields rest : List ℕ) (n : ℕ) → fields ≡ n ∷ rest
    → AppendsTo before (32 ∷ decimal n) middle × NoSinkCountFell before middle → Puts r middle (fields_text rest) now → Puts r before (fields_text fields) now
fields_then r before middle now fields rest n e h p =
    subst (λ ns. Puts r before (fields_text ns) now) (sym e) (puts_then r before middle now (32 ∷ decimal n) (fields_text rest) h p)
